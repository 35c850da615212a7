use Rattle.std.proofs.Common.{arith}
use Rattle.wl_process_rules.proofs.Releasing.{ready-within, bound_in_turn, bound_filled}
use Rattle.wl_process_rules.proofs.shard_output.ShardOutput.finish.Goals as goal

pub overflow_add-self : goal.overflow_add-self
overflow_add-self c = omega (arith, ready-within c.self.inside.later.items, c.self.invariant)

pub overflow_add-self-then-place-self : goal.overflow_add-self-then-place-self
overflow_add-self-then-place-self c = omega (arith, ready-within c.self.inside.later.items, c.self.invariant)

pub invariant_of-self : goal.invariant_of-self
invariant_of-self c =
    bound_in_turn c.self.inside.next c.remove_ready.result c.self.inside.later.items c.remove_ready.new.places.items (omega arith) c.self.invariant c.remove_ready.ensures.places c.remove_ready.ensures.count

pub invariant_of-self-then-place-self-2 : goal.invariant_of-self-then-place-self-2
invariant_of-self-then-place-self-2 c =
    bound_filled c.fill.result c.self.inside.next c.args.place c.args.bytes.now.items c.self.inside.later.items c.fill.new.places.items c.if-place-self-2.true (omega arith) c.self.invariant c.fill.ensures.ok c.fill.ensures.err
