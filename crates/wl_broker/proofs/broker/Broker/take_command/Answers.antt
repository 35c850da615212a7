use Rattle.std.proofs.Common.{◌≡◌, ◌<◌, ◌||◌, ℕ, List, Some, nat_lt, eqb, sym, ap, ◌∙◌, subst, arith}
use Rattle.std.proofs.Math.Path.{ap₂}
use Rattle.std.proofs.lemmas.Result.{IfOk-weaker}
use Rattle.wl_limits.specs.declared.tabs.TheConstants.{LAST_NUMBER}
use Rattle.wl_grammar.specs.declared.frame.Addressed.{Addressed}
use Rattle.wl_broker.specs.declared.seat.TabSeat.TheVariants.{Joined}
use Rattle.wl_broker.specs.Broker.{BrokerState, Taking, copied, IsTaken, next_of}
use Rattle.wl_broker.proofs.Drops.{not_joined, recovering, out_of_turn, taken_before, too_many, command_taken, perform_taken}
use Rattle.wl_broker.proofs.Fields.{joined_seen, seated_here, joined_here, next_here, active_here, turn_here, live_here, waiting_here, if_ok_mapped, if_err_always}
use Rattle.wl_broker.proofs.broker.Broker.take_command.Goals as goal

pub returns-then-not-is_joined-clause-dropped : goal.returns-then-not-is_joined-clause-dropped
returns-then-not-is_joined-clause-dropped g c = λ _.
    not_joined c.args.self.now c.args.tab c.args.partition c.args.number c.args.operation.now (joined_seen _ _ _ c.requires.seat c.is_joined.ensures ∙ c.if-not-is_joined.true)

pub returns-then-not-is_active_in-clause-dropped :
    goal.returns-then-not-is_active_in-clause-dropped
returns-then-not-is_active_in-clause-dropped g c = λ _.
    let b = c.self.inside in
    let joined = joined_here b.generation b.listed.entries b.seats.entries b.partitions.entries b.kept.entries c.args.self.now c.args.tab c.args.partition c.self.view_is c.requires.placed _ c.requires.seat (sym c.is_joined.ensures ∙ c.if-not-is_joined.false) in
    let active = active_here b.generation b.listed.entries b.seats.entries b.partitions.entries b.kept.entries c.args.self.now c.args.tab c.args.partition c.self.view_is c.requires.placed _ c.requires.seat (sym c.is_joined.ensures ∙ c.if-not-is_joined.false) _ c.row_at-row.ensures c.self.invariant.0 ∙ sym c.is_active_in.ensures ∙ c.if-not-is_active_in.true in
    recovering c.args.self.now c.args.tab c.args.partition c.args.number c.args.operation.now joined active

pub returns-then-is_out_of_turn-clause-dropped : goal.returns-then-is_out_of_turn-clause-dropped
returns-then-is_out_of_turn-clause-dropped g c = λ _.
    let b = c.self.inside in
    let joined = joined_here b.generation b.listed.entries b.seats.entries b.partitions.entries b.kept.entries c.args.self.now c.args.tab c.args.partition c.self.view_is c.requires.placed _ c.requires.seat (sym c.is_joined.ensures ∙ c.if-not-is_joined.false) in
    let active = active_here b.generation b.listed.entries b.seats.entries b.partitions.entries b.kept.entries c.args.self.now c.args.tab c.args.partition c.self.view_is c.requires.placed _ c.requires.seat (sym c.is_joined.ensures ∙ c.if-not-is_joined.false) _ c.row_at-row.ensures c.self.invariant.0 ∙ sym c.is_active_in.ensures ∙ c.if-not-is_active_in.false in
    let next = next_here b.generation b.listed.entries b.seats.entries b.partitions.entries b.kept.entries c.args.self.now c.args.tab c.args.partition c.self.view_is c.requires.placed _ c.requires.seat (sym c.is_joined.ensures ∙ c.if-not-is_joined.false) ∙ sym c.next_in-next.ensures in
    let out = ap (λ (m : ℕ). nat_lt m c.args.number || eqb c.args.number LAST_NUMBER) next ∙ sym c.is_out_of_turn.ensures ∙ c.if-is_out_of_turn.true in
    out_of_turn c.args.self.now c.args.tab c.args.partition c.args.number c.args.operation.now joined active out

pub returns-then-number-next-clause-taken : goal.returns-then-number-next-clause-taken
returns-then-number-next-clause-taken g c =
    let b = c.self.inside in
    let joined = joined_here b.generation b.listed.entries b.seats.entries b.partitions.entries b.kept.entries c.args.self.now c.args.tab c.args.partition c.self.view_is c.requires.placed _ c.requires.seat (sym c.is_joined.ensures ∙ c.if-not-is_joined.false) in
    let active = active_here b.generation b.listed.entries b.seats.entries b.partitions.entries b.kept.entries c.args.self.now c.args.tab c.args.partition c.self.view_is c.requires.placed _ c.requires.seat (sym c.is_joined.ensures ∙ c.if-not-is_joined.false) _ c.row_at-row.ensures c.self.invariant.0 ∙ sym c.is_active_in.ensures ∙ c.if-not-is_active_in.false in
    let turn = turn_here b.generation b.listed.entries b.seats.entries b.partitions.entries b.kept.entries c.args.self.now c.args.tab c.args.partition c.self.view_is c.requires.placed _ c.requires.seat (sym c.is_joined.ensures ∙ c.if-not-is_joined.false) _ c.args.number _ c.next_in-next.ensures c.is_out_of_turn.ensures c.if-is_out_of_turn.false in
    let next = next_here b.generation b.listed.entries b.seats.entries b.partitions.entries b.kept.entries c.args.self.now c.args.tab c.args.partition c.self.view_is c.requires.placed _ c.requires.seat (sym c.is_joined.ensures ∙ c.if-not-is_joined.false) ∙ sym c.next_in-next.ensures in
    let before : c.args.number < next_of c.args.self.now c.args.tab = omega (arith, next, c.if-number-next.true) in
    let taken = taken_before c.args.self.now c.args.tab c.args.partition c.args.number c.args.operation.now joined active before turn.1 in
    if_ok_mapped c.answer_again.result c.map_err.result _ _ c.map_err.ensures.cases (IfOk-weaker c.answer_again.result _ _ (λ all e. ap (copied c.args.copies) taken ∙ ap₂ (λ (x : BrokerState) (xs : List (List Addressed)). Some (x, xs)) (sym c.answer_again.ensures.same) (sym e)) c.answer_again.ensures.again)

pub returns-then-number-next-clause-memory : goal.returns-then-number-next-clause-memory
returns-then-number-next-clause-memory g c =
    let b = c.self.inside in
    let joined = joined_here b.generation b.listed.entries b.seats.entries b.partitions.entries b.kept.entries c.args.self.now c.args.tab c.args.partition c.self.view_is c.requires.placed _ c.requires.seat (sym c.is_joined.ensures ∙ c.if-not-is_joined.false) in
    let active = active_here b.generation b.listed.entries b.seats.entries b.partitions.entries b.kept.entries c.args.self.now c.args.tab c.args.partition c.self.view_is c.requires.placed _ c.requires.seat (sym c.is_joined.ensures ∙ c.if-not-is_joined.false) _ c.row_at-row.ensures c.self.invariant.0 ∙ sym c.is_active_in.ensures ∙ c.if-not-is_active_in.false in
    let turn = turn_here b.generation b.listed.entries b.seats.entries b.partitions.entries b.kept.entries c.args.self.now c.args.tab c.args.partition c.self.view_is c.requires.placed _ c.requires.seat (sym c.is_joined.ensures ∙ c.if-not-is_joined.false) _ c.args.number _ c.next_in-next.ensures c.is_out_of_turn.ensures c.if-is_out_of_turn.false in
    let next = next_here b.generation b.listed.entries b.seats.entries b.partitions.entries b.kept.entries c.args.self.now c.args.tab c.args.partition c.self.view_is c.requires.placed _ c.requires.seat (sym c.is_joined.ensures ∙ c.if-not-is_joined.false) ∙ sym c.next_in-next.ensures in
    let before : c.args.number < next_of c.args.self.now c.args.tab = omega (arith, next, c.if-number-next.true) in
    let taken = taken_before c.args.self.now c.args.tab c.args.partition c.args.number c.args.operation.now joined active before turn.1 in
    if_err_always c.map_err.result _ (λ d _. subst (λ (x : Taking). IsTaken x) (sym taken) tt)

pub returns-then-is_too_many-clause-dropped : goal.returns-then-is_too_many-clause-dropped
returns-then-is_too_many-clause-dropped g c = λ _.
    let b = c.self.inside in
    let joined = joined_here b.generation b.listed.entries b.seats.entries b.partitions.entries b.kept.entries c.args.self.now c.args.tab c.args.partition c.self.view_is c.requires.placed _ c.requires.seat (sym c.is_joined.ensures ∙ c.if-not-is_joined.false) in
    let active = active_here b.generation b.listed.entries b.seats.entries b.partitions.entries b.kept.entries c.args.self.now c.args.tab c.args.partition c.self.view_is c.requires.placed _ c.requires.seat (sym c.is_joined.ensures ∙ c.if-not-is_joined.false) _ c.row_at-row.ensures c.self.invariant.0 ∙ sym c.is_active_in.ensures ∙ c.if-not-is_active_in.false in
    let turn = turn_here b.generation b.listed.entries b.seats.entries b.partitions.entries b.kept.entries c.args.self.now c.args.tab c.args.partition c.self.view_is c.requires.placed _ c.requires.seat (sym c.is_joined.ensures ∙ c.if-not-is_joined.false) _ c.args.number _ c.next_in-next.ensures c.is_out_of_turn.ensures c.if-is_out_of_turn.false in
    let next = next_here b.generation b.listed.entries b.seats.entries b.partitions.entries b.kept.entries c.args.self.now c.args.tab c.args.partition c.self.view_is c.requires.placed _ c.requires.seat (sym c.is_joined.ensures ∙ c.if-not-is_joined.false) ∙ sym c.next_in-next.ensures in
    let now : c.args.number ≡ next_of c.args.self.now c.args.tab = omega (arith, next, turn.0, c.if-number-next.false) in
    let many = live_here b.generation b.listed.entries b.seats.entries b.partitions.entries b.kept.entries c.args.self.now c.args.tab c.args.partition c.self.view_is c.requires.placed _ c.requires.seat (sym c.is_joined.ensures ∙ c.if-not-is_joined.false) _ c.row_at-row.ensures c.limit_in-limit.result c.args.operation.now _ c.limit_in-limit.ensures c.is_too_many.ensures ∙ c.if-is_too_many.true in
    too_many c.args.self.now c.args.tab c.args.partition c.args.number c.args.operation.now joined active now turn.1 many

pub answer_again-requires : goal.answer_again-requires
answer_again-requires g c =
    let b = c.self.inside in
    c.next_in-next.ensures ∙ sym (next_here b.generation b.listed.entries b.seats.entries b.partitions.entries b.kept.entries c.args.self.now c.args.tab c.args.partition c.self.view_is c.requires.placed _ c.requires.seat (sym c.is_joined.ensures ∙ c.if-not-is_joined.false))

pub perform-requires-clause-joined : goal.perform-requires-clause-joined
perform-requires-clause-joined g c =
    let b = c.self.inside in
    let turn = turn_here b.generation b.listed.entries b.seats.entries b.partitions.entries b.kept.entries c.args.self.now c.args.tab c.args.partition c.self.view_is c.requires.placed _ c.requires.seat (sym c.is_joined.ensures ∙ c.if-not-is_joined.false) _ c.args.number _ c.next_in-next.ensures c.is_out_of_turn.ensures c.if-is_out_of_turn.false in
    let next = next_here b.generation b.listed.entries b.seats.entries b.partitions.entries b.kept.entries c.args.self.now c.args.tab c.args.partition c.self.view_is c.requires.placed _ c.requires.seat (sym c.is_joined.ensures ∙ c.if-not-is_joined.false) ∙ sym c.next_in-next.ensures in
    let now : next_of c.args.self.now c.args.tab ≡ c.args.number = omega (arith, next, turn.0, c.if-number-next.false) in
    seated_here b.generation b.listed.entries b.seats.entries b.partitions.entries b.kept.entries c.args.self.now c.args.tab c.args.partition c.self.view_is c.requires.placed _ c.requires.seat (sym c.is_joined.ensures ∙ c.if-not-is_joined.false)
    ∙ ap₂ (λ (m l : ℕ). Some (Joined c.args.partition m l)) (sym (next_here b.generation b.listed.entries b.seats.entries b.partitions.entries b.kept.entries c.args.self.now c.args.tab c.args.partition c.self.view_is c.requires.placed _ c.requires.seat (sym c.is_joined.ensures ∙ c.if-not-is_joined.false)) ∙ now) (sym c.limit_in-limit.ensures)

pub perform-requires-clause-waiting : goal.perform-requires-clause-waiting
perform-requires-clause-waiting g c =
    let b = c.self.inside in
    c.waiting_in-waiting.ensures ∙ waiting_here b.generation b.listed.entries b.seats.entries b.partitions.entries b.kept.entries c.args.self.now c.args.tab c.args.partition c.self.view_is c.requires.placed _ c.requires.seat (sym c.is_joined.ensures ∙ c.if-not-is_joined.false) _ c.row_at-row.ensures

pub perform-requires-clause-active : goal.perform-requires-clause-active
perform-requires-clause-active g c =
    let b = c.self.inside in
    active_here b.generation b.listed.entries b.seats.entries b.partitions.entries b.kept.entries c.args.self.now c.args.tab c.args.partition c.self.view_is c.requires.placed _ c.requires.seat (sym c.is_joined.ensures ∙ c.if-not-is_joined.false) _ c.row_at-row.ensures c.self.invariant.0 ∙ sym c.is_active_in.ensures ∙ c.if-not-is_active_in.false

pub perform-requires-clause-more : goal.perform-requires-clause-more
perform-requires-clause-more g c =
    let b = c.self.inside in
    let turn = turn_here b.generation b.listed.entries b.seats.entries b.partitions.entries b.kept.entries c.args.self.now c.args.tab c.args.partition c.self.view_is c.requires.placed _ c.requires.seat (sym c.is_joined.ensures ∙ c.if-not-is_joined.false) _ c.args.number _ c.next_in-next.ensures c.is_out_of_turn.ensures c.if-is_out_of_turn.false in
    let next = next_here b.generation b.listed.entries b.seats.entries b.partitions.entries b.kept.entries c.args.self.now c.args.tab c.args.partition c.self.view_is c.requires.placed _ c.requires.seat (sym c.is_joined.ensures ∙ c.if-not-is_joined.false) ∙ sym c.next_in-next.ensures in
    omega (arith, turn.1, c.ranges.number)

pub returns-clause-taken : goal.returns-clause-taken
returns-clause-taken g c =
    let b = c.self.inside in
    let joined = joined_here b.generation b.listed.entries b.seats.entries b.partitions.entries b.kept.entries c.args.self.now c.args.tab c.args.partition c.self.view_is c.requires.placed _ c.requires.seat (sym c.is_joined.ensures ∙ c.if-not-is_joined.false) in
    let active = active_here b.generation b.listed.entries b.seats.entries b.partitions.entries b.kept.entries c.args.self.now c.args.tab c.args.partition c.self.view_is c.requires.placed _ c.requires.seat (sym c.is_joined.ensures ∙ c.if-not-is_joined.false) _ c.row_at-row.ensures c.self.invariant.0 ∙ sym c.is_active_in.ensures ∙ c.if-not-is_active_in.false in
    let turn = turn_here b.generation b.listed.entries b.seats.entries b.partitions.entries b.kept.entries c.args.self.now c.args.tab c.args.partition c.self.view_is c.requires.placed _ c.requires.seat (sym c.is_joined.ensures ∙ c.if-not-is_joined.false) _ c.args.number _ c.next_in-next.ensures c.is_out_of_turn.ensures c.if-is_out_of_turn.false in
    let next = next_here b.generation b.listed.entries b.seats.entries b.partitions.entries b.kept.entries c.args.self.now c.args.tab c.args.partition c.self.view_is c.requires.placed _ c.requires.seat (sym c.is_joined.ensures ∙ c.if-not-is_joined.false) ∙ sym c.next_in-next.ensures in
    let now : c.args.number ≡ next_of c.args.self.now c.args.tab = omega (arith, next, turn.0, c.if-number-next.false) in
    let few = live_here b.generation b.listed.entries b.seats.entries b.partitions.entries b.kept.entries c.args.self.now c.args.tab c.args.partition c.self.view_is c.requires.placed _ c.requires.seat (sym c.is_joined.ensures ∙ c.if-not-is_joined.false) _ c.row_at-row.ensures c.limit_in-limit.result c.args.operation.now _ c.limit_in-limit.ensures c.is_too_many.ensures ∙ c.if-is_too_many.false in
    let taken = command_taken c.args.self.now c.args.tab c.args.partition c.args.number c.args.operation.now joined active now turn.1 few in
    if_ok_mapped c.perform.result c.map_err-2.result _ _ c.map_err-2.ensures.cases (IfOk-weaker c.perform.result _ _ (λ all e. ap (copied c.args.copies) taken ∙ e) c.perform.ensures.performed)

pub returns-clause-memory : goal.returns-clause-memory
returns-clause-memory g c =
    let b = c.self.inside in
    let joined = joined_here b.generation b.listed.entries b.seats.entries b.partitions.entries b.kept.entries c.args.self.now c.args.tab c.args.partition c.self.view_is c.requires.placed _ c.requires.seat (sym c.is_joined.ensures ∙ c.if-not-is_joined.false) in
    let active = active_here b.generation b.listed.entries b.seats.entries b.partitions.entries b.kept.entries c.args.self.now c.args.tab c.args.partition c.self.view_is c.requires.placed _ c.requires.seat (sym c.is_joined.ensures ∙ c.if-not-is_joined.false) _ c.row_at-row.ensures c.self.invariant.0 ∙ sym c.is_active_in.ensures ∙ c.if-not-is_active_in.false in
    let turn = turn_here b.generation b.listed.entries b.seats.entries b.partitions.entries b.kept.entries c.args.self.now c.args.tab c.args.partition c.self.view_is c.requires.placed _ c.requires.seat (sym c.is_joined.ensures ∙ c.if-not-is_joined.false) _ c.args.number _ c.next_in-next.ensures c.is_out_of_turn.ensures c.if-is_out_of_turn.false in
    let next = next_here b.generation b.listed.entries b.seats.entries b.partitions.entries b.kept.entries c.args.self.now c.args.tab c.args.partition c.self.view_is c.requires.placed _ c.requires.seat (sym c.is_joined.ensures ∙ c.if-not-is_joined.false) ∙ sym c.next_in-next.ensures in
    let now : c.args.number ≡ next_of c.args.self.now c.args.tab = omega (arith, next, turn.0, c.if-number-next.false) in
    let few = live_here b.generation b.listed.entries b.seats.entries b.partitions.entries b.kept.entries c.args.self.now c.args.tab c.args.partition c.self.view_is c.requires.placed _ c.requires.seat (sym c.is_joined.ensures ∙ c.if-not-is_joined.false) _ c.row_at-row.ensures c.limit_in-limit.result c.args.operation.now _ c.limit_in-limit.ensures c.is_too_many.ensures ∙ c.if-is_too_many.false in
    let taken = command_taken c.args.self.now c.args.tab c.args.partition c.args.number c.args.operation.now joined active now turn.1 few in
    if_err_always c.map_err-2.result _ (λ d _. subst (λ (x : Taking). IsTaken x) (sym taken) (perform_taken c.args.self.now c.args.tab c.args.partition c.args.number c.args.operation.now))
