use Rattle.std.proofs.Common.{◌≡◌, length, rules}
use Rattle.wl_world_messages.proofs.Indexing.{IsIndexOf-push}
use Rattle.wl_world_messages.proofs.bag.Bag.add.Goals as goal

pub invariant_of-self-2 : goal.invariant_of-self-2
invariant_of-self-2 c =
    let place : c.len-place.result ≡ length c.self.inside.messages.items = search rules in
    rw (c.push_reserved.ensures.items, c.reserve.ensures.items)
    (IsIndexOf-push c.self.inside.messages.items c.self.inside.index c.note.new.index c.args.message c.key_of.result c.len-place.result
    c.key_of.ensures place c.self.invariant c.in_ok-note.ensures.ok)
