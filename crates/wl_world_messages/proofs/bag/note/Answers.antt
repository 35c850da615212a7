use Rattle.wl_world_messages.proofs.Indexing.{places_at-insert}
use Rattle.wl_world_messages.proofs.bag.note.Goals as goal

pub returns-in_ok-insert-in-None-clause-ok : goal.returns-in_ok-insert-in-None-clause-ok
returns-in_ok-insert-in-None-clause-ok c =
    places_at-insert c.args.index.now c.get_mut.follows.lender-at-none c.insert.new.self c.args.key c.args.place c.in_ok-of-in-None.field-0
    c.in-None.ensures.value c.get_mut.follows.holds-at-none c.in_ok-of-in-None.ensures c.in_ok-insert-in-None.ensures.updates.0
