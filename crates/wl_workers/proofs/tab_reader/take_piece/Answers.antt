use Rattle.wl_workers.proofs.ReaderLemmas.{fault_after, fault_is_whole}
use Rattle.wl_workers.proofs.tab_reader.take_piece.Goals as goal

pub returns-in_ok-hand_up-in-Err : goal.returns-in_ok-hand_up-in-Err
returns-in_ok-hand_up-in-Err g c =
    rw c.from.ensures (fault_is_whole c.args.feed.now _ _ _ _ c.requires.feed c.in-Err.ensures.fault, (c.in-Err.refused.before.items, fault_after c.args.feed.now _ _ _ _ c.requires.feed c.requires.rest c.requires.piece c.in-Err.ensures.fault, c.in_ok-hand_up-in-Err.ensures))
