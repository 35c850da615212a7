use Rattle.std.proofs.Common.{◌≡◌, List, [], ◌++◌}
use Rattle.std.specs.Vec.Iter.{into_iter_items}
use Rattle.wl_grammar.specs.declared.frame.Frame.{Frame}
use Rattle.wl_workers.specs.TabReader.{HandsUp}
use Rattle.wl_workers.proofs.tab_reader.hand_up.Given as goal

-- The frames in `done` were forwarded, and the others are left.
abbrev pub invariant-loop-frame : goal.invariant-loop-frame
invariant-loop-frame g l = record {
  done : List Frame;
  split : l.fn.frames.items ≡ done ++ into_iter_items l.frame-iterator;
  hands : HandsUp l.tab (g.L.Lives.answered l.fn.lives) (g.L.Lives.answered l.lives) (g.U.Uplink.handed l.fn.uplink) (g.U.Uplink.handed l.uplink) done [];
}
