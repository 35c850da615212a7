use Rattle.std.proofs.Common.{◌≡◌, List, ◌++◌}
use Rattle.std.specs.Vec.Iter.{into_iter_items}
use Rattle.wl_grammar.specs.declared.frame.Addressed.{Addressed}
use Rattle.wl_workers.specs.CallRecords.{RecordGrows}
use Rattle.wl_workers.specs.Lane.{as_frames, all_put}
use Rattle.wl_workers.proofs.lanes.put_frames.Given as goal

-- The frames in `done` were sent, and the others are left.
abbrev pub invariant-loop-addressed : goal.invariant-loop-addressed
invariant-loop-addressed g l = record {
  done : List Addressed;
  split : l.fn.outs.items ≡ done ++ into_iter_items l.addressed-iterator;
  put : RecordGrows (g.O.Outlet.put_out l.fn.outlet) (g.O.Outlet.put_out l.outlet) (all_put (as_frames done));
}
