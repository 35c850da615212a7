use Rattle.std.proofs.Common.{◌≡◌, ◌⊎◌, true}
use Rattle.wl_workers.specs.Lane.{GoesOn}
use Rattle.wl_workers.proofs.lanes.lane.Given as goal

-- The lane goes on, its desk borrows the same lane, and its works are dealt to the desk's shards.
-- The gate lets the lane pass or has not been asked.
abbrev pub invariant-loop-event : goal.invariant-loop-event
invariant-loop-event g l = record {
  on : GoesOn (g.I.Intake.given l.initial.intake) (g.I.Intake.given l.intake) (g.D.Desk.answered l.initial.desk) (g.D.Desk.answered l.desk)
      (g.D.Desk.kept l.initial.desk) (g.D.Desk.kept l.desk) (g.O.Outlet.put_out l.initial.outlet) (g.O.Outlet.put_out l.outlet) l._event l.steps;
  borrowed : g.D.Desk.borrowed l.desk ≡ g.D.Desk.borrowed l.initial.desk;
  shards : g.I.Intake.shards l.intake ≡ g.D.Desk.shards l.desk;
  lets : (g.G.Gate.lets l.fn.gate l.fn.number ≡ true) ⊎ (l.steps ≡ 0);
}
