use Rattle.std.proofs.Common.{ℕ, [], ◌∷◌, Some, Ok, Err, inl, inr, refl, sym, ap, ◌∙◌, subst, arith, add-zero}
use Rattle.wl_locked.specs.declared.receipt.NotStepped.TheVariants.{Memory}
use Rattle.wl_workers.specs.declared.lanes.LaneEndCause.TheVariants as cause
use Rattle.wl_workers.specs.CallRecords.{RecordGrows}
use Rattle.wl_workers.specs.Lane.{receipt_in}
use Rattle.wl_workers.proofs.ToldLemmas.{Grows-nil}
use Rattle.wl_workers.proofs.LaneLemmas.{lane_goes_on, lane_at_limit, lane_spent, lane_unsent, lane_begins, sent_is_let, ended_is_let, unsent_is_let, steps_within, step_unspent, lost_unspent}
use Rattle.wl_workers.proofs.lanes.lane.Goals.{in-Ok+in_default-send, in-Err-Memory}
use Rattle.wl_workers.proofs.lanes.lane.Goals as goal

pub overflow_add-steps : goal.overflow_add-steps
overflow_add-steps g c = omega (arith, steps_within c.loop-event.invariant.on)

pub loop-event-init : goal.loop-event-init
loop-event-init g c = record { on = lane_begins; borrowed = refl; shards = c.requires; lets = inr refl }

pub returns-in-Err-GenerationSpent-clause-runs : goal.returns-in-Err-GenerationSpent-clause-runs
returns-in-Err-GenerationSpent-clause-runs g c =
    let event = c.in-Some.work in
    let is = c.in-Err-GenerationSpent.is ∙ ap Err c.in-Err-GenerationSpent.field-0-is in
    let given = subst (λ e. RecordGrows (g.I.Intake.given c.loop-event.intake) (g.I.Intake.given c.next.new.self) (e ∷ [])) c.in-Some.is c.next.ensures.given in
    let answered = subst (λ r. RecordGrows (g.D.Desk.answered c.loop-event.desk) (g.D.Desk.answered c.take_one.new.self) ((event, r) ∷ [])) is c.take_one.ensures.answered in
    let kept = λ (shard : ℕ). subst (λ r. RecordGrows (g.D.Desk.kept c.loop-event.desk shard) (g.D.Desk.kept c.take_one.new.self shard) (receipt_in shard (event, r))) is (c.take_one.ensures.kept shard) in
    lane_spent event c.loop-event.invariant.on given answered kept

pub returns-in-Err-clause-runs : goal.returns-in-Err-clause-runs
returns-in-Err-clause-runs g c =
    let event = c.in-Some.work in
    let given = subst (λ e. RecordGrows (g.I.Intake.given c.loop-event.intake) (g.I.Intake.given c.next.new.self) (e ∷ [])) c.in-Some.is c.next.ensures.given in
    let answered = subst (λ r. RecordGrows (g.D.Desk.answered c.loop-event.desk) (g.D.Desk.answered c.take_one.new.self) ((event, r) ∷ [])) c.in-Ok.is c.take_one.ensures.answered in
    let kept = λ (shard : ℕ). subst (λ r. RecordGrows (g.D.Desk.kept c.loop-event.desk shard) (g.D.Desk.kept c.take_one.new.self shard) (receipt_in shard (event, r))) c.in-Ok.is (c.take_one.ensures.kept shard) in
    let told = subst (λ r. RecordGrows (g.I.Intake.given c.loop-event.intake) r (Some event ∷ [])) (sym c.stepped.ensures.given) given in
    lane_unsent event c.in-Ok.receipt c.in-Err.why c.loop-event.invariant.on told answered kept c.in-Err.ensures.some

pub loop-event-preserved : goal.loop-event-preserved
loop-event-preserved g c =
    let event = c.in-Some.work in
    let given = subst (λ e. RecordGrows (g.I.Intake.given c.loop-event.intake) (g.I.Intake.given c.next.new.self) (e ∷ [])) c.in-Some.is c.next.ensures.given in
    let borrowed = c.take_one.ensures.borrowed ∙ c.loop-event.invariant.borrowed in
    let shards = c.next.ensures.shards ∙ c.loop-event.invariant.shards ∙ sym c.take_one.ensures.shards in
    elim c.match-take_one.branch [
      | in-Ok+in_default-send w ↦
          let told = subst (λ r. RecordGrows (g.I.Intake.given c.loop-event.intake) r (Some event ∷ [])) (sym w.stepped.ensures.given) given in
          let answered = subst (λ a. RecordGrows (g.D.Desk.answered c.loop-event.desk) (g.D.Desk.answered c.take_one.new.self) ((event, a) ∷ [])) w.in-Ok.is c.take_one.ensures.answered in
          let kept = λ (shard : ℕ). subst (λ a. RecordGrows (g.D.Desk.kept c.loop-event.desk shard) (g.D.Desk.kept c.take_one.new.self shard) (receipt_in shard (event, a))) w.in-Ok.is (c.take_one.ensures.kept shard) in
          let on = lane_goes_on (event, Ok w.in-Ok.receipt) c.loop-event.invariant.on (step_unspent event w.in-Ok.receipt) told answered kept w.in_default-send.ensures.all in
          record { on = rw (w.intake-is, w.outlet-is, w.steps-is) on; borrowed = borrowed; shards = rw w.intake-is (w.stepped.ensures.shards ∙ shards); lets = inl (sent_is_let w.in_default-send.ensures.lets) }
      | in-Err-Memory w ↦
          let is = w.in-Err-Memory.is ∙ ap Err w.in-Err-Memory.field-0-is in
          let answered = subst (λ a. RecordGrows (g.D.Desk.answered c.loop-event.desk) (g.D.Desk.answered c.take_one.new.self) ((event, a) ∷ [])) is c.take_one.ensures.answered in
          let kept = λ (shard : ℕ). subst (λ a. RecordGrows (g.D.Desk.kept c.loop-event.desk shard) (g.D.Desk.kept c.take_one.new.self shard) (receipt_in shard (event, a))) is (c.take_one.ensures.kept shard) in
          let on = lane_goes_on (event, Err Memory) c.loop-event.invariant.on (lost_unspent event) given answered kept (Grows-nil (g.O.Outlet.put_out c.loop-event.outlet)) in
          record { on = rw (w.intake-is, w.outlet-is, w.steps-is, ← add-zero c.loop-event.steps) on; borrowed = borrowed; shards = rw w.intake-is shards; lets = rw w.steps-is c.loop-event.invariant.lets }
    ]

pub returns-clause-runs : goal.returns-clause-runs
returns-clause-runs g c = lane_at_limit c.loop-event.invariant.on (omega (arith, c.loop-event-test.false))

pub returns-in-Err-GenerationSpent-clause-lets : goal.returns-in-Err-GenerationSpent-clause-lets
returns-in-Err-GenerationSpent-clause-lets g c = ended_is_let cause.Spent c.loop-event.invariant.lets

pub returns-in-Err-clause-lets : goal.returns-in-Err-clause-lets
returns-in-Err-clause-lets g c = unsent_is_let c.in-Err.why c.loop-event.invariant.lets c.in-Err.ensures.lets

pub returns-clause-lets : goal.returns-clause-lets
returns-clause-lets g c = ended_is_let cause.Spent c.loop-event.invariant.lets
