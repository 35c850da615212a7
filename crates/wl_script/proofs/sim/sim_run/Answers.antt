use Rattle.std.proofs.Common.{◌+◌, Err, take, sym, ap, ◌∙◌, arith}
use Rattle.std.proofs.lemmas.Bool.{false≢true}
use Rattle.std.proofs.lemmas.Grind.{common_steps}
use Rattle.std.proofs.lemmas.Result.{err_from_is_err_and}
use Rattle.wl_frames.specs.Device.{Reading}
use Rattle.wl_script.proofs.SimLemmas.{Stands-more, Runs-unread, Runs-limit, Runs-broken, Runs-end, no_read, sound_at_ok}
use Rattle.wl_script.proofs.sim.sim_run.Goals as goal

pub returns-in_err-n-clause-runs : goal.returns-in_err-n-clause-runs
returns-in_err-n-clause-runs g c =
    let p = err_from_is_err_and c.from_residual.result c.from_residual.ensures.1 in
    rw (p.1, p.2) (Runs-unread _ _ _ _ _ _ c.in_err-n.field-0.0 c.loop-reads.invariant.stands (λ e. (c.in_err-n.ensures.failed (ap (λ x. Err x) e)).1)
    (λ e. ap (λ (r : Reading _). g.R.Read.remaining r.reader) (c.in_err-n.ensures.limit (ap (λ x. Err x) e)).1))

pub returns-then-n-eq0-clause-runs : goal.returns-then-n-eq0-clause-runs
returns-then-n-eq0-clause-runs g c =
    let closed = c.end.ensures.closed in
    Runs-end _ _ _ _ _ _ _ _ _ _ c.loop-reads.invariant.stands c.in_ok-n.ensures.bytes (ap (λ n. take n c.read.new.buffer) c.if-n-eq0.true) (c.in_ok-n.ensures.end c.if-n-eq0.true) closed.1 closed.2

pub returns-in_err-sim-clause-runs : goal.returns-in_err-sim-clause-runs
returns-in_err-sim-clause-runs g c =
    let p = err_from_is_err_and c.from_residual-in_err-sim.result c.from_residual-in_err-sim.ensures.1 in
    let done = c.in_err-sim.ensures.taken in
    rw (p.1, p.2) (Runs-broken _ _ _ _ _ _ _ _ _ _ c.loop-reads.invariant.stands c.in_ok-n.ensures.bytes done.1 done.2)

pub returns-in_err-sim-clause-read : goal.returns-in_err-sim-clause-read
returns-in_err-sim-clause-read g c =
    let p = err_from_is_err_and c.from_residual-in_err-sim.result c.from_residual-in_err-sim.ensures.1 in
    let none = no_read c.from_residual-in_err-sim.result c.loop-reads.sim (take c.in_ok-n.n c.read.new.buffer) c.in_err-sim.field-0.0 _ (p.1 ∙ ap (λ x. Err x) p.2) c.in_err-sim.ensures.taken.2 in
    let sound = c.in_ok-n.ensures.counted.1 ∙ c.loop-reads.invariant.source in
    (λ e. absurd (none.0 e), λ failed. absurd (false≢true (sym sound ∙ failed)))

pub returns-in_err-sim-clause-limit : goal.returns-in_err-sim-clause-limit
returns-in_err-sim-clause-limit g c =
    let p = err_from_is_err_and c.from_residual-in_err-sim.result c.from_residual-in_err-sim.ensures.1 in
    let none = no_read c.from_residual-in_err-sim.result c.loop-reads.sim (take c.in_ok-n.n c.read.new.buffer) c.in_err-sim.field-0.0 _ (p.1 ∙ ap (λ x. Err x) p.2) c.in_err-sim.ensures.taken.2 in
    λ e. absurd (none.1 e)

pub loop-reads-preserved : goal.loop-reads-preserved
loop-reads-preserved g c =
    let h = c.loop-reads.invariant in
    let done = c.in_ok-sim.ensures.taken in record {
      source = c.in_ok-n.ensures.counted.1 ∙ h.source;
      sink = sound_at_ok _ _ c.in_ok-sim.ensures.write.1;
      reads = c.in_ok-n.ensures.counted.0 ∙ ap (λ n. n + 1) h.reads;
      number = let near = done.2.within in let far = h.number in let fits = c.in_ok-n.ensures.bound in grind (arith, common_steps);
      stands = Stands-more _ _ _ _ _ _ _ _ _ _ h.stands c.in_ok-n.ensures.bytes done.1 done.2;
    }

pub returns-clause-runs : goal.returns-clause-runs
returns-clause-runs g c = Runs-limit _ _ _ _ _ c.loop-reads.invariant.stands
