use Rattle.std.proofs.Common.{[], ◌∷◌, ◌++◌, sym, ap, ◌∙◌, subst, arith}
use Rattle.std.proofs.KnownBytes.{Appends-nil, Appends-trans}
use Rattle.std.proofs.lemmas.Result.{err_from_is_err_and}
use Rattle.wl_script.specs.Sim.{runs}
use Rattle.wl_script.specs.SimSteps.{EndsBy, Plays, SimState}
use Rattle.wl_script.proofs.RunLemmas.{Plays-start, Plays-at-feed, Plays-at-byte, Ends-at-feed, Ends-at-long, Ends-at-memory}
use Rattle.wl_script.proofs.SimLemmas.{sound_at_ok}
use Rattle.wl_script.proofs.sim.Sim.take_piece.Goals.{then-byte-eq10+in_ok-world, else-byte-eq10+else-len-ge-LINE_LIMIT+in_ok-push}
use Rattle.wl_script.proofs.sim.Sim.take_piece.Goals as goal

pub loop-byte-init : goal.loop-byte-init
loop-byte-init g c =
    let first : SimState = record { world = c.self.inside.world.world; number = c.self.inside.number; text = c.self.inside.text.items } in
    record {
      sound = c.requires.sink;
      output = [];
      appended = Appends-nil _;
      plays = subst (λ (s : SimState). Plays s [] first []) c.self.view_is (Plays-start first);
    }

pub returns-in_err-world-clause-taken : goal.returns-in_err-world-clause-taken
returns-in_err-world-clause-taken g c =
    let p = err_from_is_err_and c.from_residual.result c.from_residual.ensures.1 in
    let h = c.loop-byte.invariant in
    let done = c.in_err-world.ensures.played in
    rw (p.1, p.2) (
      h.output ++ done.0,
      Appends-trans _ _ _ h.output done.0 h.appended done.1,
      λ more. Ends-at-feed c.args.self _ c.args.piece.now more c.loop-byte.byte-index h.output done.0 c.in_err-world.field-0.0 c.loop-byte-test.true c.if-byte-eq10.true h.plays
          (subst (λ text. EndsBy (runs c.loop-byte.number c.loop-byte.world.world (text ∷ [])) c.in_err-world.field-0.0 done.0) c.as_slice.ensures.value done.2),
    )

pub returns-then-len-ge-LINE_LIMIT-clause-taken : goal.returns-then-len-ge-LINE_LIMIT-clause-taken
returns-then-len-ge-LINE_LIMIT-clause-taken g c =
    let h = c.loop-byte.invariant in (
      h.output ++ [],
      Appends-trans _ _ _ h.output [] h.appended (Appends-nil _),
      λ more. Ends-at-long c.args.self _ c.args.piece.now more c.loop-byte.byte-index h.output c.loop-byte-test.true c.if-byte-eq10.false (omega arith) h.plays,
    )

pub returns-in_err-push-clause-taken : goal.returns-in_err-push-clause-taken
returns-in_err-push-clause-taken g c =
    let p = err_from_is_err_and c.from_residual-in_err-push.result c.from_residual-in_err-push.ensures.1 in
    let h = c.loop-byte.invariant in
    rw (p.1, p.2) (
      h.output ++ [],
      Appends-trans _ _ _ h.output [] h.appended (Appends-nil _),
      λ more. Ends-at-memory c.args.self _ c.args.piece.now more c.loop-byte.byte-index h.output c.loop-byte-test.true h.plays,
    )

pub loop-byte-preserved : goal.loop-byte-preserved
loop-byte-preserved g c =
    let h = c.loop-byte.invariant in
    let piece = c.args.piece.now in
    elim c.if-byte-eq10.branch [
      | then-byte-eq10+in_ok-world w ↦
          let done = w.in_ok-world.ensures.played in
          rw (w.sink-is, w.world-is, w.number-is, w.text-is, w.clear.ensures.items) (record {
            sound = sound_at_ok _ _ w.in_ok-world.ensures.write.1;
            output = h.output ++ done.0;
            appended = Appends-trans _ _ _ h.output done.0 h.appended done.1;
            plays =
                Plays-at-feed c.args.self _ piece c.loop-byte.byte-index w.in_ok-world.world.world h.output done.0 c.loop-byte-test.true w.if-byte-eq10.true h.plays
                (ap (λ text. runs c.loop-byte.number c.loop-byte.world.world (text ∷ [])) (sym w.as_slice.ensures.value) ∙ done.2);
          })
      | else-byte-eq10+else-len-ge-LINE_LIMIT+in_ok-push w ↦
          rw (w.sink-is, w.world-is, w.number-is, w.text-is, w.in_ok-push.ensures.items) (record {
            sound = h.sound;
            output = h.output;
            appended = h.appended;
            plays = Plays-at-byte c.args.self _ piece c.loop-byte.byte-index h.output c.loop-byte-test.true w.if-byte-eq10.false h.plays;
          })
    ]
