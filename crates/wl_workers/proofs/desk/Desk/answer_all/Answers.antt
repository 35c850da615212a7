use Rattle.std.proofs.Common.{[], ◌++◌, ◌∙◌, sym, subst, arith}
use Rattle.std.proofs.lemmas.List.{drop_all}
use Rattle.std.proofs.lemmas.Result.{err_from_is_err_and}
use Rattle.std.proofs.KnownBytes.{Appends-nil, Appends-trans}
use Rattle.wl_workers.proofs.DeskLemmas.{Leaves, Leaves-start, Leaves-formed, Leaves-spelled, Leaves-bundled, Leaves-end, answered_unless, spelling_fails, breaks_off, writing_fails, not_empty, some_frames, next_frame}
use Rattle.wl_workers.proofs.desk.Desk.answer_all.Goals as goal

pub loop-frame-init : goal.loop-frame-init
loop-frame-init g c = record {
  sound = c.requires.sink;
  written = [];
  appended = Appends-nil _;
  leaves = subst (Leaves c.args.self.now c.args.self.now c.args.frames.now c.args.frames.now) (sym c.clear.ensures.items)
      (Leaves-start c.args.self.now c.args.frames.now c.requires.is_open c.requires.frames);
}

pub spell_answer-requires : goal.spell_answer-requires
spell_answer-requires g c =
    let next = next_frame c.args.frames.now c.loop-frame.frame-index c.frame-item.result c.loop-frame-test.true c.frame-item.is in
    Leaves-formed _ _ _ _ _ c.frame-item.result _ c.loop-frame.invariant.leaves next

pub returns-in-Err-clause-answered : goal.returns-in-Err-clause-answered
returns-in-Err-clause-answered g c =
    let h = c.loop-frame.invariant in
    let next = next_frame c.args.frames.now c.loop-frame.frame-index c.frame-item.result c.loop-frame-test.true c.frame-item.is in
    let bytes = c.spell_answer.new.bytes.items in (
      h.written ++ bytes,
      Appends-trans _ _ _ h.written bytes h.appended (rw c.as_slice.ensures.value at c.in_ok-write.ensures.written),
      spelling_fails _ _ c.spell_answer.new.self c.spell_answer.new.self _ _ _ c.frame-item.result h.written _ bytes _ h.leaves next c.in-Err.ensures,
    )

pub returns-in_err-write_bundle-clause-answered : goal.returns-in_err-write_bundle-clause-answered
returns-in_err-write_bundle-clause-answered g c =
    let h = c.loop-frame.invariant in
    let next = next_frame c.args.frames.now c.loop-frame.frame-index c.frame-item.result c.loop-frame-test.true c.frame-item.is in
    let p = err_from_is_err_and c.from_residual-in_err-write_bundle.result c.from_residual-in_err-write_bundle.ensures.1 in
    let wrote = c.in_err-write_bundle.ensures.failed.1 in
    let spells = answered_unless _ c.spell_answer.new.self c.frame-item.result _ _ _ c.spell_answer.ensures c.in_default.not-Err in
    rw (p.1, p.2) (
      h.written ++ wrote.0,
      Appends-trans _ _ _ h.written wrote.0 h.appended wrote.2,
      writing_fails _ c.spell_answer.new.self c.spell_answer.new.self _ _ h.written _ wrote.0
          (not_empty c.args.frames.now c.loop-frame.frame-index c.loop-frame-test.true)
          (Leaves-spelled _ _ c.spell_answer.new.self _ _ _ c.frame-item.result h.written _ _ h.leaves next spells) wrote.1,
    )

pub loop-frame-preserved : goal.loop-frame-preserved
loop-frame-preserved g c =
    let h = c.loop-frame.invariant in
    let next = next_frame c.args.frames.now c.loop-frame.frame-index c.frame-item.result c.loop-frame-test.true c.frame-item.is in
    let wrote = c.in_ok-write_bundle.ensures.written in
    let spells = answered_unless _ c.spell_answer.new.self c.frame-item.result _ _ _ c.spell_answer.ensures c.in_default.not-Err in
    let leaves = Leaves-spelled _ _ c.spell_answer.new.self _ _ _ c.frame-item.result h.written _ _ h.leaves next spells in record {
      sound = c.in_ok-write_bundle.ensures.sound ∙ h.sound;
      written = h.written ++ wrote.0;
      appended = Appends-trans _ _ _ h.written wrote.0 h.appended wrote.1;
      leaves = Leaves-bundled _ _ _ _ h.written _ wrote.0 _ leaves wrote.2;
    }

pub returns-clause-answered : goal.returns-clause-answered
returns-clause-answered g c =
    let h = c.loop-frame.invariant in
    let bytes = c.loop-frame.bytes.items in (
      h.written ++ bytes,
      Appends-trans _ _ _ h.written bytes h.appended (rw c.as_slice-2.ensures.value at c.in_ok-write-2.ensures.written),
      Leaves-end _ _ _ _ (h.written ++ bytes) h.leaves (drop_all c.loop-frame.frame-index c.args.frames.now (omega arith)),
    )

pub returns-in_err-write-clause-answered : goal.returns-in_err-write-clause-answered
returns-in_err-write-clause-answered g c =
    let h = c.loop-frame.invariant in
    let next = next_frame c.args.frames.now c.loop-frame.frame-index c.frame-item.result c.loop-frame-test.true c.frame-item.is in
    let p = err_from_is_err_and c.from_residual.result c.from_residual.ensures.1 in
    let wrote = rw c.as_slice.ensures.value at c.in_err-write.ensures.failed.1 in
    rw (p.1, p.2) (
      h.written ++ wrote.0,
      Appends-trans _ _ _ h.written wrote.0 h.appended wrote.2,
      breaks_off _ _ c.spell_answer.new.self c.spell_answer.new.self _ _ _ c.frame-item.result h.written _ _ wrote.0 _
          (not_empty c.args.frames.now c.loop-frame.frame-index c.loop-frame-test.true) h.leaves next c.in-Err.ensures wrote.1,
    )

pub returns-in_err-write-2-clause-answered : goal.returns-in_err-write-2-clause-answered
returns-in_err-write-2-clause-answered g c =
    let h = c.loop-frame.invariant in
    let p = err_from_is_err_and c.from_residual-in_err-write-2.result c.from_residual-in_err-write-2.ensures.1 in
    let wrote = rw c.as_slice-2.ensures.value at c.in_err-write-2.ensures.failed.1 in
    rw (p.1, p.2) (
      h.written ++ wrote.0,
      Appends-trans _ _ _ h.written wrote.0 h.appended wrote.2,
      writing_fails _ c.loop-frame.self c.loop-frame.self _ _ h.written _ wrote.0
          (some_frames c.args.frames.now (sym c.is_empty.ensures ∙ c.if-is_empty.false)) h.leaves wrote.1,
    )
