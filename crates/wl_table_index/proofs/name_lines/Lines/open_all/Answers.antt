use Rattle.std.proofs.Common.{◌≡◌, ◌∙◌, ◌+◌, ◌||◌, ℕ, List, Bool, true, false, sym, subst, refl}
use Rattle.std.specs.Prelude.{bytes_eq}
use Rattle.wl_table_index.specs.declared.name_lines.Lines.{Lines}
use Rattle.wl_table_index.specs.NameLines.{HasLine}
use Rattle.wl_table_index.proofs.NextLemmas.{text-same}
use Rattle.wl_table_index.proofs.LeanLemmas.{idle-more, idle-within, named-within}
use Rattle.wl_table_index.proofs.RoomLemmas.{named-more}
use Rattle.wl_table_index.proofs.name_lines.Lines.open_all.Goals as goal

there-step : (old new : Lines) (n name : List ℕ) (a b : Bool) → (a ≡ true → HasLine old n) → (HasLine old n → HasLine new n) → HasLine new name → bytes_eq name n ≡ b → (a || b) ≡ true → HasLine new n
there-step old new n name true b before kept here e f = kept (before refl)
there-step old new n name false true before kept here e f =
    let P : List ℕ → Type 0 = λ m. HasLine new m in
    subst P (text-same name n e) here
there-step old new n name false false before kept here e f = cc

pub loop-row-preserved : goal.loop-row-preserved
loop-row-preserved c =
    let i = c.loop-row.invariant in
    let r = c.row-item.result in
    record {
      lines = λ n. c.open.ensures.lines n ∙ i.lines n;
      there = λ n e. there-step c.loop-row.self c.open.new.self n r.name _ (bytes_eq r.name n) (i.there n) (c.open.ensures.kept_lines n) c.in_ok-open.ensures.there refl (sym (named-more n c.args.rows.now c.loop-row.row-index r c.loop-row-test.true c.row-item.is) ∙ e);
      idle = λ n e. idle-more _ _ _ _ _ (c.open.ensures.idle n e) (i.idle n) (named-more n c.args.rows.now c.loop-row.row-index c.row-item.result c.loop-row-test.true c.row-item.is);
    }

pub returns-in_err-open-clause-idle : goal.returns-in_err-open-clause-idle
returns-in_err-open-clause-idle c = λ n e.
    let rows = c.args.rows.now in
    let k = c.loop-row.row-index in
    idle-within _ _ _ (idle-more _ _ _ _ _ (c.open.ensures.idle n e) (c.loop-row.invariant.idle n) (named-more n rows k c.row-item.result c.loop-row-test.true c.row-item.is)) (named-within n rows (k + 1))
