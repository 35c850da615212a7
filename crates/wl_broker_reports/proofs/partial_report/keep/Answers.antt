use Rattle.std.proofs.Common.{◌≡◌, ℕ, true, Option, sym, ap, ◌∙◌, subst}
use Rattle.std.specs.BTreeMap.{BTreeMap}
use Rattle.std.proofs.lemmas.Result.{IfOk-weaker, on_err_weaker}
use Rattle.wl_draft.specs.Tables.{put}
use Rattle.wl_draft.proofs.TableLemmas.{lookup-find}
use Rattle.wl_draft.proofs.RisingTables.{written_same}
use Rattle.wl_broker_reports.specs.ReportParts.{Partial, all_below, fits, with_told}
use Rattle.wl_broker_reports.specs.PartialReports.{told}
use Rattle.wl_broker_reports.proofs.WrittenRows.{inserted, written}
use Rattle.wl_broker_reports.proofs.KeptParts.{with_told-more, with_told-first, same_base}
use Rattle.wl_broker_reports.proofs.partial_report.keep.Goals as goal

pub insert-requires : goal.insert-requires
insert-requires c =
    let x = told c.args.heading c.args.entries.now in
    let found = sym (lookup-find c.args.kept.now.entries c.args.tab) ∙ sym c.in-Some.ensures.value in
    let fitting = subst (λ (o : Option Partial). fits x o ≡ true) found c.requires.fits in
    subst (λ (n : ℕ). all_below n c.args.entries.now ≡ true) (same_base x c.in-Some.row.now fitting) c.requires.below

pub returns-in-Some-clause-ok : goal.returns-in-Some-clause-ok
returns-in-Some-clause-ok c =
    let x = told c.args.heading c.args.entries.now in
    let rows = c.args.kept.now.entries in
    let found = sym (lookup-find rows c.args.tab) ∙ sym c.in-Some.ensures.value in
    let fitting = subst (λ (o : Option Partial). fits x o ≡ true) found c.requires.fits in
    let more = with_told-more c.args.partition x c.in-Some.row.now fitting ∙ ap (with_told c.args.partition x) (sym found) in
    IfOk-weaker c.insert.result _ _ (λ u e. written _ _ _ rows _ c.in-Some.ensures.ordered c.in-Some.ensures.value (c.get_mut.follows.holds _).0 ∙ ap (λ (k : Partial). put c.args.tab k rows) (e ∙ more)) c.insert.ensures.ok

pub returns-in-Some-clause-err : goal.returns-in-Some-clause-err
returns-in-Some-clause-err c =
    on_err_weaker c.insert.result (λ e. written_same _ _ _ _ _ c.in-Some.ensures.value (c.get_mut.follows.holds _).0 e) c.insert.ensures.err

pub returns-in_ok-insert-in-None-2-clause-ok : goal.returns-in_ok-insert-in-None-2-clause-ok
returns-in_ok-insert-in-None-2-clause-ok c =
    let x = told c.args.heading c.args.entries.now in
    let rows = c.args.kept.now.entries in
    let none = sym (lookup-find rows c.args.tab) ∙ sym c.in-None.ensures.value in
    let first = c.in_ok-insert-in-None.ensures.ok ∙ ap (λ (k : Partial). record k { came = put x.part x.entries k.came }) c.new-row.ensures in
    let row = first ∙ with_told-first c.args.partition x ∙ ap (with_told c.args.partition x) (sym none) in
    inserted _ _ _ rows _ _ c.in_ok-insert-in-None-2.ensures.entries (ap (λ (m : BTreeMap ℕ Partial). m.entries) c.get_mut.follows.holds-at-none) row
