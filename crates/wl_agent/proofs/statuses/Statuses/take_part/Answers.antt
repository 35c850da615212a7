use Rattle.std.proofs.Common.{◌≡◌, true, false, sym, ap, ◌∙◌, subst}
use Rattle.wl_draft.specs.Tables.{Table, find, put, has_row}
use Rattle.wl_draft.proofs.TableLemmas.{lookup-find}
use Rattle.wl_draft.proofs.RisingTables.{written_same}
use Rattle.wl_agent.specs.declared.status.Status.{Status}
use Rattle.wl_agent.specs.SnapshotParts.{with_part, is_whole}
use Rattle.wl_agent.specs.Tab.{is_querying}
use Rattle.wl_agent.specs.Delivery.{parts_of, with_part_come}
use Rattle.wl_agent.specs.AgentInvariant.{IsCounted}
use Rattle.wl_agent.proofs.Rows.{written}
use Rattle.wl_agent.proofs.Outcomes.{on_err}
use Rattle.wl_agent.proofs.QueryCounts.{asking-live, counts-part}
use Rattle.wl_agent.proofs.statuses.Statuses.take_part.Goals as goal

pub take_part-requires-clause-querying : goal.take_part-requires-clause-querying
take_part-requires-clause-querying c =
    let k = c.args.part.now.number in
    let found = c.in-Some.ensures.value ∙ lookup-find c.self.inside.rows.entries k ∙ ap (λ rs. find rs k) c.self.view_is in
    ap is_querying found ∙ c.requires.querying

pub take_part-requires-clause-missing : goal.take_part-requires-clause-missing
take_part-requires-clause-missing c =
    let k = c.args.part.now.number in
    let found = c.in-Some.ensures.value ∙ lookup-find c.self.inside.rows.entries k ∙ ap (λ rs. find rs k) c.self.view_is in
    ap (λ o. has_row (parts_of o).came c.args.part.now.part) found ∙ c.requires.missing

pub invariant_of-self : goal.invariant_of-self
invariant_of-self c =
    let same = written_same _ _ _ _ _ c.in-Some.ensures.value (c.get_mut.follows.holds _).0 c.in_err-whole-in-Some.ensures.err in
    let P : Table Status → Type 0 = λ rs. IsCounted rs c.self.inside.live c.self.inside.kept in
    subst P (sym same) c.self.invariant

pub returns-in_err-whole-in-Some-clause-err : goal.returns-in_err-whole-in-Some-clause-err
returns-in_err-whole-in-Some-clause-err c =
    let same = written_same _ _ _ _ _ c.in-Some.ensures.value (c.get_mut.follows.holds _).0 c.in_err-whole-in-Some.ensures.err ∙ c.self.view_is in
    on_err c.from_residual.result _ same

pub overflow_sub-self : goal.overflow_sub-self
overflow_sub-self c =
    let k = c.args.part.now.number in
    let rows = c.self.inside.rows.entries in
    let at = c.in-Some.ensures.value ∙ lookup-find rows k in
    asking-live rows _ _ k _ c.in-Some.status.now _ c.self.invariant (sym at) (ap is_querying (at ∙ ap (λ rs. find rs k) c.self.view_is) ∙ c.requires.querying) c.from.ensures

pub invariant_of-self-in-Some : goal.invariant_of-self-in-Some
invariant_of-self-in-Some c =
    let k = c.args.part.now.number in
    let rows = c.self.inside.rows.entries in
    let at = c.in-Some.ensures.value ∙ lookup-find rows k in
    let new = written k _ _ rows _ c.self.invariant.rise c.in-Some.ensures.value (c.get_mut.follows.holds _).0 ∙ ap (λ t. put k t rows) c.in_ok-whole-in-Some.ensures.ok in
    counts-part rows _ _ _ k _ c.args.part.now c.in-Some.status.now _ c.self.invariant (sym at) (ap is_querying (at ∙ ap (λ rs. find rs k) c.self.view_is) ∙ c.requires.querying) new (sym c.in_ok-whole-in-Some.ensures.whole) c.from.ensures

pub unreachable-requires : goal.unreachable-requires
unreachable-requires c =
    let k = c.args.part.now.number in
    let absent = c.in-None.ensures.value ∙ lookup-find c.self.inside.rows.entries k ∙ ap (λ rs. find rs k) c.self.view_is in
    let asked : false ≡ true = ap is_querying absent ∙ c.requires.querying in
    cc

pub returns-clause-ok : goal.returns-clause-ok
returns-clause-ok c =
    let k = c.args.part.now.number in
    let rows = c.self.inside.rows.entries in
    let found = c.in-Some.ensures.value ∙ lookup-find rows k ∙ ap (λ rs. find rs k) c.self.view_is in
    written k _ _ rows _ c.self.invariant.rise c.in-Some.ensures.value (c.get_mut.follows.holds _).0 ∙ ap (λ t. put k t rows) c.in_ok-whole-in-Some.ensures.ok ∙ ap (λ o. put k (with_part_come c.args.part.now (parts_of o)) rows) found ∙ ap (put k _) c.self.view_is

pub returns-clause-whole : goal.returns-clause-whole
returns-clause-whole c =
    let k = c.args.part.now.number in
    let found = c.in-Some.ensures.value ∙ lookup-find c.self.inside.rows.entries k ∙ ap (λ rs. find rs k) c.self.view_is in
    c.in_ok-whole-in-Some.ensures.whole ∙ ap (λ o. is_whole (with_part c.args.part.now (parts_of o))) found
