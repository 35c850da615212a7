use Rattle.std.proofs.Common.{Some, sym, ap, ◌∙◌}
use Rattle.wl_draft.specs.Tables.{find, without_row}
use Rattle.wl_draft.proofs.TableLemmas.{lookup-find}
use Rattle.wl_draft.proofs.RisingTables.{remove_entry-without}
use Rattle.wl_agent.proofs.Rows.{weighs}
use Rattle.wl_agent.proofs.Counts.{counts-without, live-fits, kept-fits}
use Rattle.wl_agent.proofs.statuses.Statuses.remove.Goals as goal

pub returns-in_err-before-clause-rest : goal.returns-in_err-before-clause-rest
returns-in_err-before-clause-rest c =
    c.remove.ensures.entries ∙ remove_entry-without c.args.number 0 c.self.inside.rows.entries c.self.invariant.rise ∙ ap (without_row c.args.number) c.self.view_is

pub returns-in_err-before-clause-status : goal.returns-in_err-before-clause-status
returns-in_err-before-clause-status c =
    c.from_residual.ensures ∙ sym c.in_err-before.was ∙ c.remove.ensures.value ∙ lookup-find c.self.inside.rows.entries c.args.number ∙ ap (λ rows. find rows c.args.number) c.self.view_is

pub overflow_sub-self : goal.overflow_sub-self
overflow_sub-self c =
    let rows = c.self.inside.rows.entries in
    let found = sym (lookup-find rows c.args.number) ∙ sym c.in_ok-before.ensures.value in
    (live-fits rows _ _ _ _ (Some c.in_ok-before.before) c.self.invariant found (weighs _ _ _ c.from.ensures c.is_live.ensures))

pub overflow_sub-self-2 : goal.overflow_sub-self-2
overflow_sub-self-2 c =
    let rows = c.self.inside.rows.entries in
    let found = sym (lookup-find rows c.args.number) ∙ sym c.in_ok-before.ensures.value in
    (kept-fits rows _ _ _ _ (Some c.in_ok-before.before) c.self.invariant found (weighs _ _ _ c.from-2.ensures c.reserves_number.ensures))

pub invariant_of-self-2 : goal.invariant_of-self-2
invariant_of-self-2 c =
    let rows = c.self.inside.rows.entries in
    let found = sym (lookup-find rows c.args.number) ∙ sym c.in_ok-before.ensures.value in
    let rest = c.remove.ensures.entries ∙ remove_entry-without c.args.number 0 rows c.self.invariant.rise in
    counts-without rows _ _ _ _ _ _ (Some c.in_ok-before.before) c.self.invariant found rest (weighs _ _ _ c.from.ensures c.is_live.ensures) (weighs _ _ _ c.from-2.ensures c.reserves_number.ensures)

pub returns-clause-rest : goal.returns-clause-rest
returns-clause-rest c =
    c.remove.ensures.entries ∙ remove_entry-without c.args.number 0 c.self.inside.rows.entries c.self.invariant.rise ∙ ap (without_row c.args.number) c.self.view_is

pub returns-clause-status : goal.returns-clause-status
returns-clause-status c =
    c.in_ok-before.ensures.value ∙ lookup-find c.self.inside.rows.entries c.args.number ∙ ap (λ rows. find rows c.args.number) c.self.view_is
