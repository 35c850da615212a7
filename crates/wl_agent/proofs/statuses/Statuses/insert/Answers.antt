use Rattle.std.proofs.Common.{ap, ◌∙◌, arith}
use Rattle.wl_draft.specs.Tables.{find, put}
use Rattle.wl_draft.proofs.TableLemmas.{insert_entry-put}
use Rattle.wl_agent.specs.Tab.{is_live, count_of}
use Rattle.wl_agent.proofs.Rows.{weighs, byte-le}
use Rattle.wl_agent.proofs.Counts.{counts-insert, kept-le_live}
use Rattle.wl_agent.proofs.statuses.Statuses.insert.Goals as goal

pub overflow_add-self-2 : goal.overflow_add-self-2
overflow_add-self-2 c =
    let few = c.requires.few in
    let at = ap (count_of is_live) c.self.view_is in
    omega (arith, byte-le _ _ c.from-kept.ensures, kept-le_live c.self.inside.rows.entries, c.self.invariant.kept_is, at, few)

pub invariant_of-self-2 : goal.invariant_of-self-2
invariant_of-self-2 c =
    let rows = c.self.inside.rows.entries in
    let absent = ap (λ rs. find rs c.args.number) c.self.view_is ∙ c.requires.new in
    counts-insert rows _ _ _ _ _ _ _ c.self.invariant absent (c.in_ok-insert.ensures.entries ∙ insert_entry-put c.args.number c.args.status rows) (weighs _ _ _ c.from-live.ensures c.is_live.ensures) (weighs _ _ _ c.from-kept.ensures c.reserves_number.ensures)

pub returns-clause-ok : goal.returns-clause-ok
returns-clause-ok c =
    c.in_ok-insert.ensures.entries ∙ insert_entry-put c.args.number c.args.status c.self.inside.rows.entries ∙ ap (put c.args.number c.args.status) c.self.view_is
