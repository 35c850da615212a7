use Rattle.std.proofs.Common.{[], ◌∷◌, ◌++◌, length, Some, refl, sym, ap, ◌∙◌, arith}
use Rattle.wl_draft.specs.Tables.{find}
use Rattle.wl_agent.specs.Tab.{TabState, reserves_number}
use Rattle.wl_agent.proofs.Rows.{weighs}
use Rattle.wl_agent.proofs.Tidiness.{next_is_new, tidy-issue, two-or-one}
use Rattle.wl_agent.proofs.Spellings.{spoken-more}
use Rattle.wl_agent.proofs.TabSteps.{step-issue}
use Rattle.wl_agent.proofs.agent.Agent.issue.Goals as goal

pub insert-requires-clause-new : goal.insert-requires-clause-new
insert-requires-clause-new c =
    let at = c.count-number.ensures ∙ ap (λ (x : TabState). length x.issued) (sym c.self.view_is) in
    ap (find c.self.inside.statuses) at ∙ next_is_new _ _ _ c.self.invariant.0 refl

pub invariant_of-self-2 : goal.invariant_of-self-2
invariant_of-self-2 c =
    let items = c.push_reserved.ensures.items ∙ ap (λ xs. xs ++ c.args.operation ∷ []) c.reserve.ensures.items in
    let more = weighs _ _ _ c.from-more.ensures c.reserves_number.ensures in
    (tidy-issue _ _ c.args.operation c.args.status _ _ _ _ _ c.self.invariant.0 c.self.view_is items c.in_ok-insert.ensures.ok c.count-number.ensures c.requires.few c.requires.becomes c.requires.numbers (omega (arith, c.in_ok-reserve.ensures.ok, c.reserve.ensures.len, c.push_reserved.ensures.capacity, c.kept.ensures, more, two-or-one (reserves_number (Some c.args.status)), c.self.inside.issued.ok.0)), spoken-more c.args.operation _ c.self.invariant.1 c.requires.spoken items)

pub returns-clause-ok : goal.returns-clause-ok
returns-clause-ok c =
    let items = c.push_reserved.ensures.items ∙ ap (λ xs. xs ++ c.args.operation ∷ []) c.reserve.ensures.items in
    step-issue _ _ c.args.operation c.args.status _ _ _ c.self.view_is items c.in_ok-insert.ensures.ok c.count-number.ensures
