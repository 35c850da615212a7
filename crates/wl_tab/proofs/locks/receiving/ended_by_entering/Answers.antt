use Rattle.std.proofs.Common.{◌≡◌, cond, [], sym, ap, ◌∙◌, rules, tests}
use Rattle.std.proofs.lemmas.Bool.{ne_eqb}
use Rattle.std.proofs.lemmas.Iterator.{items_from_collect, YieldsList-from_slice}
use Rattle.std.proofs.lemmas.Iterator.Consumers.{YieldsList-from_filter_map}
use Rattle.std.proofs.lemmas.Result.{IfOk-weaker}
use Rattle.wl_tab.specs.declared.locks.live_command.LiveCommand.{LiveCommand}
use Rattle.wl_tab.specs.TabTokens.{ended_by, ended_kept, ended_before}
use Rattle.wl_tab.proofs.locks.receiving.ended_by_entering.Goals as goal

pub returns : goal.returns
returns c =
    let kept = c.args.kept.now in
    let later : ended_before c.args.entered kept ≡ ended_kept kept = ap (λ b. cond b [] (ended_kept kept)) (ne_eqb c.args.entered 0 c.if-entered-eq0.false) in
    let all = items_from_collect _ c.collect.ensures.ran (YieldsList-from_filter_map _ (λ (k : LiveCommand). ended_by k.token) (YieldsList-from_slice kept cc) c.filter_map.ensures.closure (λ x r q k. search (rules, tests))) in
    IfOk-weaker c.collect.result (λ v. v.items ≡ ended_kept kept) (λ v. v.items ≡ ended_before c.args.entered kept) (λ v e. e ∙ sym later) all
