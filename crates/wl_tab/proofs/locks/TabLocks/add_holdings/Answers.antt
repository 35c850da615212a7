use Rattle.std.proofs.Common.{List, ap, ◌++◌, ◌∙◌}
use Rattle.std.specs.List.{filter_map}
use Rattle.std.proofs.lemmas.Result.{on_ok_weaker}
use Rattle.wl_tab.specs.declared.holding.Holding.{Holding}
use Rattle.wl_tab.specs.TabTokens.{holdings_of, holding_in}
use Rattle.wl_tab.proofs.KeptTokens.{holds-kept}
use Rattle.wl_tab.proofs.locks.TabLocks.add_holdings.Goals as goal

pub returns : goal.returns
returns c =
    let holds = ap (filter_map (holding_in c.self.inside.tab)) c.deref.ensures.value ∙ holds-kept c.self.inside.agent c.self.inside.tab c.self.inside.entered c.self.inside.kept.items c.self.invariant ∙ ap holdings_of c.self.view_is in
    on_ok_weaker c.add_holdings.result (λ pushed. pushed ∙ ap (λ (hs : List Holding). c.args.holdings.now.items ++ hs) holds) c.add_holdings.ensures
