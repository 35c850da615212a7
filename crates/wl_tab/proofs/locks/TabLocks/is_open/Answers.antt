use Rattle.std.proofs.Common.{◌≡◌, None, not, ap, sym, subst, ◌∙◌}
use Rattle.wl_agent.specs.Tab.{TabState, status_of}
use Rattle.wl_tab.specs.TabTokens.{is_open, is_lock}
use Rattle.wl_tab.proofs.KeptTokens.{found, nowhere, stood-at}
use Rattle.wl_tab.proofs.Spending.{open-there}
use Rattle.wl_tab.proofs.locks.TabLocks.is_open.Goals as goal

pub returns-in-Some : goal.returns-in-Some
returns-in-Some c =
    let f = found c.self.inside.agent c.self.inside.tab c.self.inside.entered c.self.inside.kept.items c.deref.result.now c.args.number c.in-Some.place c.index.result.now c.place_of.result c.self.invariant c.deref.ensures.value c.place_of.ensures c.in-Some.is in
    let there = open-there c.self.inside.agent c.args.number c.index.result.now (stood-at c.self.inside.agent c.self.inside.kept.items c.args.number c.in-Some.place c.index.result.now f c.index.ensures) in
    ap not c.is_lock.ensures ∙ sym (subst (λ (a : TabState). is_open (status_of a c.args.number) ≡ not (is_lock c.index.result.now.token)) c.self.view_is there)

pub returns-in-None : goal.returns-in-None
returns-in-None c =
    let none = nowhere c.self.inside.agent c.self.inside.tab c.self.inside.entered c.self.inside.kept.items c.deref.result.now c.args.number c.place_of.result c.self.invariant c.deref.ensures.value c.place_of.ensures c.in-None.is in
    sym (ap is_open (subst (λ (a : TabState). status_of a c.args.number ≡ None) c.self.view_is none))
