use Rattle.std.proofs.Common.{◌≡◌, ap, subst, ◌∙◌}
use Rattle.wl_agent.specs.declared.delivered.Delivered.{Delivered}
use Rattle.wl_agent.specs.Tab.{TabState}
use Rattle.wl_agent.specs.Delivery.{delivery}
use Rattle.wl_tab.specs.Tabs.{told}
use Rattle.wl_tab.specs.Arrivals.{arrival, ended_by_entering}
use Rattle.wl_tab.specs.TabTokens.{ended_before}
use Rattle.wl_tab.proofs.Heard.{Comes, comes, ends-before}
use Rattle.wl_tab.proofs.locks.TabLocks.deliver.Goals as goal
use Rattle.wl_tab.proofs.locks.TabLocks.deliver.Goals.{After-tell_all-snapshot}

-- The effect and reply of the frame, after the tokens are settled.
came : (c : After-tell_all-snapshot) → Comes c.args.frame.now c.self.inside.agent c.tell_all-snapshot.new.agent c.in_ok-delivered.delivered c.self.inside.tab c.entered_by-self-inside.result c.tell_all-snapshot.new.kept.items c.tell_all-snapshot.result
came c =
    let told = c.tell_all-snapshot.ensures in
    let delivered = ap (λ (d : Delivered). (c.deliver.new.self, d)) c.in_ok-delivered.ensures.same ∙ c.deliver.ensures.done c.in_ok-delivered.ensures.ok in
    comes c.args.frame.now c.self.inside.agent c.deliver.new.self c.tell_all-snapshot.new.agent c.in_ok-delivered.delivered c.self.inside.tab c.self.inside.entered c.entered_by-self-inside.result c.self.inside.kept.items c.tell_all-snapshot.new.kept.items c.tell_all-snapshot.result c.self.invariant delivered c.entered_by-self-inside.ensures told.agent told.kept told.snapshot

pub said_of_told-requires : goal.said_of_told-requires
said_of_told-requires c = (came (goal.at.said_of_told-requires c).After-tell_all-snapshot).whole

pub invariant_of-self-2 : goal.invariant_of-self-2
invariant_of-self-2 c = (came (goal.at.invariant_of-self-2 c).After-tell_all-snapshot).keeps

pub returns-clause-new : goal.returns-clause-new
returns-clause-new c =
    subst (λ (s : TabState). c.tell_all-snapshot.new.agent ≡ told (delivery c.args.frame.now s).0) c.self.view_is (came (goal.at.returns-clause-new c).After-tell_all-snapshot).left

pub returns-clause-said : goal.returns-clause-said
returns-clause-said c =
    let ends : c.in_ok-ended.ended.items ≡ ended_by_entering c.self.inside.agent = c.in_ok-ended.ensures ∙ ap (ended_before c.self.inside.entered) c.deref.ensures.value ∙ ends-before c.self.inside.agent c.self.inside.tab c.self.inside.entered c.self.inside.kept.items c.self.invariant in
    subst (λ (s : TabState). c.said_of_told.result ≡ arrival c.args.frame.now s) c.self.view_is (c.said_of_told.ensures ∙ (came (goal.at.returns-clause-said c).After-tell_all-snapshot).says c.in_ok-ended.ended.items ends)
