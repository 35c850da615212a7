use Rattle.std.proofs.Common.{ap, ◌∙◌}
use Rattle.std.proofs.lemmas.Result.{IfOk-weaker}
use Rattle.wl_broker.specs.BrokerInvariant.{PartitionState}
use Rattle.wl_broker.proofs.SettledLocks.{newly-settle, newly-probed, filter-probe, filter-granted, settled_probe, settled_still, either_way}
use Rattle.wl_broker.proofs.partition_locks.PartitionLocks.change.Goals as goal

pub invariant_of-self : goal.invariant_of-self
invariant_of-self g c = λ h.
    either_way c.probe.result c.probe.ensures.ok c.probe.ensures.err
    (λ e. rw e (newly-probed _ _ (c.self.invariant h))) (λ e. rw e (c.self.invariant h))

pub invariant_of-self-else-if_available : goal.invariant_of-self-else-if_available
invariant_of-self-else-if_available g c = λ h.
    either_way c.request.result c.request.ensures.ok c.request.ensures.err
    (λ e. rw e (newly-settle _)) (λ e. rw e (c.self.invariant h))

pub invariant_of-self-in-Release : goal.invariant_of-self-in-Release
invariant_of-self-in-Release g c = λ h.
    either_way c.release.result c.release.ensures.ok c.release.ensures.err
    (λ e. rw e (newly-settle _)) (λ e. rw e (c.self.invariant h))

pub invariant_of-self-in-Abort : goal.invariant_of-self-in-Abort
invariant_of-self-in-Abort g c = λ h.
    either_way c.abort.result c.abort.ensures.ok c.abort.ensures.err
    (λ e. rw e (newly-settle _)) (λ e. rw e (c.self.invariant h))

pub returns-then-if_available-clause-grants : goal.returns-then-if_available-clause-grants
returns-then-if_available-clause-grants g c =
    let n = c.self.invariant (ap (λ (s : PartitionState). s.is_active) c.self.view_is ∙ c.requires.active) in
    rw (c.in-Request.is, c.if-if_available.true, ← c.self.view_is)
    (IfOk-weaker c.probe.result _ _ (λ x e. filter-probe _ _ _ _ _ _ _ n e) c.probe.ensures.grants)

pub returns-then-if_available-clause-ok : goal.returns-then-if_available-clause-ok
returns-then-if_available-clause-ok g c =
    let n = c.self.invariant (ap (λ (s : PartitionState). s.is_active) c.self.view_is ∙ c.requires.active) in
    rw (c.in-Request.is, c.if-if_available.true)
    (IfOk-weaker c.probe.result _ _ (λ x e. settled_probe _ _ _ _ _ n c.self.view_is e) c.probe.ensures.ok)

pub returns-else-if_available-clause-grants : goal.returns-else-if_available-clause-grants
returns-else-if_available-clause-grants g c =
    rw (c.in-Request.is, c.if-if_available.false, ← c.self.view_is)
    (IfOk-weaker c.request.result _ _ (λ x e. filter-granted _ _ _ _ e) c.request.ensures.grants)

pub returns-in-Release-clause-grants : goal.returns-in-Release-clause-grants
returns-in-Release-clause-grants g c =
    rw (c.in-Release.is, ← c.self.view_is)
    (IfOk-weaker c.release.result _ _ (λ x e. filter-granted _ _ _ _ e) c.release.ensures.grants)

pub returns-in-Abort-clause-grants : goal.returns-in-Abort-clause-grants
returns-in-Abort-clause-grants g c =
    rw (c.in-Abort.is, ← c.self.view_is)
    (IfOk-weaker c.abort.result _ _ (λ x e. filter-granted _ _ _ _ e) c.abort.ensures.grants)

pub returns-in-Query-clause-ok : goal.returns-in-Query-clause-ok
returns-in-Query-clause-ok g c =
    let n = c.self.invariant (ap (λ (s : PartitionState). s.is_active) c.self.view_is ∙ c.requires.active) in
    rw c.in-Query.is (settled_still _ _ _ n c.self.view_is)
