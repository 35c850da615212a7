use Rattle.std.proofs.Common.{refl, sym, ◌∙◌, subst}
use Rattle.wl_kernel.specs.Kernel.{KernelState}
use Rattle.wl_hub.specs.declared.sending.Output.TheVariants.{For, Dropped}
use Rattle.wl_hub.specs.contracts.hub.Hub.{the_view}
use Rattle.wl_hub.specs.Hub.{HubState}
use Rattle.wl_hub.specs.Sending.{IsDue, IsNext}
use Rattle.wl_hub.specs.Stored.{queued}
use Rattle.wl_hub.proofs.hub.Hub.next_output.Goals as goal

pub returns-then-not-is_due-clause-next : goal.returns-then-not-is_due-clause-next
returns-then-not-is_due-clause-next c =
    let bytes = c.args.out.now.items in
    let rest = queued c.take_front.new.self in
    subst (λ (h : HubState). IsNext h Dropped bytes bytes (record (the_view c.self.inside) { outputs = rest })) c.self.view_is (
      c.in-Some.oldest.0,
      c.in-Some.oldest.1,
      rest,
      sym c.settle.ensures.same ∙ c.in-Some.ensures.first,
      (λ d. c.if-not-is_due.ensures.no refl (subst (λ (k : KernelState). IsDue k c.in-Some.oldest.0 c.in-Some.oldest.1) (sym c.tabs.ensures) d)),
      refl,
      refl,
    )

pub returns-clause-next : goal.returns-clause-next
returns-clause-next c =
    let rest = queued c.take_front.new.self in
    subst (λ (h : HubState). IsNext h (For c.in-Some.oldest.0) c.args.out.now.items c.encode_into.new.out.items (record (the_view c.self.inside) { outputs = rest })) c.self.view_is (
      c.in-Some.oldest.1,
      rest,
      sym c.settle.ensures.same ∙ c.in-Some.ensures.first,
      subst (λ (k : KernelState). IsDue k c.in-Some.oldest.0 c.in-Some.oldest.1) c.tabs.ensures (c.if-not-is_due.ensures.yes refl),
      c.in_default-encode_into.ensures.spelled,
      refl,
    )
