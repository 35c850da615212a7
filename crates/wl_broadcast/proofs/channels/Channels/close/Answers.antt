use Rattle.std.proofs.Common.{◌≡◌, ℕ, subst, refl, Bool, false, not, ◌==◌, [], filter, sym, ap, ◌∙◌, arith}
use Rattle.std.proofs.lemmas.List.{with_items_is}
use Rattle.wl_broadcast.specs.Channels.{changed_at}
use Rattle.wl_broadcast.specs.OpenObjects.{all_seen, open_from, AreChannels}
use Rattle.wl_broadcast.proofs.Numbered.{open-closed_at}
use Rattle.std.specs.Vec.{with_items}
use Rattle.wl_broadcast.proofs.Gained.{close}
use Rattle.wl_broadcast.proofs.ChannelNames.{names_changed}
use Rattle.wl_broadcast.proofs.channels.Channels.close.Goals as goal

pub invariant_of-self : goal.invariant_of-self
invariant_of-self c =
    let n = c.channel.inside.number in
    let other : ℕ → Bool = λ j. not (j == n) in
    let whole = with_items_is c.self.inside.objects c.close_at.new.objects (omega (arith, c.close_at.auto.objects, c.deref_mut.ensures.len, c.self.inside.objects.ok.0)) in
    let closed = c.close_at.ensures ∙ ap (λ os. changed_at n (λ o. record o { is_open = false; inbox = [] }) (all_seen os)) c.deref_mut.ensures.value in
    let is : all_seen (with_items c.self.inside.objects c.close_at.new.objects).items ≡ changed_at n close (all_seen c.self.inside.objects.items) = ap all_seen whole ∙ closed in
    record {
      numbers = c.forget.ensures ∙ ap (filter other) c.self.invariant.numbers ∙ sym (ap (open_from 0) is ∙ open-closed_at n (all_seen c.self.inside.objects.items));
      names = subst AreChannels (sym is) (names_changed close (λ o. refl) n (all_seen c.self.inside.objects.items) c.self.invariant.names);
    }
