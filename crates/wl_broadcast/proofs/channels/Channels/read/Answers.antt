use Rattle.std.proofs.Common.{◌≡◌, subst, refl, sym, ap, ◌∙◌, arith}
use Rattle.std.proofs.lemmas.List.{with_items_is}
use Rattle.wl_broadcast.specs.Channels.{changed_at, rest_of}
use Rattle.wl_broadcast.specs.OpenObjects.{all_seen, open_from, AreChannels}
use Rattle.wl_broadcast.proofs.Numbered.{open-read}
use Rattle.std.specs.Vec.{with_items}
use Rattle.wl_broadcast.proofs.Gained.{read}
use Rattle.wl_broadcast.proofs.ChannelNames.{names_changed}
use Rattle.wl_broadcast.proofs.channels.Channels.read.Goals as goal

pub invariant_of-self : goal.invariant_of-self
invariant_of-self c =
    let n = c.channel.inside.number in
    let whole = with_items_is c.self.inside.objects c.read_at.new.objects (omega (arith, c.read_at.auto.objects, c.deref_mut.ensures.len, c.self.inside.objects.ok.0)) in
    let rest = c.read_at.ensures.rest ∙ ap (λ os. changed_at n (λ o. record o { inbox = rest_of o.inbox }) (all_seen os)) c.deref_mut.ensures.value in
    let is : all_seen (with_items c.self.inside.objects c.read_at.new.objects).items ≡ changed_at n read (all_seen c.self.inside.objects.items) = ap all_seen whole ∙ rest in
    record {
      numbers = sym (ap (open_from 0) is ∙ open-read 0 n (all_seen c.self.inside.objects.items) ∙ sym c.self.invariant.numbers);
      names = subst AreChannels (sym is) (names_changed read (λ o. refl) n (all_seen c.self.inside.objects.items) c.self.invariant.names);
    }
