use Rattle.std.proofs.Common.{◌≡◌, subst, sym, ap, ◌∙◌, arith}
use Rattle.std.proofs.lemmas.List.{with_items_is}
use Rattle.wl_broadcast.specs.Channels.{delivered}
use Rattle.wl_broadcast.specs.OpenObjects.{all_seen, open_from, AreChannels}
use Rattle.wl_broadcast.proofs.Numbered.{open-delivered}
use Rattle.std.specs.Vec.{with_items}
use Rattle.wl_broadcast.proofs.ChannelNames.{names_delivered}
use Rattle.wl_broadcast.proofs.channels.Channels.deliver.Goals as goal

pub invariant_of-self-2 : goal.invariant_of-self-2
invariant_of-self-2 c =
    let d = c.args.delivery.now in
    let whole = with_items_is c.self.inside.objects c.deliver.new.objects (omega (arith, c.deliver.auto.objects, c.deref_mut.ensures.len, c.self.inside.objects.ok.0)) in
    let after = c.in_ok-deliver.ensures.ok ∙ ap (λ os. delivered d.sender d.name.now d.letter.now (all_seen os)) c.deref_mut.ensures.value in
    let is : all_seen (with_items c.self.inside.objects c.deliver.new.objects).items ≡ delivered d.sender d.name.now d.letter.now (all_seen c.self.inside.objects.items) = ap all_seen whole ∙ after in
    record {
      numbers = sym (ap (open_from 0) is ∙ open-delivered d.sender d.name.now d.letter.now 0 (all_seen c.self.inside.objects.items) ∙ sym c.self.invariant.numbers);
      names = subst AreChannels (sym is) (names_delivered 0 d.sender d.name.now d.letter.now (all_seen c.self.inside.objects.items) c.self.invariant.names);
    }
