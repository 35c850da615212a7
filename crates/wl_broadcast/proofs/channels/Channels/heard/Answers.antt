use Rattle.std.proofs.Common.{subst, sym, ap, ◌∙◌, arith}
use Rattle.std.proofs.lemmas.List.{with_items_is}
use Rattle.wl_broadcast.specs.OpenObjects.{all_seen, open_from, AreChannels}
use Rattle.wl_broadcast.proofs.channels.Channels.heard.Goals as goal

pub invariant_of-self-2 : goal.invariant_of-self-2
invariant_of-self-2 c =
    let whole = ap all_seen (with_items_is c.self.inside.objects c.hear.new.objects (omega (arith, c.hear.auto.objects, c.deref_mut.ensures.len, c.self.inside.objects.ok.0))) in
    let before = ap all_seen c.deref_mut.ensures.value in
    record {
      numbers = sym (ap (open_from 0) whole ∙ c.in_ok-hear.ensures.kept_open ∙ ap (open_from 0) before ∙ sym c.self.invariant.numbers);
      names = subst AreChannels (sym whole) (c.in_ok-hear.ensures.kept_names (subst AreChannels (sym before) c.self.invariant.names));
    }
