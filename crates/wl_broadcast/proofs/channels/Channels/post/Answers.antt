use Rattle.std.proofs.Common.{◌≡◌, ◌<◌, length, subst, sym, ap, ◌∙◌, arith}
use Rattle.std.proofs.lemmas.List.Elements.{All-from_get_or}
use Rattle.wl_grammar.specs.Grammar.{IsChannel, IsData}
use Rattle.wl_broadcast.specs.Owned.{Owned}
use Rattle.wl_broadcast.specs.Channels.{ChannelState, name_at}
use Rattle.wl_broadcast.specs.OpenObjects.{all_seen, AreChannels}
use Rattle.wl_broadcast.proofs.ChannelNames.{name_of}
use Rattle.wl_broadcast.proofs.channels.Channels.post.Goals as goal

pub returns-clause-well_formed : goal.returns-clause-well_formed
returns-clause-well_formed c =
    let os = c.args.self.now.objects in
    let k = c.args.channel.now.number in
    let same = ap (λ (s : ChannelState). s.objects) c.self.view_is in
    let names : AreChannels os = subst AreChannels same c.self.invariant.names in
    let own : c.channel.inside.number ≡ k = ap (λ (o : Owned). o.number) c.channel.view_is in
    let named : c.in_ok-name.name ≡ name_at os k =
    c.in_ok-name.ensures ∙ c.name_at.ensures ∙ ap (λ xs. name_at (all_seen xs) c.channel.inside.number) c.deref.ensures.value
    ∙ ap (λ xs. name_at xs c.channel.inside.number) same ∙ ap (name_at os) own in
    let below : k < length os = omega (arith, c.if-not-is_own.ensures.within) in
    let content : IsData c.args.bytes.now = (omega arith, All-from_get_or (λ b. b < 256) c.args.bytes.now 0 (λ i _. omega (arith, c.type_inv.bytes i))) in
    record {
      number = omega arith;
      channel = subst IsChannel (sym named) (name_of os k names below);
      bytes = subst IsData (sym c.in_ok-content.ensures) content;
    }
