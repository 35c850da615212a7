use Rattle.std.proofs.Common.{subst, sym, [], ◌∷◌, ◌++◌, ap, ◌∙◌, arith}
use Rattle.wl_broadcast.specs.Channels.{opened, new_object}
use Rattle.wl_broadcast.specs.OpenObjects.{all_seen, AreChannels}
use Rattle.wl_broadcast.proofs.Numbered.{seen_opened, open-opened, open_is_short}
use Rattle.wl_broadcast.proofs.ChannelNames.{names_opened}
use Rattle.wl_broadcast.proofs.channels.Channels.open.Goals as goal

pub invariant_of-self-2 : goal.invariant_of-self-2
invariant_of-self-2 c =
    let named = c.new-object.ensures ∙ ap new_object (c.new-name.ensures ∙ c.in_ok-from_str.ensures.ok) in
    let objects = seen_opened c.self.inside.objects.items c.push.new.self.items c.new-object.result c.args.name.now c.in_ok-push.ensures.items named in
    record {
      numbers = open-opened c.self.inside.open_numbers.items c.push_reserved.new.self.items c.len-number.result c.self.inside.objects.items c.push.new.self.items c.new-object.result c.args.name.now c.self.invariant.numbers (c.push_reserved.ensures.items ∙ ap (λ ns. ns ++ c.len-number.result ∷ []) c.in_ok-reserve.ensures.items) (omega (arith, c.len-number.ensures, c.self.inside.objects.ok.0)) c.in_ok-push.ensures.items named;
      names = subst AreChannels (sym objects) (names_opened (all_seen c.self.inside.objects.items) c.args.name.now c.self.invariant.names (open_is_short c.args.name.now c.args.self.now (sym c.in_default.ensures), c.utf8.name));
    }

pub returns-clause-ok : goal.returns-clause-ok
returns-clause-ok c =
    let named = c.new-object.ensures ∙ ap new_object (c.new-name.ensures ∙ c.in_ok-from_str.ensures.ok) in
    let objects = seen_opened c.self.inside.objects.items c.push.new.self.items c.new-object.result c.args.name.now c.in_ok-push.ensures.items named in
    ap (λ os. record { tab = c.self.inside.tab; objects = os; posts = c.self.inside.posts; last = c.self.inside.last.entries }) objects ∙ ap (opened c.args.name.now) c.self.view_is
