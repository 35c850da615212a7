use Rattle.std.proofs.Common.{◌∙◌, ap, subst}
use Rattle.std.proofs.lemmas.Result.{err_from_is_err_and}
use Rattle.wl_broadcast.specs.Owned.{Owned}
use Rattle.wl_broadcast.specs.Channels.{ChannelState, read_at, inbox_at, first_of}
use Rattle.wl_tab.specs.TabChannels.{IsNumbered}
use Rattle.wl_tab.proofs.OpenChannels.{found_in, refused_in, owned, never, numbered-read}
use Rattle.wl_tab.proofs.channels.TabChannels.read.Goals as goal

pub returns-in_err-place-clause-refused : goal.returns-in_err-place-clause-refused
returns-in_err-place-clause-refused c =
    let p = err_from_is_err_and c.from_residual.result c.from_residual.ensures.1 in
    let n : IsNumbered c.args.self.now c.self.inside.latest c.self.inside.kept.items = subst (λ (s : ChannelState). IsNumbered s c.self.inside.latest c.self.inside.kept.items) c.self.view_is c.self.invariant in
    rw (p.1, p.2) (tt, refused_in c.args.self.now c.self.inside.latest c.self.inside.kept.items c.deref.result.now c.args.number c.in_err-place.field-0.0 c.place_of.result n c.deref.ensures.value c.place_of.ensures c.in_err-place.was)

pub returns-in_err-read-clause-refused : goal.returns-in_err-read-clause-refused
returns-in_err-read-clause-refused c =
    let f = found_in c.self.inside.channels c.self.inside.latest c.self.inside.kept.items c.deref.result.now c.args.number c.in_ok-place.place c.place_of.result c.self.invariant c.deref.ensures.value c.place_of.ensures c.in_ok-place.was in
    let allowed = owned c.self.inside.channels c.args.number c.index.result.now f.opened (c.index.ensures ∙ f.channel c.index.result.now) in
    never _ c.in_err-read.field-0.0 allowed c.in_err-read.ensures.refused.1

pub invariant_of-self-2 : goal.invariant_of-self-2
invariant_of-self-2 c =
    numbered-read c.self.inside.channels c.read.new.self c.self.inside.latest c.self.inside.kept.items c.index.result.now.number c.self.invariant c.in_ok-read.ensures.ok

pub returns-clause-ok : goal.returns-clause-ok
returns-clause-ok c =
    let n : IsNumbered c.args.self.now c.self.inside.latest c.self.inside.kept.items = subst (λ (s : ChannelState). IsNumbered s c.self.inside.latest c.self.inside.kept.items) c.self.view_is c.self.invariant in
    let f = found_in c.args.self.now c.self.inside.latest c.self.inside.kept.items c.deref.result.now c.args.number c.in_ok-place.place c.place_of.result n c.deref.ensures.value c.place_of.ensures c.in_ok-place.was in
    let number = ap (λ (x : Owned). x.number) (c.index.ensures ∙ f.channel c.index.result.now) in
    c.in_ok-read.ensures.ok ∙ ap (λ k. read_at k c.self.inside.channels) number ∙ ap (read_at c.args.number) c.self.view_is

pub returns-clause-refused : goal.returns-clause-refused
returns-clause-refused c =
    let n : IsNumbered c.args.self.now c.self.inside.latest c.self.inside.kept.items = subst (λ (s : ChannelState). IsNumbered s c.self.inside.latest c.self.inside.kept.items) c.self.view_is c.self.invariant in
    let f = found_in c.args.self.now c.self.inside.latest c.self.inside.kept.items c.deref.result.now c.args.number c.in_ok-place.place c.place_of.result n c.deref.ensures.value c.place_of.ensures c.in_ok-place.was in
    (f.allowed, tt)

pub returns-clause-letter : goal.returns-clause-letter
returns-clause-letter c =
    let f = found_in c.self.inside.channels c.self.inside.latest c.self.inside.kept.items c.deref.result.now c.args.number c.in_ok-place.place c.place_of.result c.self.invariant c.deref.ensures.value c.place_of.ensures c.in_ok-place.was in
    let number = ap (λ (x : Owned). x.number) (c.index.ensures ∙ f.channel c.index.result.now) in
    c.in_ok-read.ensures.letter ∙ ap (λ k. first_of (inbox_at c.self.inside.channels.objects k)) number ∙ ap (λ (s : ChannelState). first_of (inbox_at s.objects c.args.number)) c.self.view_is
