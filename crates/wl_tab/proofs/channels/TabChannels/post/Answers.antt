use Rattle.std.proofs.Common.{Some, None, Err, refl, ◌∙◌, sym, ap, subst}
use Rattle.std.proofs.lemmas.Result.{err_from_is_err_and}
use Rattle.wl_broadcast.specs.Owned.{Owned}
use Rattle.wl_broadcast.specs.declared.fault.ChannelFault.TheVariants.{Memory}
use Rattle.wl_broadcast.specs.Channels.{ChannelState, posted, post_frame, name_at, taking, full, post_refusal}
use Rattle.wl_tab.specs.declared.channels.ChannelRefusal.TheVariants.{Fault}
use Rattle.wl_tab.specs.TabChannels.{IsNumbered}
use Rattle.wl_tab.proofs.OpenChannels.{found_in, refused_in, posting-refused, posting-number, number-no-fault, refusal-told, fault-told, numbered-posted}
use Rattle.wl_tab.proofs.channels.TabChannels.post.Goals as goal

pub returns-in_err-place-clause-refused : goal.returns-in_err-place-clause-refused
returns-in_err-place-clause-refused c =
    let p = err_from_is_err_and c.from_residual.result c.from_residual.ensures.1 in
    let n : IsNumbered c.args.self.now c.self.inside.latest c.self.inside.kept.items = subst (λ (s : ChannelState). IsNumbered s c.self.inside.latest c.self.inside.kept.items) c.self.view_is c.self.invariant in
    let refused = refused_in c.args.self.now c.self.inside.latest c.self.inside.kept.items c.deref.result.now c.args.number c.in_err-place.field-0.0 c.place_of.result n c.deref.ensures.value c.place_of.ensures c.in_err-place.was in
    let never = number-no-fault c.args.self.now c.args.number Memory in
    rw (p.1, p.2) (tt, λ other. posting-number c.args.self.now c.args.number c.args.bytes.now c.in_err-place.field-0.0 refused, λ same. absurd (never (refused ∙ ap Some (refusal-told _ _ _ _ refl refl same))))

pub returns-in_err-post-clause-refused : goal.returns-in_err-post-clause-refused
returns-in_err-post-clause-refused c =
    let p = err_from_is_err_and c.from_residual-in_err-post.result c.from_residual-in_err-post.ensures.1 in
    let n : IsNumbered c.args.self.now c.self.inside.latest c.self.inside.kept.items = subst (λ (s : ChannelState). IsNumbered s c.self.inside.latest c.self.inside.kept.items) c.self.view_is c.self.invariant in
    let f = found_in c.args.self.now c.self.inside.latest c.self.inside.kept.items c.deref.result.now c.args.number c.in_ok-place.place c.place_of.result n c.deref.ensures.value c.place_of.ensures c.in_ok-place.was in
    let channel = c.index.ensures ∙ f.channel c.index.result.now in
    let at = ap (λ (s : ChannelState). post_refusal c.index.result.now.tab c.index.result.now.number c.args.bytes.now s) (sym c.self.view_is) in
    let refused = c.in_err-post.ensures.refused in
    rw (p.1, p.2) (
      tt,
      λ other. posting-refused c.args.self.now c.args.number c.args.bytes.now (Some c.in_err-post.field-0.0) c.index.result.now f.allowed channel (at ∙ refused.1 (λ same. other (ap Fault same))),
      λ same. posting-refused c.args.self.now c.args.number c.args.bytes.now None c.index.result.now f.allowed channel (at ∙ refused.2 (ap Err (fault-told _ _ _ _ refl refl same))),
    )

pub invariant_of-self-2 : goal.invariant_of-self-2
invariant_of-self-2 c =
    numbered-posted c.self.inside.channels c.post.new.self c.self.inside.latest c.self.inside.kept.items c.index.result.now.number c.args.bytes.now c.self.invariant c.in_ok-post.ensures.ok

pub returns-clause-ok : goal.returns-clause-ok
returns-clause-ok c =
    let n : IsNumbered c.args.self.now c.self.inside.latest c.self.inside.kept.items = subst (λ (s : ChannelState). IsNumbered s c.self.inside.latest c.self.inside.kept.items) c.self.view_is c.self.invariant in
    let f = found_in c.args.self.now c.self.inside.latest c.self.inside.kept.items c.deref.result.now c.args.number c.in_ok-place.place c.place_of.result n c.deref.ensures.value c.place_of.ensures c.in_ok-place.was in
    let number = ap (λ (x : Owned). x.number) (c.index.ensures ∙ f.channel c.index.result.now) in
    c.in_ok-post.ensures.ok ∙ ap (λ k. posted k c.args.bytes.now c.self.inside.channels) number ∙ ap (posted c.args.number c.args.bytes.now) c.self.view_is

pub returns-clause-refused : goal.returns-clause-refused
returns-clause-refused c =
    let n : IsNumbered c.args.self.now c.self.inside.latest c.self.inside.kept.items = subst (λ (s : ChannelState). IsNumbered s c.self.inside.latest c.self.inside.kept.items) c.self.view_is c.self.invariant in
    let f = found_in c.args.self.now c.self.inside.latest c.self.inside.kept.items c.deref.result.now c.args.number c.in_ok-place.place c.place_of.result n c.deref.ensures.value c.place_of.ensures c.in_ok-place.was in
    let channel = c.index.ensures ∙ f.channel c.index.result.now in
    let at = ap (λ (s : ChannelState). post_refusal c.index.result.now.tab c.index.result.now.number c.args.bytes.now s) (sym c.self.view_is) in
    let allowed = posting-refused c.args.self.now c.args.number c.args.bytes.now None c.index.result.now f.allowed channel (at ∙ c.in_ok-post.ensures.refused.0) in
    (allowed, tt, λ same. allowed)

pub returns-clause-posted : goal.returns-clause-posted
returns-clause-posted c =
    let n : IsNumbered c.args.self.now c.self.inside.latest c.self.inside.kept.items = subst (λ (s : ChannelState). IsNumbered s c.self.inside.latest c.self.inside.kept.items) c.self.view_is c.self.invariant in
    let f = found_in c.args.self.now c.self.inside.latest c.self.inside.kept.items c.deref.result.now c.args.number c.in_ok-place.place c.place_of.result n c.deref.ensures.value c.place_of.ensures c.in_ok-place.was in
    let number = ap (λ (x : Owned). x.number) (c.index.ensures ∙ f.channel c.index.result.now) in
    let is = c.in_ok-post.ensures.posted in
    let frames = ap (λ k. post_frame c.self.inside.channels.posts (name_at c.self.inside.channels.objects k) c.args.bytes.now) number ∙ ap (λ (s : ChannelState). post_frame s.posts (name_at s.objects c.args.number) c.args.bytes.now) c.self.view_is in
    let took = ap (λ k. taking (Some k) (name_at c.self.inside.channels.objects k) c.self.inside.channels.objects) number ∙ ap (λ (s : ChannelState). taking (Some c.args.number) (name_at s.objects c.args.number) s.objects) c.self.view_is in
    let filled = ap (λ k. full (Some k) (name_at c.self.inside.channels.objects k) c.self.inside.channels.objects) number ∙ ap (λ (s : ChannelState). full (Some c.args.number) (name_at s.objects c.args.number) s.objects) c.self.view_is in
    (is.0 ∙ frames, is.1 ∙ took, is.2 ∙ filled)
