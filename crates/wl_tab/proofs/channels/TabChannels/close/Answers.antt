use Rattle.std.proofs.Common.{cond, Err, ◌∙◌, sym, ap, subst}
use Rattle.wl_broadcast.specs.Owned.{Owned}
use Rattle.wl_broadcast.specs.declared.fault.ChannelFault.TheVariants.{ForeignChannel}
use Rattle.wl_broadcast.specs.Channels.{ChannelState, closed_at}
use Rattle.wl_tab.specs.declared.channels.ChannelRefusal.TheVariants.{NoChannel, Closed}
use Rattle.wl_tab.specs.TabChannels.{IsNumbered}
use Rattle.wl_tab.proofs.OpenChannels.{found_in, refused_in, owned, never, numbered-closed, no_channel, closed_already}
use Rattle.wl_tab.proofs.channels.TabChannels.close.Goals as goal

pub invariant_of-self : goal.invariant_of-self
invariant_of-self c =
    let f = found_in c.self.inside.channels c.self.inside.latest c.self.inside.kept.items c.deref.result.now c.args.number c.in-Ok.place c.place_of.result c.self.invariant c.deref.ensures.value c.place_of.ensures c.in-Ok.is in
    let allowed = owned c.self.inside.channels c.args.number c.remove-channel.result f.opened (c.remove-channel.ensures.value ∙ f.channel c.remove-channel.result) in
    never _ ForeignChannel allowed c.in-Err.ensures.refused

pub invariant_of-self-in_default : goal.invariant_of-self-in_default
invariant_of-self-in_default c =
    let f = found_in c.self.inside.channels c.self.inside.latest c.self.inside.kept.items c.deref.result.now c.args.number c.in-Ok.place c.place_of.result c.self.invariant c.deref.ensures.value c.place_of.ensures c.in-Ok.is in
    let number = ap (λ (x : Owned). x.number) (c.remove-channel.ensures.value ∙ f.channel c.remove-channel.result) in
    numbered-closed c.self.inside.channels c.close.new.self c.self.inside.latest c.self.inside.kept.items c.remove-channel.new.self.items c.args.number c.in-Ok.place c.self.invariant f c.remove-channel.ensures.items (c.in_default.ensures.ok ∙ ap (λ k. closed_at k c.self.inside.channels) number)

pub returns-in-Err-clause-new : goal.returns-in-Err-clause-new
returns-in-Err-clause-new c =
    let f = found_in c.self.inside.channels c.self.inside.latest c.self.inside.kept.items c.deref.result.now c.args.number c.in-Ok.place c.place_of.result c.self.invariant c.deref.ensures.value c.place_of.ensures c.in-Ok.is in
    let allowed = owned c.self.inside.channels c.args.number c.remove-channel.result f.opened (c.remove-channel.ensures.value ∙ f.channel c.remove-channel.result) in
    never _ ForeignChannel allowed c.in-Err.ensures.refused

pub returns-in_default-clause-new : goal.returns-in_default-clause-new
returns-in_default-clause-new c =
    let n : IsNumbered c.args.self.now c.self.inside.latest c.self.inside.kept.items = subst (λ (s : ChannelState). IsNumbered s c.self.inside.latest c.self.inside.kept.items) c.self.view_is c.self.invariant in
    let f = found_in c.args.self.now c.self.inside.latest c.self.inside.kept.items c.deref.result.now c.args.number c.in-Ok.place c.place_of.result n c.deref.ensures.value c.place_of.ensures c.in-Ok.is in
    let number = ap (λ (x : Owned). x.number) (c.remove-channel.ensures.value ∙ f.channel c.remove-channel.result) in
    c.in_default.ensures.ok ∙ ap (λ k. closed_at k c.self.inside.channels) number ∙ ap (closed_at c.args.number) c.self.view_is ∙ sym (ap (λ b. cond b (closed_at c.args.number c.args.self.now) c.args.self.now) f.opened)

pub returns-in-Err-NoChannel-clause-new : goal.returns-in-Err-NoChannel-clause-new
returns-in-Err-NoChannel-clause-new c =
    let n : IsNumbered c.args.self.now c.self.inside.latest c.self.inside.kept.items = subst (λ (s : ChannelState). IsNumbered s c.self.inside.latest c.self.inside.kept.items) c.self.view_is c.self.invariant in
    let refused = refused_in c.args.self.now c.self.inside.latest c.self.inside.kept.items c.deref.result.now c.args.number NoChannel c.place_of.result n c.deref.ensures.value c.place_of.ensures (c.in-Err-NoChannel.is ∙ ap Err c.in-Err-NoChannel.field-0-is) in
    sym (ap (λ b. cond b (closed_at c.args.number c.args.self.now) c.args.self.now) (no_channel c.args.self.now c.args.number refused).1)

pub returns-in-Err-Closed-clause-new : goal.returns-in-Err-Closed-clause-new
returns-in-Err-Closed-clause-new c =
    let n : IsNumbered c.args.self.now c.self.inside.latest c.self.inside.kept.items = subst (λ (s : ChannelState). IsNumbered s c.self.inside.latest c.self.inside.kept.items) c.self.view_is c.self.invariant in
    let refused = refused_in c.args.self.now c.self.inside.latest c.self.inside.kept.items c.deref.result.now c.args.number Closed c.place_of.result n c.deref.ensures.value c.place_of.ensures (c.in-Err-Closed.is ∙ ap Err c.in-Err-Closed.field-0-is) in
    sym (ap (λ b. cond b (closed_at c.args.number c.args.self.now) c.args.self.now) (closed_already c.args.self.now c.args.number refused).1)
