use Rattle.std.proofs.Common.{◌≡◌, true, ◌∙◌, arith}
use Rattle.std.proofs.lemmas.Grind.{common_steps}
use Rattle.wl_grammar.specs.declared.frame.Frame.TheVariants as frame
use Rattle.wl_broadcast.specs.Channels.{after_hearing}
use Rattle.wl_world_model.specs.World.{lives}
use Rattle.wl_world.proofs.calls.ChannelRows.{row_of, heard-said}
use Rattle.wl_world.proofs.calls.ChannelCalls.{after_hearing-tab}
use Rattle.wl_world.proofs.calls.LivingRows.{channels-there, channels-put}
use Rattle.wl_world.proofs.components.Components.hear_post.Goals as goal

pub heard_at-requires : goal.heard_at-requires
heard_at-requires c =
    let live : lives c.args.self.now c.args.tab ≡ true = grind (arith, common_steps) in
    record { there = channels-there c.self.inside.tabs.entries c.self.inside.channels.entries c.self.inside.supervisor c.self.inside.bag c.self.inside.corrupt.items c.args.self.now c.self.view_is c.args.tab live c.self.invariant }

pub invariant_of-self-in_err-said : goal.invariant_of-self-in_err-said
invariant_of-self-in_err-said c =
    channels-put c.self.inside.supervisor.kernel c.args.tab (after_hearing (frame.Heard c.args.heard.now) (row_of c.args.tab c.self.inside.channels.entries)) c.self.inside.tabs.entries c.self.inside.channels.entries c.heard_at.new.channels.entries c.in_ok-hearing.ensures.ok (after_hearing-tab c.args.heard.now (row_of c.args.tab c.self.inside.channels.entries) ∙ c.self.invariant.own c.args.tab) c.self.invariant

pub invariant_of-self-2 : goal.invariant_of-self-2
invariant_of-self-2 c =
    channels-put c.self.inside.supervisor.kernel c.args.tab (after_hearing (frame.Heard c.args.heard.now) (row_of c.args.tab c.self.inside.channels.entries)) c.self.inside.tabs.entries c.self.inside.channels.entries c.heard_at.new.channels.entries c.in_ok-hearing.ensures.ok (after_hearing-tab c.args.heard.now (row_of c.args.tab c.self.inside.channels.entries) ∙ c.self.invariant.own c.args.tab) c.self.invariant

pub returns-clause-said : goal.returns-clause-said
returns-clause-said c =
    let live : lives c.args.self.now c.args.tab ≡ true = grind (arith, common_steps) in
    let p = c.self.inside in
    let hearing = c.in_ok-hearing.ensures.hearing in
    c.silent-2.ensures.said ∙ c.in_ok-said.ensures ∙ heard-said p.tabs.entries p.channels.entries p.supervisor p.bag p.corrupt.items c.args.self.now c.self.view_is c.args.tab c.args.heard.now live c.in_ok-hearing.hearing hearing
