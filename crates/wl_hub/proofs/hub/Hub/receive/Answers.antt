use Rattle.std.proofs.Common.{◌≤◌, None, Some, length, refl, ap, subst, rules}
use Rattle.std.proofs.lemmas.List.{drop_all}
use Rattle.wl_frames.specs.declared.fault.FrameFault.{FrameFault}
use Rattle.wl_frames.specs.declared.fault.FrameFault.TheVariants.{Memory}
use Rattle.wl_hub.specs.declared.fault.ReceiveFault.{ReceiveFault}
use Rattle.wl_hub.specs.declared.fault.ReceiveFault.TheVariants as faults
use Rattle.wl_hub.specs.contracts.hub.Hub.{the_view}
use Rattle.wl_hub.specs.Hub.{HubState, IsFed, IsReceived}
use Rattle.wl_hub.proofs.hub.Hub.receive.Goals as goal

abbrev frame_fault : ReceiveFault → FrameFault
frame_fault (faults.Frame f) = f
frame_fault other = Memory

pub returns-in_default-fault-clause-ok : goal.returns-in_default-fault-clause-ok
returns-in_default-fault-clause-ok c =
    let feeds = c.feed.new.feeds.entries in
    let frames = c.in-Some.fed.frames.items in
    let past : length c.self.inside.arrived.items ≤ c.self.inside.handled = search rules in
    subst (λ (h : HubState). IsReceived c.args.tab c.args.bytes.now h (record (the_view c.self.inside) { feeds = feeds; sender = c.args.tab; arrived = frames }) None) c.self.view_is (record {
      feeds = feeds;
      frames = frames;
      idle = drop_all c.self.inside.handled c.self.inside.arrived.items past;
      fed = subst (IsFed c.args.tab c.args.bytes.now c.self.inside.feeds.entries feeds frames) c.in_default-fault.is c.in-Some.ensures.fed;
      now = refl;
    })

pub returns-clause-fault : goal.returns-clause-fault
returns-clause-fault c f e =
    let feeds = c.feed.new.feeds.entries in
    let frames = c.in-Some.fed.frames.items in
    let past : length c.self.inside.arrived.items ≤ c.self.inside.handled = search rules in
    subst (λ (h : HubState). IsReceived c.args.tab c.args.bytes.now h (record (the_view c.self.inside) { feeds = feeds; sender = c.args.tab; arrived = frames }) (Some f)) c.self.view_is (record {
      feeds = feeds;
      frames = frames;
      idle = drop_all c.self.inside.handled c.self.inside.arrived.items past;
      fed = subst (λ (g : FrameFault). IsFed c.args.tab c.args.bytes.now c.self.inside.feeds.entries feeds frames (Some g)) (ap frame_fault e)
          (subst (IsFed c.args.tab c.args.bytes.now c.self.inside.feeds.entries feeds frames) c.in-Some-fault.is c.in-Some.ensures.fed);
      now = refl;
    })
