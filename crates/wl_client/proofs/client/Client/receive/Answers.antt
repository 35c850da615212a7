use Rattle.std.proofs.Common.{◌≤◌, Some, length, refl, ap, subst, rules}
use Rattle.std.proofs.lemmas.List.{drop_all}
use Rattle.wl_frames.specs.declared.fault.FrameFault.{FrameFault}
use Rattle.wl_frames.specs.declared.fault.FrameFault.TheVariants.{Memory}
use Rattle.wl_client.specs.declared.fault.ReceiveFault.{ReceiveFault}
use Rattle.wl_client.specs.declared.fault.ReceiveFault.TheVariants as faults
use Rattle.wl_client.specs.contracts.client.Client.{the_view}
use Rattle.wl_client.specs.Client.{ClientState, IsReceived}
use Rattle.wl_frames.specs.Stream.{Decodes}
use Rattle.wl_client.proofs.client.Client.receive.Goals as goal

abbrev frame_fault : ReceiveFault → FrameFault
frame_fault (faults.Frame f) = f
frame_fault other = Memory

pub returns-clause-fault : goal.returns-clause-fault
returns-clause-fault c f e =
    let frames = c.decode-fed.result.frames.items in
    let past : length c.self.inside.arrived.items ≤ c.self.inside.handled = search rules in
    subst (λ (s : ClientState). IsReceived c.args.bytes.now s (record (the_view c.self.inside) { feeding = c.decode-fed.new.self; arrived = frames }) (Some f)) c.self.view_is (record {
      feeding = c.decode-fed.new.self;
      frames = frames;
      idle = drop_all c.self.inside.handled c.self.inside.arrived.items past;
      decodes = subst (λ (g : FrameFault). Decodes c.self.inside.feed c.decode-fed.new.self c.args.bytes.now frames (Some g)) (ap frame_fault e)
          (subst (Decodes c.self.inside.feed c.decode-fed.new.self c.args.bytes.now frames) c.in-Some.is c.decode-fed.ensures);
      now = refl;
    })
