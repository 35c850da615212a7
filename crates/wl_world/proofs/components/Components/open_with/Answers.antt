use Rattle.std.proofs.Common.{ap, ◌∙◌}
use Rattle.wl_draft.specs.Tables.{put}
use Rattle.wl_broadcast.specs.Channels.{ChannelState}
use Rattle.wl_supervised_broker.specs.SupervisedStates.{SupervisedState}
use Rattle.wl_world.proofs.calls.LivingRows.{kernel-rowed, opens-rowed}
use Rattle.wl_world.proofs.components.Components.open_with.Goals as goal
use Rattle.wl_world.proofs.components.Components.open_with.Goals.{in-Ok+in_ok-put_row-in-Ok+in_ok-put_row-in-Ok-2, in-Err+in_ok-open_refusal-in-Err}

pub invariant_of-parts : goal.invariant_of-parts
invariant_of-parts c =
    let p = c.self.inside in
    elim c.match-open.branch [
      | in-Ok+in_ok-put_row-in-Ok+in_ok-put_row-in-Ok-2 w ↦
          let channels = w.in_ok-put_row-in-Ok-2.ensures.ok ∙ ap (λ (x : ChannelState). put c.args.tab x p.channels.entries) w.new.ensures in
          rw (w.tabs-is, w.channels-is) (opens-rowed p.supervisor c.open.new.self c.args.tab c.in_ok-copy.copy c.args.locks p.tabs.entries _ p.channels.entries _ w.in-Ok.ensures.ok w.in-Ok.ensures.refused.0 w.in_ok-put_row-in-Ok.ensures.ok channels c.self.invariant)
      | in-Err+in_ok-open_refusal-in-Err w ↦
          rw (w.tabs-is, w.channels-is) (kernel-rowed p.supervisor.kernel c.open.new.self.kernel p.tabs.entries p.channels.entries (ap (λ (s : SupervisedState). s.kernel) w.in-Err.ensures.err) c.self.invariant)
    ]
