use Rattle.std.proofs.Common.{◌≡◌}
use Rattle.wl_world_messages.specs.Messages.{sent_all}
use Rattle.wl_world_model.specs.Replies.{sendings}
use Rattle.wl_world.proofs.components.dispatch.send_all.Given as goal

abbrev pub invariant-loop-message : goal.invariant-loop-message
invariant-loop-message l =
    record { bag : l.bag ≡ sent_all l.yielded l.initial.bag; sent : l.sent.items ≡ sendings l.yielded l.initial.bag }
