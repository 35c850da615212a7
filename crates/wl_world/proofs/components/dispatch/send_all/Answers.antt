use Rattle.std.proofs.Common.{◌++◌, ◌∷◌, [], List, sym, ap, ◌∙◌}
use Rattle.wl_world_messages.specs.declared.message.Message.{Message}
use Rattle.wl_world_messages.specs.declared.sent.Sent.{Sent}
use Rattle.wl_world_messages.specs.Messages.{sent, sent_all, sending}
use Rattle.wl_world.proofs.calls.OneAfterAnother.{sent_all-push, sendings-push}
use Rattle.wl_world.proofs.components.dispatch.send_all.Goals as goal

pub loop-message-preserved : goal.loop-message-preserved
loop-message-preserved c =
    let m = c.in-Some.message in
    let old = c.args.bag.now in
    let before = c.loop-message.invariant in
    record {
      bag = c.in_ok-put.ensures.ok ∙ ap (λ (bag : List Message). sent m bag) before.bag ∙ sym (sent_all-push c.loop-message.yielded m old);
      sent = c.in_ok-push.ensures.items ∙ ap (λ (s : Sent). c.loop-message.sent.items ++ s ∷ []) (c.in_ok-put.ensures.sending ∙ ap (λ (bag : List Message). sending m bag) before.bag) ∙ ap (λ (ss : List Sent). ss ++ sending m (sent_all c.loop-message.yielded old) ∷ []) before.sent ∙ sym (sendings-push c.loop-message.yielded m old);
    }
