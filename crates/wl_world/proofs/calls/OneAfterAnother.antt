-- Messages that are sent one after another.
use Rattle.std.proofs.Common.{◌≡◌, List, [], ◌∷◌, ◌++◌, refl, ap}
use Rattle.wl_world_messages.specs.declared.message.Message.{Message}
use Rattle.wl_world_messages.specs.Messages.{sent, sent_all, sending}
use Rattle.wl_world_model.specs.Replies.{sendings}

pub sent_all-push : (ms : List Message) (m : Message) (bag : List Message) → sent_all (ms ++ m ∷ []) bag ≡ sent m (sent_all ms bag)
sent_all-push [] m bag = refl
sent_all-push (n ∷ ns) m bag = sent_all-push ns m (sent n bag)

pub sendings-push : (ms : List Message) (m : Message) (bag : List Message) → sendings (ms ++ m ∷ []) bag ≡ sendings ms bag ++ sending m (sent_all ms bag) ∷ []
sendings-push [] m bag = refl
sendings-push (n ∷ ns) m bag = ap (λ s. sending n bag ∷ s) (sendings-push ns m (sent n bag))
