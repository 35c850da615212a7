-- Lemmas on the remaining copies of a reply.
use Rattle.std.proofs.Common.{◌≡◌, ◌+◌, ◌∷◌, ◌++◌, [], ℕ, List, length, ap, ◌∙◌, arith}
use Rattle.std.proofs.lemmas.List.{length-replicate}
use Rattle.wl_locked.specs.Replying.{AreReplies, HasNext}
use Rattle.wl_locked.specs.declared.event.BookEvent.{BookEvent}
use Rattle.wl_locked.specs.declared.event.Reply.{Reply}
use Rattle.wl_locked.specs.declared.receipt.Step.{Step}
use Rattle.wl_locked.specs.declared.receipt.Receipt.{Receipt}
use Rattle.wl_locked.specs.declared.answering.Replies.{Replies}
use Rattle.wl_locked.specs.declared.answering.Replies.TheVariants.{Sent, Refused}

pub has-next : (n : ℕ) (reply : Reply) (r : Replies) → AreReplies (n + 1) reply r → HasNext r
has-next n reply (Sent all) h = omega (arith, ap length h.1 ∙ length-replicate (n + 1) h.0)
has-next n reply (Refused reason) h = tt

abbrev pub step : BookEvent → Reply → Step
step e r = record { event = e; reply = r }

pub same-step : (es : List Step) (e d : BookEvent) (r t : Reply) → e ≡ d → r ≡ t → es ++ step e r ∷ [] ≡ es ++ step d t ∷ []
same-step es e d r t event reply = ap (λ (x : BookEvent). es ++ step x r ∷ []) event ∙ ap (λ (x : Reply). es ++ step d x ∷ []) reply

abbrev pub receipt : ℕ → BookEvent → Reply → Receipt
receipt p e r = record { place = p; event = e; reply = r }

pub same-receipt : (p : ℕ) (e d : BookEvent) (r t : Reply) → e ≡ d → r ≡ t → receipt p e r ≡ receipt p d t
same-receipt p e d r t event reply = ap (λ (x : BookEvent). receipt p x r) event ∙ ap (λ (x : Reply). receipt p d x) reply
