-- Lemmas on one more step.
use Rattle.std.proofs.Common.{◌≡◌, ◌<◌, ◌+◌, ℕ, List, [], ◌∷◌, ◌++◌, length, replicate, Bool, false, refl, sym, ap, ◌∙◌, arith}
use Rattle.std.proofs.lemmas.List.{replicate_more, length_push}
use Rattle.wl_broker.specs.Broker.{BrokerState}
use Rattle.wl_locked.specs.Stepping.{stepped}
use Rattle.wl_locked.specs.declared.receipt.Step.{Step}
use Rattle.wl_locked.specs.History.{replay, events, IsReplay, IsKept}

pub replay-push : (s : BrokerState) (es : List Step) (e : Step) → replay s (events (es ++ e ∷ [])) ≡ (stepped (replay s (events es)) e.event).0
replay-push s [] e = refl
replay-push s (x ∷ es) e = replay-push (stepped s x.event).0 es e

pub IsReplay-push : (s : BrokerState) (es : List Step) (e : Step) → IsReplay s es → e.reply ≡ (stepped (replay s (events es)) e.event).1 → IsReplay s (es ++ e ∷ [])
IsReplay-push s [] e h same = (same, tt)
IsReplay-push s (x ∷ es) e h same = (h.0, IsReplay-push (stepped s x.event).0 es e h.1 same)

pub length-events : (es : List Step) → length (events es) ≡ length es
length-events [] = refl
length-events (e ∷ es) = omega (arith, length-events es)

-- Appending a step keeps the book consistent.
pub IsKept-push : (opening now next : BrokerState) (steps longer : List Step) (e : Step) (marks more : List Bool) (limit count total : ℕ)
    → IsKept opening now steps marks limit count
    → next ≡ (stepped now e.event).0 → e.reply ≡ (stepped now e.event).1
    → longer ≡ steps ++ e ∷ [] → more ≡ marks ++ false ∷ [] → total ≡ count + 1 → length steps < limit
    → IsKept opening next longer more limit total
IsKept-push opening now next steps longer e marks more limit count total h moved said is marks_are counted room =
    record {
      replays = moved ∙ ap (λ (s : BrokerState). (stepped s e.event).0) h.replays ∙ sym (replay-push opening steps e) ∙ ap (λ es. replay opening (events es)) (sym is);
      told = rw is (IsReplay-push opening steps e h.told (said ∙ ap (λ (s : BrokerState). (stepped s e.event).1) h.replays));
      counted = counted ∙ ap (λ n. n + 1) h.counted ∙ sym (length_push steps e) ∙ ap length (sym is);
      within = rw (is, length_push) (omega arith);
      unmarked = marks_are ∙ ap (λ ms. ms ++ false ∷ []) h.unmarked ∙ replicate_more (length steps) false ∙ ap (λ n. replicate n false) (sym (ap length is ∙ length_push steps e));
    }
