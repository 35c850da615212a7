-- Tabs whose commands came too early: the broker dropped them, since the tab's partition recovered.
use Rattle.std.specs.Prelude.{ℕ, ◌-◌, List, [], ◌∷◌, ◌++◌, Bool, not, ◌==◌, length, filter, Option, Some, None, if◌then◌else◌}
use Rattle.std.specs.List.{list_any}
use Rattle.wl_broker.specs.declared.dropped.Dropped.TheVariants.{Recovering}
use Rattle.wl_world_messages.specs.declared.effect.Effect.{Effect}
use Rattle.wl_world_messages.specs.declared.effect.Effect.TheVariants as said
use Rattle.wl_world_messages.specs.declared.effect.Reason.TheVariants as reason
use Rattle.wl_hub.specs.declared.receiving.Verdict.{Verdict}
use Rattle.wl_hub.specs.declared.receiving.Verdict.TheVariants.{Early, Active, Other}

-- The broker's answer to the frame that had this effect. The flag says whether the sender's partition is now active.
abbrev pub verdict_of : Bool → Effect → Verdict
verdict_of a (said.Dropped (reason.AtBroker Recovering)) = Early
verdict_of a (said.Joined t) = if a then Active else Other
verdict_of a e = Other

-- The early tabs, and the number of those in front whose greetings may be due. A tab stands there once.
abbrev pub noted : Verdict → ℕ → List ℕ → ℕ → List ℕ × ℕ
noted Early t ts n = (if list_any (λ x. x == t) ts then ts else ts ++ t ∷ [], n)
noted Active t ts n = (ts, length ts)
noted Other t ts n = (ts, n)

-- The early tabs without one that has died.
abbrev pub without_tab : ℕ → List ℕ → List ℕ
without_tab t ts = filter (λ u. not (u == t)) ts

abbrev pub first_of : List ℕ → Option ℕ
first_of [] = None
first_of (t ∷ ts) = Some t

abbrev pub greeted_next : ℕ → List ℕ → Option ℕ
greeted_next n ts = if n == 0 then None else first_of ts

abbrev pub after_first_of : ℕ → List ℕ → List ℕ × ℕ
after_first_of n [] = ([], n)
after_first_of n (t ∷ ts) = (ts, n - 1)

abbrev pub rest_after : ℕ → List ℕ → List ℕ × ℕ
rest_after n ts = if n == 0 then (ts, n) else after_first_of n ts

-- The first tab's partition still recovers, so the tab moves to the end.
abbrev pub postponed_first : ℕ → List ℕ → List ℕ × ℕ
postponed_first n [] = ([], n)
postponed_first n (t ∷ ts) = (ts ++ t ∷ [], n - 1)

abbrev pub postponed : ℕ → List ℕ → List ℕ × ℕ
postponed n ts = if n == 0 then (ts, n) else postponed_first n ts
