-- Locks and requests that the broker will list for a tab after the tab's report and its commands, before the broker has
-- answered the tab in this generation.
use Rattle.std.proofs.Common.{◌≡◌, ℕ, ◌+◌, ◌<◌, true, false, List, [], length, map}
use Rattle.wl_draft.specs.Membership.{In}
use Rattle.wl_draft.specs.declared.row.Entry.{Entry}
use Rattle.wl_broker.specs.Broker.{is_lock}
use Rattle.wl_agent.specs.Tab.{TabState, operation_of, live_limit}
use Rattle.wl_quiescence.proofs.rest.Invariant.{IsAlive, numbered_from}

abbrev pub reported_numbers : TabState → List ℕ
reported_numbers a = map (λ (e : Entry). e.number) a.report.entries

-- Numbers of the tab at the broker after the report and `m` commands.
abbrev pub numbered_to : TabState → ℕ → List ℕ
numbered_to a m = numbered_from a a.report.base m (reported_numbers a)

-- Until the tab has an answer in this generation, each of these numbers is alive, and no command goes beyond the tab's limit.
pub record IsReady (a : TabState) : Type 0 where
  pub first : a.entered ≡ 0 → (a.answered ≡ false) × (a.report.base ≡ 0) × (a.report.entries ≡ [])
  pub own : a.answered ≡ false → (k m : ℕ) → a.report.base + m ≡ length a.issued → In k (numbered_to a m) → IsAlive a k
  pub room :
      a.answered ≡ false → (m : ℕ) → a.report.base + m < length a.issued → is_lock (operation_of a (a.report.base + m)) ≡ true →
      length (numbered_to a m) < live_limit a.in_parts
