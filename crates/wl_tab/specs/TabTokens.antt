-- Numbers of a tab that are not over, each with its command and its token.
use Rattle.std.specs.Prelude.{◌≡◌, ◌==◌, ℕ, List, [], Bool, true, false, not, ◌&&◌, length, map, filter, get_or, is_some, Option, Some, None, if◌then◌else◌}
use Rattle.std.specs.List.{AllByRecursion, filter_map}
use Rattle.wl_draft.specs.Tables.{Table, Rises}
use Rattle.wl_grammar.specs.declared.frame.Frame.{Frame}
use Rattle.wl_grammar.specs.declared.frame.Operation.{Operation}
use Rattle.wl_grammar.specs.declared.frame.Operation.TheVariants.{Request, Query}
use Rattle.wl_agent.specs.declared.delivered.Delivered.{Delivered}
use Rattle.wl_agent.specs.declared.delivered.Delivered.TheVariants as told
use Rattle.wl_agent.specs.declared.snapshot.Snapshot.{Snapshot}
use Rattle.wl_agent.specs.declared.status.Status.{Status}
use Rattle.wl_agent.specs.declared.status.Status.TheVariants.{Asked, Held}
use Rattle.wl_agent.specs.declared.token.Token.{Token}
use Rattle.wl_agent.specs.declared.token.Token.TheVariants as token
use Rattle.wl_agent.specs.Tab.{TabState, status_of, operation_of, is_asked, is_held, is_probe, mode_of, name_of}
use Rattle.wl_agent.specs.Tokens.{is_own, is_pending, is_holding, held_lock, abort_refusal}
use Rattle.wl_agent.specs.AgentInvariant.{RowsFit}
use Rattle.wl_tab.specs.declared.holding.Holding.{Holding}
use Rattle.wl_world_messages.specs.declared.effect.Ended.{Ended}
use Rattle.wl_world_messages.specs.declared.effect.Ended.TheVariants as ended
use Rattle.wl_world_messages.specs.declared.effect.Effect.{Effect}
use Rattle.wl_world_messages.specs.declared.effect.Effect.TheVariants as said
use Rattle.wl_tab.specs.declared.locks.AbortResult.{AbortResult}
use Rattle.wl_tab.specs.declared.locks.AbortResult.TheVariants as became
use Rattle.wl_tab.specs.declared.locks.live_command.LiveCommand.{LiveCommand}
use Rattle.wl_tab.specs.Tabs.{is_told}
use Rattle.wl_tab.specs.Arrivals.{generation_in}

-- Tokens

-- The token of a number with this status, once it is settled.
abbrev pub token_for : ℕ → Operation → ℕ → Status → Token
token_for tab o k Asked = if is_probe o then token.Probe (record { tab = tab; number = k }) else token.Pending (record { tab = tab; number = k })
token_for tab o k Held = token.HeldLock (held_lock tab k)
token_for tab o k s = token.Asking (record { tab = tab; number = k })

abbrev pub kept_as : Operation → Token → LiveCommand
kept_as o t = record { operation = o; token = t }

-- The stored entry for a row of the statuses.
abbrev pub kept_for : ℕ → List Operation → ℕ × Status → LiveCommand
kept_for tab issued row = kept_as (get_or issued row.0 Query) (token_for tab (get_or issued row.0 Query) row.0 row.1)

abbrev pub kept_of : TabState → List LiveCommand
kept_of a = map (kept_for a.tab a.issued) a.statuses

-- No query is complete or lost without its token having been settled.
abbrev pub NoneTold : Table Status → Type 0
NoneTold rows = AllByRecursion (λ row. is_told row.1 ≡ false) rows

-- Each number that is not over has a settled token, by rising number.
pub record IsKept (a : TabState) (tab entered : ℕ) (kept : List LiveCommand) : Type 0 where
  pub tokens : kept ≡ kept_of a
  pub owner : tab ≡ a.tab
  pub generation : entered ≡ a.entered
  pub rise : Rises 0 a.statuses
  pub rows : RowsFit a.issued a.statuses
  pub untold : NoneTold a.statuses

abbrev pub number_of : Token → ℕ
number_of (token.Pending p) = p.number
number_of (token.Probe p) = p.number
number_of (token.HeldLock lock) = lock.number
number_of (token.Asking q) = q.number

abbrev pub is_lock : Token → Bool
is_lock (token.HeldLock lock) = true
is_lock t = false

-- The number is a request or a probe that is neither granted nor refused, or a query that is not complete.
abbrev pub is_open : Option Status → Bool
is_open s = is_some s && not (is_held s)

-- Aborts and releases

-- The result of aborting this number.
abbrev pub abortion : ℕ → TabState → AbortResult
abortion k a =
    if is_pending a k then (if is_asked (status_of a k) then became.Issued (length a.issued) else became.Held) else became.Nothing

-- The agent accepts the token for an abort.
abbrev pub can_abort : TabState → Token → Bool
can_abort a (token.Pending p) = not (is_some (abort_refusal a p))
can_abort a t = false

-- The agent accepts the token for a release.
abbrev pub can_release : TabState → Token → Bool
can_release a (token.HeldLock lock) = is_own is_holding a lock.tab lock.number
can_release a t = false

-- Holdings

abbrev pub holding_at : TabState → ℕ → Holding
holding_at a k = record { tab = a.tab; number = k; mode = mode_of (operation_of a k); name = name_of (operation_of a k) }

-- The locks that the tab holds, by rising number.
abbrev pub holdings_of : TabState → List Holding
holdings_of a = map (λ row. holding_at a row.0) (filter (λ row. is_held (Some row.1)) a.statuses)

abbrev pub holding_by : ℕ → Operation → Token → Option Holding
holding_by tab (Request mode if_available name) (token.HeldLock lock) =
    Some (record { tab = tab; number = lock.number; mode = mode; name = name })
holding_by tab o t = None

-- The holding for a stored number, if its lock is held.
abbrev pub holding_in : ℕ → LiveCommand → Option Holding
holding_in tab k = holding_by tab k.operation k.token

-- Replies to a delivery

-- The result that ends a number when its tab enters a later generation.
abbrev pub ended_by : Token → Option Ended
ended_by (token.Probe p) = Some (ended.Null p.number)
ended_by (token.Asking q) = Some (ended.Lost q.number)
ended_by t = None

abbrev pub ended_kept : List LiveCommand → List Ended
ended_kept kept = filter_map (λ k. ended_by k.token) kept

-- The results that end these numbers when the tab enters a generation. The first generation of a tab's life ends none.
abbrev pub ended_before : ℕ → List LiveCommand → List Ended
ended_before entered kept = if entered == 0 then [] else ended_kept kept

-- A snapshot is present if the delivery completes a query.
abbrev pub has_snapshot : Delivered → Option Snapshot → Bool
has_snapshot (told.Whole k) snapshot = is_some snapshot
has_snapshot d snapshot = true

-- The reply to the delivery that completes a query, from its snapshot.
abbrev pub whole_said : Option Snapshot → ℕ → Effect
whole_said (Some snapshot) k = said.Whole k snapshot
whole_said None k = said.Taken k

-- The generation that the tab has entered after the frame.
abbrev pub entered_by : Frame → Delivered → ℕ → ℕ
entered_by f (told.Entered report) g = generation_in f
entered_by f d g = g
