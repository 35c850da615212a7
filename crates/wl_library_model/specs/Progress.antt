-- Progress: a new tab joins, and a free lock is granted, once all frames on their way were delivered.
use Rattle.std.specs.Prelude.{◌≡◌, ℕ, ◌<◌, ◌≤◌, List, [], ◌∷◌, Bool, true, false, length, replicate, Some, None, Ok}
use Rattle.wl_origin.specs.Order.{Pair}
use Rattle.wl_limits.specs.declared.texts.TheConstants.{NAME_LIMIT}
use Rattle.wl_draft.specs.declared.mode.Mode.{Mode}
use Rattle.wl_draft.specs.declared.mode.Mode.TheVariants.{Exclusive}
use Rattle.wl_draft.specs.Locks.{Locks, is_grantable, live, row_of}
use Rattle.wl_broker.specs.Broker.{BrokerState, seat_of, manager_of, is_joined, is_active, next_of, limit_of}
use Rattle.wl_agent.specs.Tab.{is_supported, ask_refusal}
use Rattle.wl_kernel.specs.Kernel.{partition_number}
use Rattle.wl_hub.specs.declared.receiving.Progress.TheVariants.{Idle}
use Rattle.wl_hub.specs.Hub.{page_refusal, progress_of}
use Rattle.wl_world_model.specs.WorldExamples.{a, p}
use Rattle.wl_library_model.specs.Library.{Library, Step, Opens, Restarts, HubSends, Asks, ClientReceives, ClientAdvances, new_library, client_of, runs, run_steps}
use Rattle.wl_library_model.specs.Promises.{IsHolding}
use Rattle.wl_library_model.specs.Library.{to_hub}
use Rattle.wl_library_model.specs.Examples.{joins}

-- Deliveries

-- The hub appends all frames for tabs to their links.
abbrev pub sent_out : Library → Library
sent_out l = run_steps (replicate (length l.hub.outputs) HubSends) l

-- The client handles all frames that have arrived.
abbrev pub handled : ℕ → Library → Library
handled t l = run_steps (replicate (length (client_of l t).arrived) (ClientAdvances t)) l

-- All frames in the client's link arrive.
abbrev pub received : ℕ → Library → Library
received t l = run_steps (ClientReceives t (length (l.lines t).down) ∷ []) l

-- The client receives and handles all frames that are on their way to it.
abbrev pub heard : ℕ → Library → Library
heard t l = handled t (received t (handled t (sent_out l)))

-- States

-- The client has nothing left to send, and the hub has received all its frames.
pub record IsQuiet (l : Library) (t : ℕ) : Type 0 where
  pub report : (client_of l t).report ≡ []
  pub due : (client_of l t).due ≡ []
  pub unsent : (client_of l t).unsent ≡ []
  pub up : (l.lines t).up ≡ []

-- The hub has handled all deaths, greetings and frames.
abbrev pub IsIdle : Library → Type 0
IsIdle l = progress_of l.hub ≡ Idle

-- The tab has joined at the broker that is up, which has taken all commands of the tab's client.
pub record HasJoined (l : Library) (t : ℕ) (b : BrokerState) : Type 0 where
  pub up : l.hub.supervised.broker ≡ Some b
  pub joined : is_joined (seat_of b t) ≡ true
  pub taken : next_of b t ≡ length (client_of l t).locks.issued

-- The number of the tab's partition, and its locks at the broker.
abbrev pub place : Library → ℕ → ℕ
place l t = partition_number l.hub.supervised.kernel t

abbrev pub locks_beside : Library → ℕ → BrokerState → Locks
locks_beside l t b = manager_of b (place l t)

-- The broker has fewer locks of the tab than the tab's limit.
abbrev pub HasRoom : Library → ℕ → BrokerState → Type 0
HasRoom l t b = live (locks_beside l t b) t < limit_of b t

-- The tab's partition is active. No request waits for the name, and no held lock of the name conflicts with the mode, so
-- the tab's next request is grantable (Web Locks, "grantable").
pub record IsFree (l : Library) (t : ℕ) (b : BrokerState) (mode : Mode) (name : List ℕ) : Type 0 where
  pub active : is_active b (place l t) ≡ true
  pub grantable :
      let m = locks_beside l t b in
      is_grantable m.held m.waiting (row_of t (length (client_of l t).locks.issued) name mode) ≡ true

-- The laws

-- The client requests a lock, the hub handles the request, and the client handles all frames on their way to it.
abbrev pub granted : ℕ → Mode → List ℕ → Library → Library
granted t mode name l = heard t (run_steps (Asks t mode false name ∷ to_hub t 1 1) l)

-- After any steps, a client that has joined and requests a free lock holds it once request and answer were delivered.
abbrev pub RequestsAreGranted : Type 0
RequestsAreGranted =
    (steps : List Step) (t : ℕ) (mode : Mode) (name : List ℕ) (b : BrokerState) → let l = run_steps steps new_library in
    runs l t ≡ true → IsQuiet l t → IsIdle l → HasJoined l t b → HasRoom l t b → ask_refusal (client_of l t).locks name ≡ None → IsFree l t b mode name →
    IsHolding (granted t mode name l) t (length (client_of l t).locks.issued)

-- A tab opens, its client handles the welcome and the greeting, and the hub handles the client's report.
abbrev pub joined : ℕ → Pair → Bool → Library → Library
joined t p is_pair l = run_steps (to_hub t 2 1) (heard t (run_steps (Opens t (Ok p) is_pair ∷ []) l))

-- The tab has joined, and its client may request a lock at once.
pub record IsReady (l : Library) (t : ℕ) : Type 0 where
  pub runs : runs l t ≡ true
  pub quiet : IsQuiet l t
  pub broker : BrokerState
  pub joined : HasJoined l t broker
  pub room : HasRoom l t broker

-- After any steps, a tab that opens under a running broker has joined once greeting and report were delivered.
abbrev pub NewTabsJoin : Type 0
NewTabsJoin =
    (steps : List Step) (t : ℕ) (p : Pair) (is_pair : Bool) (b : BrokerState) → let l = run_steps steps new_library in
    page_refusal t (Ok p) l.hub ≡ None → l.hub.supervised.broker ≡ Some b → IsIdle l →
    IsReady (joined t p is_pair l) t

-- If the partition is active then, the new tab's first request for a free lock ends with its client holding the lock.
abbrev pub NewTabsAreServed : Type 0
NewTabsAreServed =
    (steps : List Step) (t : ℕ) (p : Pair) (is_pair : Bool) (b c : BrokerState) (mode : Mode) (name : List ℕ) →
    let l = run_steps steps new_library in
    let m = joined t p is_pair l in
    page_refusal t (Ok p) l.hub ≡ None → l.hub.supervised.broker ≡ Some b → IsIdle l →
    m.hub.supervised.broker ≡ Some c → IsIdle m → is_supported name ≡ true → length name ≤ NAME_LIMIT → IsFree m t c mode name →
    IsHolding (granted t mode name m) t 0

-- An example: the premises of the last law are met when a second tab opens.
abbrev pub PremisesAreMet : Type 0
PremisesAreMet =
    let l = run_steps (Restarts ∷ joins 1) new_library in
    let m = joined 2 p false l in
    (page_refusal 2 (Ok p) l.hub ≡ None)
    × ((b : BrokerState) × (l.hub.supervised.broker ≡ Some b))
    × IsIdle l
    × IsIdle m
    × ((c : BrokerState) × (m.hub.supervised.broker ≡ Some c) × IsFree m 2 c Exclusive a)
