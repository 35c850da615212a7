-- Quiescence: once no frame is on its way and the hub has nothing to do, nobody waits for nothing.
use Rattle.std.specs.Prelude.{◌≡◌, ◌⊎◌, ℕ, ◌≤◌, List, [], ◌∷◌, ◌++◌, true, false, length, Some, is_some}
use Rattle.wl_origin.specs.Order.{Pair}
use Rattle.wl_draft.specs.declared.row.Row.{Row}
use Rattle.wl_draft.specs.Locks.{conflict, has_pair}
use Rattle.wl_draft.specs.Membership.{In}
use Rattle.wl_draft.specs.Settling.{IsSettled}
use Rattle.wl_grammar.specs.declared.frame.Frame.{Frame}
use Rattle.wl_agent.specs.declared.status.Status.TheVariants.{Asked}
use Rattle.wl_agent.specs.Tab.{status_of, operation_of, is_asked, is_held, is_querying, is_request}
use Rattle.wl_broker.specs.Broker.{BrokerState, seat_of, has_arrived, is_active}
use Rattle.wl_world_model.specs.WorldExamples.{p}
use Rattle.wl_library_model.specs.Library.{Library, Step, new_library, client_of, lives, is_taken, run_steps, to_client}
use Rattle.wl_library_model.specs.Promises.{IsHonest, IsHolding, name_at, mode_at, partition_at}
use Rattle.wl_library_model.specs.Progress.{IsQuiet, HasJoined, place, locks_beside}
use Rattle.wl_library_model.specs.Examples.{restarted}

-- Rest

-- The tab lives, and was opened in the partition.
pub record LivesIn (p : Pair) (l : Library) (t : ℕ) : Type 0 where
  pub living : lives l t ≡ true
  pub place : partition_at l t ≡ Some p

-- The client has nothing to send and nothing to handle, and no frame is on its way to it or from it.
pub record IsStill (l : Library) (t : ℕ) : Type 0 where
  pub quiet : IsQuiet l t
  pub down : (l.lines t).down ≡ []
  pub came : (client_of l t).arrived ≡ []

-- The hub has nothing to do for the partition, and its honest tabs are still.
pub record IsAtRest (p : Pair) (l : Library) : Type 0 where
  -- The broker was told of each death.
  pub told : (t : ℕ) → partition_at l t ≡ Some p → In t l.hub.untold → ⊥
  -- No early tab's greeting may be due.
  pub greeted : (front back : List ℕ) (t : ℕ) → LivesIn p l t → l.hub.early ≡ front ++ t ∷ back → l.hub.greetings ≤ length front
  pub handled : LivesIn p l l.hub.sender → l.hub.arrived ≡ []
  pub sent : (t : ℕ) (f : Frame) → LivesIn p l t → In (t, f) l.hub.outputs → ⊥
  pub tabs : (t : ℕ) → LivesIn p l t → IsHonest l t → IsStill l t

-- No living tab of the partition was taken over.
abbrev pub AreHonest : Pair → Library → Type 0
AreHonest p l = (t : ℕ) → LivesIn p l t → IsHonest l t

-- What holds at rest

-- The tab has joined, its partition is active, and the broker has taken all its commands. The client holds what the broker
-- holds for it, and waits for what waits at the broker. No probe and no query waits for an answer.
pub record IsServed (l : Library) (t : ℕ) (b : BrokerState) : Type 0 where
  pub welcomed : (client_of l t).is_welcomed ≡ true
  pub joined : HasJoined l t b
  pub active : is_active b (place l t) ≡ true
  pub held : (k : ℕ) → is_held (status_of (client_of l t).locks k) ≡ has_pair t k (locks_beside l t b).held
  pub waiting : (k : ℕ) → is_asked (status_of (client_of l t).locks k) ≡ has_pair t k (locks_beside l t b).waiting
  pub requests : (k : ℕ) → status_of (client_of l t).locks k ≡ Some Asked → is_request (operation_of (client_of l t).locks k) ≡ true
  pub queries : (k : ℕ) → is_querying (status_of (client_of l t).locks k) ≡ false

-- No request that waits is grantable (Web Locks, "grantable"), and each lock and request is of a tab that lives: nothing
-- waits for the dead.
pub record IsFair (p : Pair) (l : Library) (t : ℕ) (b : BrokerState) : Type 0 where
  pub settled : IsSettled (locks_beside l t b)
  pub living : (r : Row) → In r (locks_beside l t b).held ⊎ In r (locks_beside l t b).waiting → LivesIn p l r.client

-- One pair of tab and number stands before another in a list of rows.
pub record IsBefore (x y : ℕ × ℕ) (rows : List Row) : Type 0 where
  pub front : List Row
  pub row : Row
  pub back : List Row
  pub split : rows ≡ front ++ row ∷ back
  pub is : (row.client, row.number) ≡ x
  pub behind : has_pair y.0 y.1 back ≡ true

-- The request `k` of the tab waits for a lock. A lock of its name, held in a tab that lives, conflicts with a request for the
-- name that waits: this one, or one before it in the broker's queue.
pub record WaitsForLock (p : Pair) (l : Library) (t k : ℕ) (b : BrokerState) : Type 0 where
  pub holder : ℕ
  pub lock : ℕ
  pub holds : LivesIn p l holder × IsHolding l holder lock × (name_at l holder lock ≡ name_at l t k)
  pub first : ℕ
  pub request : ℕ
  pub asks : LivesIn p l first × (status_of (client_of l first).locks request ≡ Some Asked) × (name_at l first request ≡ name_at l t k)
  pub conflicts : conflict (mode_at l holder lock) (mode_at l first request) ≡ true
  pub before : ((first ≡ t) × (request ≡ k)) ⊎ IsBefore (first, request) (t, k) (locks_beside l t b).waiting

-- A living tab of the partition that was taken over is listed, and the broker has not had its report.
pub record HoldsUp (p : Pair) (l : Library) (b : BrokerState) : Type 0 where
  pub tab : ℕ
  pub place : ℕ
  pub listed : In (tab, place) b.listed
  pub lives : LivesIn p l tab
  pub taken : is_taken l tab ≡ true
  pub missing : has_arrived (seat_of b tab) ≡ false

-- The laws

-- After any steps, at rest under a running broker, each living tab of a partition of honest tabs is served.
abbrev pub ServedAtRest : Type 0
ServedAtRest =
    (steps : List Step) (p : Pair) (t : ℕ) (b : BrokerState) → let l = run_steps steps new_library in
    l.hub.supervised.broker ≡ Some b → IsAtRest p l → AreHonest p l → LivesIn p l t →
    IsServed l t b × IsFair p l t b

-- Beside tabs that were taken over, an honest tab of a partition that is active is served.
abbrev pub ServedBesideOthers : Type 0
ServedBesideOthers =
    (steps : List Step) (p : Pair) (t : ℕ) (b : BrokerState) → let l = run_steps steps new_library in
    l.hub.supervised.broker ≡ Some b → IsAtRest p l → LivesIn p l t → IsHonest l t → is_active b (place l t) ≡ true →
    IsServed l t b × IsFair p l t b

-- A partition that is not active at rest is held up by a tab that was taken over.
abbrev pub HeldUpByOthers : Type 0
HeldUpByOthers =
    (steps : List Step) (p : Pair) (t : ℕ) (b : BrokerState) → let l = run_steps steps new_library in
    l.hub.supervised.broker ≡ Some b → IsAtRest p l → LivesIn p l t → is_active b (place l t) ≡ false →
    HoldsUp p l b

-- Nobody waits for nothing: a request that a client waits for at rest waits for a lock.
abbrev pub NobodyWaitsForNothing : Type 0
NobodyWaitsForNothing =
    (steps : List Step) (p : Pair) (t k : ℕ) (b : BrokerState) → let l = run_steps steps new_library in
    l.hub.supervised.broker ≡ Some b → IsAtRest p l → AreHonest p l → LivesIn p l t → status_of (client_of l t).locks k ≡ Some Asked →
    WaitsForLock p l t k b

-- An example: after a restart under which the first tab holds the lock, the partition is at rest, and the second tab waits.
abbrev pub rested : List Step
rested = restarted ++ to_client 2 1

abbrev pub RestIsMet : Type 0
RestIsMet =
    let l = run_steps rested new_library in
    (is_some l.hub.supervised.broker ≡ true)
    × IsAtRest p l
    × AreHonest p l
    × LivesIn p l 1
    × LivesIn p l 2
    × (is_held (status_of (client_of l 1).locks 0) ≡ true)
    × (status_of (client_of l 2).locks 0 ≡ Some Asked)
