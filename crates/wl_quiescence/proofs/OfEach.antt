-- Facts of each honest tab that lives, which the invariant takes from the runs of the library.
use Rattle.std.proofs.Common.{◌≡◌, ℕ, ◌<◌, ◌≤◌, true, false, length, Some}
use Rattle.wl_draft.specs.Locks.{has_pair}
use Rattle.wl_draft.specs.Membership.{In}
use Rattle.wl_grammar.specs.declared.frame.Operation.TheVariants.{Release}
use Rattle.wl_broker.specs.Broker.{BrokerState, seat_of, manager_of, next_of, is_joined, is_lock}
use Rattle.wl_agent.specs.declared.status.Status.TheVariants.{Querying}
use Rattle.wl_agent.specs.SnapshotParts.{no_parts}
use Rattle.wl_agent.specs.Tab.{status_of, operation_of, is_querying, is_request}
use Rattle.wl_library_model.specs.Library.{Library, client_of, runs}
use Rattle.wl_library_model.specs.Progress.{place}
use Rattle.wl_quiescence.proofs.rest.Invariant.{frames_down, parts_in, numbers_at}

-- A fact of each honest tab that lives, under the broker that is up.
abbrev pub OfEach : Library → (ℕ → BrokerState → Type 0) → Type 0
OfEach l P = (b : BrokerState) (t : ℕ) → l.hub.supervised.broker ≡ Some b → runs l t ≡ true → P t b

-- What a command still to be taken releases does not wait at the broker.
abbrev pub IsReleased : Library → ℕ → BrokerState → Type 0
IsReleased l t b =
    is_joined (seat_of b t) ≡ true → (n j : ℕ) → next_of b t ≤ n → n < length (client_of l t).locks.issued → operation_of (client_of l t).locks n ≡ Release j →
    has_pair t j (manager_of b (place l t)).waiting ≡ false

-- A number at the broker is of a lock.
abbrev pub AreLocks : Library → ℕ → BrokerState → Type 0
AreLocks l t b = is_joined (seat_of b t) ≡ true → (k : ℕ) → In k (numbers_at (manager_of b (place l t)) t) → is_lock (operation_of (client_of l t).locks k) ≡ true

-- Only a request waits at the broker.
abbrev pub IsRequested : Library → ℕ → BrokerState → Type 0
IsRequested l t b = is_joined (seat_of b t) ≡ true → (k : ℕ) → is_request (operation_of (client_of l t).locks k) ≡ false → has_pair t k (manager_of b (place l t)).waiting ≡ false

-- Of a query that the broker has still to take, no part came or comes.
abbrev pub IsUnheard : Library → ℕ → BrokerState → Type 0
IsUnheard l t b =
    is_joined (seat_of b t) ≡ true → (k : ℕ) → next_of b t ≤ k → is_querying (status_of (client_of l t).locks k) ≡ true →
    (status_of (client_of l t).locks k ≡ Some (Querying no_parts)) × (parts_in b.generation k (frames_down l t) no_parts ≡ no_parts)
