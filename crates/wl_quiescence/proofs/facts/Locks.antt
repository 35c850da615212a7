-- What the broker has of an honest tab that has joined: locks, and as waiting only requests that no later command releases.
use Rattle.std.proofs.Common.{◌≡◌, ℕ, ◌<◌, ◌≤◌, true, false, not, ◌++◌, filter, length, Some, sym, ap, ◌∙◌, subst}
use Rattle.std.specs.Prelude.{◌==◌}
use Rattle.std.specs.List.{list_any}
use Rattle.std.proofs.lemmas.Bool.{and_parts, not-true, eqb-true, false_from_ne_true}
use Rattle.wl_draft.specs.declared.row.Row.{Row}
use Rattle.wl_draft.specs.Locks.{Locks, has_pair}
use Rattle.wl_draft.specs.Membership.{In}
use Rattle.wl_draft.proofs.Membership.{apart, In-map_cases, In-filter_cases, In-append_cases}
use Rattle.wl_grammar.specs.declared.frame.Operation.TheVariants.{Release}
use Rattle.wl_broker.specs.Broker.{BrokerState, seat_of, manager_of, next_of, is_joined, is_lock}
use Rattle.wl_agent.specs.Tab.{TabState, operation_of, is_request}
use Rattle.wl_kernel.specs.Kernel.{partition_number}
use Rattle.wl_world_model.specs.World.{WorldState, tab_of}
use Rattle.wl_world_model.specs.Holdings.{IsHonest}
use Rattle.wl_world_model.proofs.exclusion.Invariant.{broker_of}
use Rattle.wl_world_model.proofs.exclusion.HeldAfterSettling.{Stands, has_pair-true}
use Rattle.wl_library_model.specs.Library.{Library, client_of, lives, is_taken, runs}
use Rattle.wl_library_model.specs.Events.{events}
use Rattle.wl_library_model.specs.Progress.{place}
use Rattle.wl_library_model.proofs.Carried.{Sim}
use Rattle.wl_quiescence.proofs.rest.Invariant.{numbers_at}
use Rattle.wl_quiescence.proofs.client.Frames.{client-locks}
use Rattle.wl_quiescence.proofs.Reached.{IsReached, world_of, reached-sim}
use Rattle.wl_quiescence.proofs.Known.{joined-welcomed}
use Rattle.wl_quiescence.proofs.OfEach.{OfEach, AreLocks, IsRequested, IsReleased}
use Rattle.wl_quiescence.proofs.facts.Untold.{broker-now}
use Rattle.wl_quiescence.proofs.facts.Rows.{run-fine}
use Rattle.wl_quiescence.proofs.facts.ReleasedRuns.{run-releases}

module _ (l : Library) (r : IsReached l) (b : BrokerState) (t : ℕ) (up : l.hub.supervised.broker ≡ Some b) (run : runs l t ≡ true) (joined : is_joined (seat_of b t) ≡ true) where
  abbrev w : WorldState
  w = world_of l r

  abbrev m : Locks
  m = manager_of b (place l t)

  sim : Sim l w
  sim = reached-sim l r

  same : broker_of w ≡ b
  same = broker-now l r b up

  honest : IsHonest w t
  honest = subst (λ zs. list_any (λ u. u == t) zs ≡ false) sim.taken (not-true _ (and_parts (lives l t) (not (is_taken l t)) run).1)

  -- The client has the operations that the tab has in the world.
  operation-same : (k : ℕ) → operation_of (client_of l t).locks k ≡ operation_of (tab_of w t) k
  operation-same k = ap (λ (a : TabState). operation_of a k) (client-locks l w t sim (joined-welcomed l w t sim b run up joined))

  row-lock : (y : Row) → Stands y m → y.client ≡ t → is_lock (operation_of (client_of l t).locks y.number) ≡ true
  row-lock y i e =
      let o = ((run-fine (events r.steps)) (place l t) y).0 (subst (λ (z : BrokerState). Stands y (manager_of z (place l t))) (sym same) i) in
      ap is_lock (operation-same y.number) ∙ subst (λ u. is_lock (operation_of (tab_of w u) y.number) ≡ true) e (o (subst (λ u. IsHonest w u) (sym e) honest)).1

  row-request : (y : Row) → In y m.waiting → y.client ≡ t → is_request (operation_of (client_of l t).locks y.number) ≡ true
  row-request y i e =
      let o = ((run-fine (events r.steps)) (place l t) y).1 (subst (λ (z : BrokerState). In y (manager_of z (place l t)).waiting) (sym same) i) in
      ap is_request (operation-same y.number) ∙ subst (λ u. is_request (operation_of (tab_of w u) y.number) ≡ true) e (o (subst (λ u. IsHonest w u) (sym e) honest))

  number-lock : (k : ℕ) → In k (numbers_at m t) → is_lock (operation_of (client_of l t).locks k) ≡ true
  number-lock k i =
      let o = In-map_cases (λ (y : Row). y.number) (filter (λ (y : Row). y.client == t) (m.held ++ m.waiting)) i in
      let c = In-filter_cases (λ (y : Row). y.client == t) (m.held ++ m.waiting) o.1 in
      subst (λ n. is_lock (operation_of (client_of l t).locks n) ≡ true) (sym o.2) (row-lock o.0 (In-append_cases m.held m.waiting c.0) (eqb-true o.0.client t c.1))

  waits-not : (k : ℕ) → is_request (operation_of (client_of l t).locks k) ≡ false → has_pair t k m.waiting ≡ false
  waits-not k n = false_from_ne_true _ (λ y.
      let o = has_pair-true t k m.waiting y in
      apart (subst (λ j. is_request (operation_of (client_of l t).locks j) ≡ true) o.3 (row-request o.0 o.1 o.2)) n)

  release-known : (n j : ℕ) → next_of b t ≤ n → n < length (client_of l t).locks.issued → operation_of (client_of l t).locks n ≡ Release j → has_pair t j m.waiting ≡ false
  release-known n j le lt e =
      let locks = client-locks l w t sim (joined-welcomed l w t sim b run up joined) in
      let o = (run-releases (events r.steps) t honest).joined (subst (λ (z : BrokerState). is_joined (seat_of z t) ≡ true) (sym same) joined) n j
      (subst (λ (z : BrokerState). next_of z t ≤ n) (sym same) le) (subst (λ (a : TabState). n < length a.issued) locks lt) (sym (operation-same n) ∙ e) in
      false_from_ne_true _ (λ y.
      let a = has_pair-true t j m.waiting y in
      o.1 a.0 (subst (λ k. In a.0 (manager_of (broker_of w) (partition_number k t)).waiting) sim.hub.kernel (subst (λ (z : BrokerState). In a.0 (manager_of z (place l t)).waiting) (sym same) a.1)) a.2 a.3)

pub reached-locks : (l : Library) → IsReached l → OfEach l (AreLocks l)
reached-locks l r b t up run joined k i = number-lock l r b t up run joined k i

pub reached-requested : (l : Library) → IsReached l → OfEach l (IsRequested l)
reached-requested l r b t up run joined k n = waits-not l r b t up run joined k n

pub reached-released : (l : Library) → IsReached l → OfEach l (IsReleased l)
reached-released l r b t up run joined n j le lt e = release-known l r b t up run joined n j le lt e
