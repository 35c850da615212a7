-- TabSeats at the broker: when a tab joins, issues a command or is named dead, the broker replaces its seat and removes its
-- stored report parts.
use Rattle.std.proofs.Common.{◌≡◌, ◌≢◌, ℕ, true, false, Option, Some, refl}
use Rattle.wl_draft.specs.declared.row.Row.{Row}
use Rattle.wl_broker.specs.declared.seat.TabSeat.{TabSeat}
use Rattle.wl_broker.specs.declared.seat.TabSeat.TheVariants.{Joined, Dead}
use Rattle.wl_broker.specs.Broker.{BrokerState, seat_of, manager_of, is_joined, is_dead, has_arrived, with_seat}
use Rattle.wl_draft.specs.Membership.{In}
use Rattle.wl_draft.proofs.Membership.{apart}
use Rattle.wl_world_model.specs.World.{WorldState, tab_of, lives, partition_of}
use Rattle.wl_world_model.proofs.AtBroker.{with_broker}
use Rattle.wl_world_model.specs.Holdings.{IsHonest}
use Rattle.wl_world_model.proofs.Tables.{each_found}
use Rattle.wl_world_model.proofs.exclusion.ToldParts.{find-without}
use Rattle.wl_world_model.proofs.exclusion.HeldAfterSettling.{Compatible-fewer}
use Rattle.wl_world_model.proofs.exclusion.Invariant.{Sound, SoundSeats, Covered, Claim, Counts, Fits, stands, reported, carried, generation, came, was_opened, row_at}
use Rattle.wl_world_model.proofs.exclusion.UnchangedParts.{broker-step}

arrived : (x : TabSeat) → has_arrived (Some x) ≡ true
arrived (Joined partition next limit) = refl
arrived Dead = refl

module _ (b : BrokerState) (t : ℕ) (seat : TabSeat) where
  -- A property holds of every seat if it holds of the new one and of all others.
  pub each_seat : (P : ℕ → Option TabSeat → Type 0) → P t (Some seat) → ((u : ℕ) → t ≢ u → P u (seat_of b u)) → (u : ℕ) → P u (seat_of (with_seat t seat b) u)
  each_seat P now elsewhere u = each_found P t seat b.seats now elsewhere u

  -- Each tab that had come still counts as having come.
  pub still : (u : ℕ) → came b u ≡ true → came (with_seat t seat b) u ≡ true
  still = each_seat (λ u o. came b u ≡ true → has_arrived o ≡ true) (λ _. arrived seat) (λ u n h. h)

  pub not-before : (u : ℕ) → came (with_seat t seat b) u ≡ false → came b u ≡ false
  not-before = each_seat (λ u o. has_arrived o ≡ false → came b u ≡ false) (λ h. apart (arrived seat) h) (λ u n h. h)

  pub still-fits : (w : WorldState) (p : ℕ) (r : Row) → Fits (with_broker b w) p r → Fits (with_broker (with_seat t seat b) w) p r
  still-fits w p r f = (f.0, f.1, still r.client f.2, f.3)

module _ (w : WorldState) (b : BrokerState) (s : Sound (with_broker b w)) (t : ℕ) (seat : TabSeat)
    (joined : IsHonest w t → is_joined (Some seat) ≡ true → (tab_of w t).entered ≡ generation w)
    (dead : is_dead (Some seat) ≡ true → (lives w t ≡ false) × (was_opened w t ≡ true)) where
  -- The seats stay sound, whether the broker holds the tab's locks or not.
  pub seated-seats : SoundSeats (with_broker (with_seat t seat b) w)
  seated-seats u = record {
    partial = λ k e. (s.seats u).partial k (find-without t u k b.partial e);
    joined = each_seat b t seat (λ v o. IsHonest w v → is_joined o ≡ true → (tab_of w v).entered ≡ generation w) joined (λ v n. (s.seats v).joined) u;
    named = each_seat b t seat (λ v o. is_dead o ≡ true → (lives w v ≡ false) × (was_opened w v ≡ true)) dead (λ v n. (s.seats v).named) u;
    lists = (s.seats u).lists;
  }

  seated-claim : (p : ℕ) (r : Row) → Claim (with_broker (with_seat t seat b) w) p r → Claim (with_broker b w) p r
  seated-claim p r (stands h) = stands h
  seated-claim p r (reported c) = reported (c.0, not-before b t seat r.client c.1, c.2, c.3)
  seated-claim p r (carried c) = carried c

  -- A world stays sound if the broker already holds the covered locks of the tab.
  pub seated-sound : ((k : ℕ) → IsHonest w t → Covered w t k → (tab_of w t).entered ≡ generation w → In (row_at t (tab_of w t) k) (manager_of b (partition_of w t)).held)
      → Sound (with_broker (with_seat t seat b) w)
  seated-sound covers = broker-step w b (with_seat t seat b) refl s seated-seats (record {
    granted = λ u g k h e. still b t seat u (s.locks.granted u g k h e);
    known = λ p r i. still-fits b t seat w p r (s.locks.known p r i);
    covers = λ u k y c e j. each_seat b t seat
        (λ v o. IsHonest w v → Covered w v k → (tab_of w v).entered ≡ generation w → has_arrived o ≡ true → In (row_at v (tab_of w v) k) (manager_of b (partition_of w v)).held)
        (λ y c e _. covers k y c e) (λ v n y c e j. s.locks.covers v k y c e j) u y c e j;
    agree = λ p. Compatible-fewer (Counts (with_broker (with_seat t seat b) w) p) (Counts (with_broker b w) p) (λ r c. (c.0, seated-claim p r c.1)) (s.locks.agree p);
  })
