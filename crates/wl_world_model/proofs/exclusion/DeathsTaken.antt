-- Death notices: the kernel tells the broker that a tab is dead.
use Rattle.std.proofs.Common.{◌≡◌, inl, inr, ⊎_elim, ℕ, true, false, Option, Some, None, List, [], map, refl, ap, ◌∙◌}
use Rattle.wl_draft.specs.Locks.{ended}
use Rattle.wl_grammar.specs.declared.frame.Addressed.{Addressed}
use Rattle.wl_broker.specs.declared.seat.TabSeat.TheVariants.{Dead}
use Rattle.wl_broker.specs.Broker.{BrokerState, seat_of, manager_of, is_dead, place_of, with_seat, newly_at, buried_at, death_step}
use Rattle.wl_world_messages.specs.Messages.{sent_all}
use Rattle.wl_draft.proofs.Membership.{apart, either, In-nil}
use Rattle.wl_world_model.specs.World.{WorldState, lives, from_broker}
use Rattle.wl_world_model.proofs.AtBroker.{with_broker, buries}
use Rattle.wl_world_model.proofs.exclusion.HeldAfterSettling.{without_client-fewer, without_client-keeps}
use Rattle.wl_world_model.proofs.exclusion.Invariant.{Sound, was_opened}
use Rattle.wl_world_model.proofs.exclusion.TakenSeats.{seated-sound}
use Rattle.wl_world_model.proofs.exclusion.ActsWithinAGeneration.{after}
use Rattle.wl_world_model.proofs.exclusion.ManagedLocks.{lower-sound}
use Rattle.wl_world_model.proofs.exclusion.BrokerAnswers.{settled-told}

module _ (w : WorldState) (b : BrokerState) (s : Sound (with_broker b w)) (t : ℕ) (dead : lives w t ≡ false) (old : was_opened w t ≡ true) where
  dead-sound : Sound (with_broker (with_seat t Dead b) w)
  dead-sound = seated-sound w b s t Dead (λ _ j. apart j refl) (λ _. (dead, old)) (λ k y c e. apart c.living dead)

  -- A world stays sound when the dead tab's locks are removed from its partition at the broker.
  buried-sound : (o : Option ℕ) → Sound (record w { broker = Some (buried_at (with_seat t Dead b) t o).0; bag = sent_all (map from_broker (buried_at (with_seat t Dead b) t o).1) w.bag })
  unfolding ended
  buried-sound None = dead-sound
  buried-sound (Some p) =
      let d = with_seat t Dead b in
      let m = ended t (manager_of b p) in
      settled-told w d p m (newly_at d p m) [] (λ r i. i) (λ _ a i. absurd (In-nil i))
      (lower-sound w d dead-sound p m (λ r i. without_client-fewer t (manager_of b p).held i)
      (λ r i. dead-sound.locks.known p r (⊎_elim (λ a. inl (without_client-fewer t (manager_of b p).held a)) (λ a. inr (without_client-fewer t (manager_of b p).waiting a)) i))
      (λ u k y c q i. without_client-keeps t (manager_of b p).held i (λ e. apart c.living (ap (lives w) e ∙ dead))))

pub burial-sound : (w : WorldState) (b : BrokerState) → Sound (with_broker b w) → (t : ℕ) → lives w t ≡ false → was_opened w t ≡ true → Sound (after (with_broker b w) (buries (with_broker b w) t b))
unfolding death_step
burial-sound w b s t dead old =
    either {A = BrokerState × List Addressed} (λ o. Sound (record w { broker = Some o.0; bag = sent_all (map from_broker o.1) w.bag })) (is_dead (seat_of b t)) (b, []) (buried_at (with_seat t Dead b) t (place_of b t))
    (λ _. s)
    (λ _. buried-sound w b s t dead old (place_of b t))
