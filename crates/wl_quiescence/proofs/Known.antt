-- What is known of a tab that has joined, from facts of its agent.
use Rattle.std.proofs.Common.{◌≡◌, ⊎_elim, inl, inr, ℕ, ◌<◌, ◌≤◌, true, false, not, length, Some, refl, sym, ap, ◌∙◌, subst}
use Rattle.std.specs.Prelude.{◌==◌}
use Rattle.std.specs.List.{list_any}
use Rattle.std.proofs.lemmas.Bool.{cases_Bool, eqb-true, and_parts, not-true, or_left}
use Rattle.wl_draft.proofs.Membership.{apart, In-get_or}
use Rattle.wl_grammar.specs.declared.frame.Operation.{Operation}
use Rattle.wl_grammar.specs.declared.frame.Operation.TheVariants.{Request, Release, Abort, Query}
use Rattle.wl_broker.specs.Broker.{BrokerState, seat_of, next_of, is_joined, is_lock}
use Rattle.wl_agent.specs.Tab.{TabState, status_of, operation_of, is_asked}
use Rattle.wl_world_model.specs.World.{WorldState, tab_of}
use Rattle.wl_world_model.specs.Holdings.{IsHonest}
use Rattle.wl_world_model.proofs.exclusion.Invariant.{SoundTab, Ends, broker_of, broker_in}
use Rattle.wl_library_model.specs.Library.{Library, client_of, lives, is_taken, runs}
use Rattle.wl_library_model.proofs.Carried.{Sim}
use Rattle.wl_quiescence.proofs.rest.Invariant.{ends_at}
use Rattle.wl_quiescence.proofs.client.Frames.{client-locks, client-sound}
use Rattle.wl_quiescence.proofs.client.Others.{not-joined}

named : (a : TabState) (j k : ℕ) (o : Operation) → j < length a.issued → operation_of a j ≡ o → ends_at k o ≡ true → Ends a.issued k
named a j k (Request mode b name) lt e y = apart y refl
named a j k (Release i) lt e y = inl (In-get_or a.issued j Query (Release k) lt (e ∙ ap (λ z. Release z) (eqb-true i k y)))
named a j k (Abort i) lt e y = inr (In-get_or a.issued j Query (Abort k) lt (e ∙ ap (λ z. Abort z) (eqb-true i k y)))
named a j k Query lt e y = apart y refl

module _ (l : Library) (w : WorldState) (t : ℕ) (s : Sim l w) (b : BrokerState) (run : runs l t ≡ true) (up : l.hub.supervised.broker ≡ Some b) (joined : is_joined (seat_of b t) ≡ true) where
  abbrev locks : TabState
  locks = (client_of l t).locks

  pub joined-welcomed : (client_of l t).is_welcomed ≡ true
  joined-welcomed = ⊎_elim (λ y. y) (λ n. absurd (not-joined l w t s b run up n joined)) (cases_Bool (client_of l t).is_welcomed)

  sound : SoundTab t locks
  sound = client-sound l w t s joined-welcomed

  -- The broker has counted the commands below the report's base.
  pub known-base : locks.report.base ≤ next_of b t
  known-base =
      let broker : broker_of w ≡ b = ap (broker_in w.kernel.generation) (sym s.hub.broker ∙ up) in
      let honest : IsHonest w t = subst (λ zs. list_any (λ u. u == t) zs ≡ false) s.taken (not-true _ (and_parts (lives l t) (not (is_taken l t)) run).1) in
      subst (λ (z : TabState). z.report.base ≤ next_of b t) (sym (client-locks l w t s joined-welcomed))
      (subst (λ (z : BrokerState). (tab_of w t).report.base ≤ next_of z t) broker (s.good.fit.seats t honest (subst (λ (z : BrokerState). is_joined (seat_of z t) ≡ true) (sym broker) joined)))

  -- What is asked is a lock.
  pub known-asks : (k : ℕ) → is_asked (status_of locks k) ≡ true → is_lock (operation_of locks k) ≡ true
  known-asks k y = sound.lock k (or_left _ _ y)

  -- No command ends what is asked.
  pub known-unended : (j k : ℕ) → is_asked (status_of locks k) ≡ true → j < length locks.issued → ends_at k (operation_of locks j) ≡ true → ⊥
  known-unended j k y lt e = sound.unended k (or_left _ _ y) (named locks j k (operation_of locks j) lt refl e)
