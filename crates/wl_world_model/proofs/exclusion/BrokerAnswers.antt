-- Answers of the broker: each names its generation, and each grant is for a held lock.
use Rattle.std.proofs.Common.{◌≡◌, ⊎_elim, ℕ, Bool, true, false, cond, List, [], ◌∷◌, ◌++◌, map, Some, refl, sym, subst}
use Rattle.std.specs.Prelude.{nat_lt}
use Rattle.std.specs.List.{range_with_len}
use Rattle.wl_draft.specs.declared.row.Row.{Row}
use Rattle.wl_draft.specs.declared.row.Standing.TheVariants as standing
use Rattle.wl_draft.specs.Locks.{Locks, has_pair, standing as standing_of}
use Rattle.wl_grammar.specs.declared.frame.Operation.{Operation}
use Rattle.wl_grammar.specs.declared.frame.Operation.TheVariants.{Request, Release, Abort, Query}
use Rattle.wl_grammar.specs.declared.frame.Outcome.TheVariants.{Granted, Gone}
use Rattle.wl_grammar.specs.declared.frame.SnapshotEntry.{SnapshotEntry}
use Rattle.wl_grammar.specs.declared.frame.Addressed.{Addressed}
use Rattle.wl_broker.specs.Broker.{BrokerState, manager_of, outcome_of, answer_to, grants_to, snapshot_entries, snapshot_part, snapshot_to, settled_at, newly_at, first_answer, later_answer, Taking}
use Rattle.wl_world_messages.specs.Messages.{sent_all}
use Rattle.wl_draft.specs.Membership.{In}
use Rattle.wl_draft.proofs.Membership.{either, In-append_cases, In-one, In-map_cases}
use Rattle.wl_grammar.specs.PartCount.{part_count}
use Rattle.wl_world_model.specs.World.{WorldState, from_broker}
use Rattle.wl_world_model.proofs.AtBroker.{with_broker, follows}
use Rattle.wl_world_model.proofs.exclusion.HeldAfterSettling.{has_pair-true}
use Rattle.wl_world_model.proofs.exclusion.Invariant.{Sound, generation}
use Rattle.wl_world_model.proofs.exclusion.ActsWithinAGeneration.{after}
use Rattle.wl_world_model.proofs.exclusion.ManagedLocks.{managed, settled-sound, newly-held}
use Rattle.wl_world_model.proofs.exclusion.SayingAndPosting.{SaysDown, Says, said-sound}

-- The broker `b` may say this frame in world `w`.
abbrev pub SaysTo : WorldState → BrokerState → Addressed → Type 0
SaysTo w b a = SaysDown (with_broker b w) a.tab a.inner

-- The world is sound after the broker has taken a message.
abbrev pub Follows : WorldState → BrokerState → Taking → Type 0
Follows w b o = Sound (after (with_broker b w) (follows (with_broker b w) o))

module _ (w : WorldState) (b : BrokerState) (current : b.generation ≡ generation w) where
  grants-say : (p : ℕ) (rows : List Row) → ((r : Row) → In r rows → In r (manager_of b p).held) → (a : Addressed) → In a (grants_to b rows) → SaysTo w b a
  grants-say p rows f a i =
      let o = In-map_cases (λ r. answer_to b r.client r.number Granted) rows i in
      subst (SaysTo w b) (sym o.2) (λ _. (current, p, o.0, f o.0 o.1, refl, refl))

  granted-choice : (x y : Bool) → outcome_of (cond x standing.Held (cond y standing.Waiting standing.Absent)) ≡ Granted → x ≡ true
  granted-choice true y h = refl
  granted-choice false true h = cc
  granted-choice false false h = cc

  standing-says : (p t n : ℕ) → SaysTo w b (answer_to b t n (outcome_of (standing_of (manager_of b p) t n)))
  standing-says p t n = λ g.
      let o = has_pair-true t n (manager_of b p).held (granted-choice (has_pair t n (manager_of b p).held) (has_pair t n (manager_of b p).waiting) g) in
      (current, p, o.0, o.1, o.2, o.3)

  snapshot-says : (t n : ℕ) (entries : List SnapshotEntry) (a : Addressed) → In a (snapshot_to b t n entries) → SaysTo w b a
  snapshot-says t n entries a i =
      either (λ zs. In a zs → SaysTo w b a) (nat_lt 65535 (part_count entries)) (answer_to b t n Gone ∷ []) (map (snapshot_part b t n entries) (range_with_len 0 (part_count entries)))
      (λ _ j. subst (SaysTo w b) (sym (In-one j)) (λ g. cc))
      (λ _ j. let o = In-map_cases (snapshot_part b t n entries) (range_with_len 0 (part_count entries)) j in subst (SaysTo w b) (sym o.2) tt)
      i

  pub first-says : (t p n : ℕ) (c : Operation) (a : Addressed) → In a (first_answer b t p n c) → SaysTo w b a
  first-says t p n (Request mode if_available name) a i = subst (SaysTo w b) (sym (In-one i)) (standing-says p t n)
  first-says t p n (Release k) a i = subst (SaysTo w b) (sym (In-one i)) (λ g. cc)
  first-says t p n (Abort k) a i = subst (SaysTo w b) (sym (In-one i)) (λ g. cc)
  first-says t p n Query a i = snapshot-says t n (snapshot_entries (manager_of b p)) a i

  pub later-says : (t p n : ℕ) (c : Operation) → SaysTo w b (later_answer b t p n c)
  later-says t p n (Request mode if_available name) = standing-says p t n
  later-says t p n (Release k) = λ g. cc
  later-says t p n (Abort k) = λ g. cc
  later-says t p n Query = λ g. cc

-- A world stays sound when the broker's permitted frames enter the bag.
pub outs-sound : (w : WorldState) (b : BrokerState) (outs : List Addressed) → ((a : Addressed) → In a outs → SaysTo w b a) → Sound (with_broker b w)
    → Sound (record w { broker = Some b; bag = sent_all (map from_broker outs) w.bag })
outs-sound w b outs f s =
    said-sound (with_broker b w) s (map from_broker outs)
    (λ m i. let o = In-map_cases from_broker outs i in subst (Says (with_broker b w)) (sym o.2) (f o.0 o.1))

-- A world stays sound when a partition settles and every granted tab is told.
pub settled-told : (w : WorldState) (b : BrokerState) (p : ℕ) (m : Locks) (rows : List Row) (first : List Addressed)
    → ((r : Row) → In r rows → In r (newly_at b p m)) → ((settled_at b p m).generation ≡ generation w → (a : Addressed) → In a first → SaysTo w (settled_at b p m) a) → Sound (with_broker (managed b p m) w)
    → Sound (record w { broker = Some (settled_at b p m); bag = sent_all (map from_broker (first ++ grants_to (settled_at b p m) rows)) w.bag })
settled-told w b p m rows first f g s =
    let x = settled-sound w b p m s in
    outs-sound w (settled_at b p m) (first ++ grants_to (settled_at b p m) rows)
    (λ a i. ⊎_elim (λ j. g x.current a j) (λ j. grants-say w (settled_at b p m) x.current p rows (λ r k. newly-held b p m r (f r k)) a j) (In-append_cases first (grants_to (settled_at b p m) rows) i))
    x
