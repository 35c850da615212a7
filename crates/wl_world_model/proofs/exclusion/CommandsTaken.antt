-- Arrival of a tab's command at the broker.
use Rattle.std.proofs.Common.{◌≡◌, inl, inr, ⊎_elim, ℕ, ◌+◌, ◌<◌, ◌≤◌, true, false, not, ◌&&◌, ◌||◌, [], ◌∷◌, ◌++◌, length, refl, sym, ap, ◌∙◌, subst, arith}
use Rattle.std.specs.Prelude.{nat_lt}
use Rattle.std.proofs.lemmas.Bool.{not-false, or_left, ltb-false}
use Rattle.wl_draft.specs.Locks.{is_grantable, without, queued, probed, released, aborted}
use Rattle.wl_grammar.specs.declared.frame.Operation.{Operation}
use Rattle.wl_grammar.specs.declared.frame.Operation.TheVariants.{Request, Release, Abort, Query}
use Rattle.wl_grammar.specs.declared.frame.Command.{Command}
use Rattle.wl_grammar.specs.declared.frame.Upward.{Upward}
use Rattle.wl_grammar.specs.declared.frame.Upward.TheVariants as up
use Rattle.wl_grammar.specs.declared.frame.Stamped.{Stamped}
use Rattle.wl_broker_reports.specs.ReportParts.{at_once, in_part}
use Rattle.wl_broker.specs.declared.seat.TabSeat.{TabSeat}
use Rattle.wl_broker.specs.declared.seat.TabSeat.TheVariants.{Joined}
use Rattle.wl_broker.specs.declared.dropped.Dropped.TheVariants.{OldGeneration, LaterGeneration, NotJoined, Recovering, OutOfTurn, DeadTab, Misplaced, TooMany}
use Rattle.wl_grammar.specs.Generation.{generation_of}
use Rattle.wl_broker.specs.Broker.{BrokerState, manager_of, is_joined, next_of, limit_of, is_active, is_misplaced, is_lock, with_seat, settled_at, newly_at, Drops, Does, drafted, first_answer, later_answer, perform, take_command, take_inner, taking}
use Rattle.wl_agent.specs.Tab.{operation_of}
use Rattle.wl_draft.specs.Membership.{In}
use Rattle.wl_draft.proofs.Settled.{grantable_parts}
use Rattle.wl_draft.proofs.Membership.{apart, either, In-append_left, In-append_cases, In-one, In-get_or}
use Rattle.wl_world_model.specs.World.{WorldState, tab_of, partition_of}
use Rattle.wl_world_model.proofs.AtBroker.{with_broker}
use Rattle.wl_world_model.specs.Holdings.{IsHonest}
use Rattle.wl_world_model.proofs.Tables.{each_found}
use Rattle.wl_world_model.proofs.exclusion.HeldAfterSettling.{Compatible-push, without-fewer, without-keeps}
use Rattle.wl_world_model.proofs.exclusion.Invariant.{Sound, Covered, has_joined, is_named_dead, was_opened, lock, Ends, Fits, up_message}
use Rattle.wl_world_model.proofs.exclusion.ManagedLocks.{managed, lower-sound, AllCame, active-came, higher-sound}
use Rattle.wl_world_model.proofs.exclusion.BrokerAnswers.{Follows, SaysTo, settled-told, outs-sound, first-says, later-says}
use Rattle.wl_world_model.proofs.exclusion.ReportsTaken.{told-sound}
use Rattle.wl_world_model.proofs.exclusion.TakenSeats.{still, seated-sound}

-- A world stays sound when a partition's locks are stored unchanged.
same-sound : (w : WorldState) (b : BrokerState) (p : ℕ) → Sound (with_broker b w) → Sound (with_broker (managed b p (manager_of b p)) w)
same-sound w b p s = lower-sound w b s p (manager_of b p) (λ r i. i) (λ r i. s.locks.known p r i) (λ t k y c q i. i)

module _ (w : WorldState) (b : BrokerState) (s : Sound (with_broker b w)) (t p n : ℕ) (c : Operation)
    (true-one : IsHonest w t → (n < length (tab_of w t).issued) × (operation_of (tab_of w t) n ≡ c)) (here : was_opened w t ≡ true) (place : p ≡ partition_of w t) (sits : has_joined b t ≡ true) where
  asked-fits : Fits (with_broker b w) p (lock t n c)
  asked-fits = (here, sym place, or_left (has_joined b t) (is_named_dead b t) sits, λ y. let o = true-one y in ((ap (lock t n) (sym o.1), o.0), (s.seats t).joined y sits))

  queued-sound : Sound (with_broker (managed b p (queued (lock t n c) (manager_of b p))) w)
  unfolding queued
  queued-sound = lower-sound w b s p (queued (lock t n c) (manager_of b p)) (λ r i. i)
      (λ r i. ⊎_elim (λ a. s.locks.known p r (inl a)) (λ a. ⊎_elim (λ y. s.locks.known p r (inr y)) (λ y. subst (Fits (with_broker b w) p) (sym (In-one y)) asked-fits) (In-append_cases (manager_of b p).waiting (lock t n c ∷ []) a)) i)
      (λ u k y cov q i. i)

  probed-sound : AllCame b p → Sound (with_broker (managed b p (probed (lock t n c) (manager_of b p))) w)
  unfolding probed
  probed-sound all =
      let m = manager_of b p in
      either (λ z. Sound (with_broker (managed b p z) w)) (is_grantable m.held m.waiting (lock t n c)) (record { held = m.held ++ lock t n c ∷ []; waiting = m.waiting }) m
      (λ g. higher-sound w b p m (record { held = m.held ++ lock t n c ∷ []; waiting = m.waiting }) (same-sound w b p s) all
      (λ r i. In-append_left (lock t n c ∷ []) i)
      (λ r i. ⊎_elim (λ a. ⊎_elim (λ y. s.locks.known p r (inl y)) (λ y. subst (Fits (with_broker b w) p) (sym (In-one y)) asked-fits) (In-append_cases m.held (lock t n c ∷ []) a)) (λ a. s.locks.known p r (inr a)) i)
      (Compatible-push (λ r. IsHonest w r.client) m.held (lock t n c) (grantable_parts m.held m.waiting (lock t n c) g).1))
      (λ _. same-sound w b p s)

  -- A release or an abort by an honest tab removes no covered lock.
  not-ended : (k : ℕ) → (IsHonest w t → Ends (tab_of w t).issued k) → (u j : ℕ) → IsHonest w u → Covered (with_broker b w) u j → (u ≡ t) × (j ≡ k) → ⊥
  not-ended k i u j y cov e = (s.tabs u).state.unended j cov.alive (subst (λ z. Ends (tab_of w z).issued j) (sym e.0) (subst (λ z. Ends (tab_of w t).issued z) (sym e.1) (i (subst (IsHonest w) e.0 y))))

  released-sound : (k : ℕ) → c ≡ Release k → Sound (with_broker (managed b p (released t k (manager_of b p))) w)
  unfolding released
  released-sound k e = lower-sound w b s p (released t k (manager_of b p)) (λ x i. without-fewer t k (manager_of b p).held i)
      (λ x i. s.locks.known p x (⊎_elim (λ a. inl (without-fewer t k (manager_of b p).held a)) (λ a. inr a) i))
      (λ u j y cov q i. without-keeps t k (manager_of b p).held i (not-ended k (λ h. let o = true-one h in inl (In-get_or (tab_of w t).issued n Query (Release k) o.0 (o.1 ∙ e))) u j y cov))

  aborted-sound : (k : ℕ) → c ≡ Abort k → Sound (with_broker (managed b p (aborted t k (manager_of b p))) w)
  unfolding aborted
  aborted-sound k e = lower-sound w b s p (aborted t k (manager_of b p)) (λ x i. without-fewer t k (manager_of b p).held i)
      (λ x i. s.locks.known p x (⊎_elim (λ a. inl (without-fewer t k (manager_of b p).held a)) (λ a. inr (without-fewer t k (manager_of b p).waiting a)) i))
      (λ u j y cov q i. without-keeps t k (manager_of b p).held i (not-ended k (λ h. let o = true-one h in inr (In-get_or (tab_of w t).issued n Query (Abort k) o.0 (o.1 ∙ e))) u j y cov))

drafted-sound : (w : WorldState) (b : BrokerState) → Sound (with_broker b w) → (t p n : ℕ) (c : Operation) → (IsHonest w t → (n < length (tab_of w t).issued) × (operation_of (tab_of w t) n ≡ c)) → was_opened w t ≡ true → p ≡ partition_of w t → has_joined b t ≡ true → AllCame b p
    → Sound (with_broker (managed b p (drafted t n c (manager_of b p))) w)
drafted-sound w b s t p n (Request mode if_available name) true-one here place sits all =
    let r = lock t n (Request mode if_available name) in
    either (λ z. Sound (with_broker (managed b p z) w)) if_available (probed r (manager_of b p)) (queued r (manager_of b p))
    (λ _. probed-sound w b s t p n (Request mode if_available name) true-one here place sits all)
    (λ _. queued-sound w b s t p n (Request mode if_available name) true-one here place sits)
drafted-sound w b s t p n (Release k) true-one here place sits all = released-sound w b s t p n (Release k) true-one here place sits k refl
drafted-sound w b s t p n (Abort k) true-one here place sits all = aborted-sound w b s t p n (Abort k) true-one here place sits k refl
drafted-sound w b s t p n Query true-one here place sits all = same-sound w b p s

perform-sound : (w : WorldState) (b : BrokerState) → Sound (with_broker b w) → (t p n : ℕ) (c : Operation) → (IsHonest w t → (n < length (tab_of w t).issued) × (operation_of (tab_of w t) n ≡ c)) → was_opened w t ≡ true → p ≡ partition_of w t → has_joined b t ≡ true → is_active b p ≡ true
    → Follows w b (perform b t p n c)
unfolding perform
perform-sound w b s t p n c true-one here place sits active =
    let seat : TabSeat = Joined p (n + 1) (limit_of b t) in
    let here_now = or_left (has_joined b t) (is_named_dead b t) sits in
    let b' = with_seat t seat b in
    let m = drafted t n c (manager_of b p) in
    let after = settled_at b' p m in
    settled-told w b' p m (without t n (newly_at b' p m)) (first_answer after t p n c)
    (λ r i. without-fewer t n (newly_at b' p m) i)
    (λ current a i. first-says w after current t p n c a i)
    (drafted-sound w b' (seated-sound w b s t seat (λ y _. (s.seats t).joined y sits) (λ d. apart d refl) (λ k y cov e. s.locks.covers t k y cov e here_now)) t p n c true-one here place
    (each_found (λ u o. t ≡ u → is_joined o ≡ true) t seat b.seats (λ _. refl) (λ u d e. absurd (d e)) t refl) (λ u i. still b t seat u (active-came b p active u i)))

command-sound : (w : WorldState) (b : BrokerState) → Sound (with_broker b w) → (t p : ℕ) (x : Command) → In (up_message t p (up.Command x)) w.bag → Follows w b (take_command b t p x.number x.operation)
unfolding take_command
command-sound w b s t p x i =
    let o = (s.messages t).commands p x i in
    let n = x.number in
    let c = x.operation in
    either (Follows w b) (not (has_joined b t)) (Drops NotJoined) _ (λ _. s) (λ j.
    either (Follows w b) (not (is_active b p)) (Drops Recovering) _ (λ _. s) (λ a.
    either (Follows w b) (nat_lt (next_of b t) n || _) (Drops OutOfTurn) _ (λ _. s) (λ _.
    either (Follows w b) (nat_lt n (next_of b t)) (Does b (later_answer b t p n c ∷ [])) _
    (λ _. outs-sound w b (later_answer b t p n c ∷ []) (λ y k. subst (SaysTo w b) (sym (In-one k)) (later-says w b s.current t p n c)) s) (λ _.
    either (Follows w b) (is_lock c && _) (Drops TooMany) (perform b t p n c) (λ _. s)
    (λ _. perform-sound w b s t p n c o.2 o.0 o.1 (not-false _ j) (not-false _ a))))))

inner-sound : (w : WorldState) (b : BrokerState) → Sound (with_broker b w) → (t p : ℕ) (u : Upward) → In (up_message t p u) w.bag → generation_of u ≡ b.generation → is_named_dead b t ≡ false → Follows w b (take_inner b t p u)
inner-sound w b s t p (up.Report r) i now alive = told-sound w b s t p (up.Report r) (at_once r) refl i now alive
inner-sound w b s t p (up.ReportPart r) i now alive = told-sound w b s t p (up.ReportPart r) (in_part r) refl i now alive
inner-sound w b s t p (up.Command x) i now alive = command-sound w b s t p x i

pub taking-sound : (w : WorldState) (b : BrokerState) → Sound (with_broker b w) → (x : Stamped) → In (up_message x.tab x.partition x.inner) w.bag → Follows w b (taking b x)
unfolding taking
taking-sound w b s x i =
    let g = generation_of x.inner in
    either (Follows w b) (nat_lt g b.generation) (Drops OldGeneration) _ (λ _. s) (λ ge.
    either (Follows w b) (nat_lt b.generation g) (Drops LaterGeneration) _ (λ _. s) (λ le.
    either (Follows w b) (is_named_dead b x.tab) (Drops DeadTab) _ (λ _. s) (λ alive.
    either (Follows w b) (is_misplaced b x.tab x.partition) (Drops Misplaced) (take_inner b x.tab x.partition x.inner) (λ _. s)
    (λ _. inner-sound w b s x.tab x.partition x.inner i (let y : b.generation ≤ g = ltb-false _ _ ge in let z : g ≤ b.generation = ltb-false _ _ le in omega arith) alive))))
