-- A client that has handled an answer or a part of a snapshot keeps what is said of its tab.
use Rattle.std.proofs.Common.{◌≡◌, inl, inr, ⊎_elim, ℕ, zero, suc, ◌+◌, ◌<◌, ◌≤◌, Bool, true, false, ◌&&◌, List, [], ◌∷◌, length, Some, refl, sym, ap, ◌∙◌, subst, arith}
use Rattle.std.specs.Prelude.{◌==◌, ⊤, if◌then◌else◌}
use Rattle.std.proofs.lemmas.Bool.{cases_Bool}
use Rattle.wl_draft.specs.Membership.{In, Later as Behind}
use Rattle.wl_draft.proofs.Membership.{In-cons_cases, In-filter_cases}
use Rattle.wl_grammar.specs.declared.frame.Answer.{Answer}
use Rattle.wl_grammar.specs.declared.frame.Snapshot.{Snapshot as Part}
use Rattle.wl_grammar.specs.declared.frame.Frame.{Frame}
use Rattle.wl_grammar.specs.declared.frame.Frame.TheVariants as frame
use Rattle.wl_grammar.specs.declared.frame.Operation.{Operation}
use Rattle.wl_grammar.specs.declared.frame.Operation.TheVariants.{Request, Release, Abort, Query}
use Rattle.wl_grammar.specs.declared.frame.Outcome.TheVariants.{Gone}
use Rattle.wl_broker.specs.Broker.{BrokerState, seat_of, is_joined, next_of, limit_of, manager_of, is_lock}
use Rattle.wl_agent.specs.declared.status.Status.TheVariants.{Querying}
use Rattle.wl_agent.specs.SnapshotParts.{PartsState, no_parts, fits, with_part}
use Rattle.wl_agent.specs.Tab.{TabState, status_of, operation_of, is_asked, is_querying, is_request, is_report_due}
use Rattle.wl_library_model.specs.Library.{Library, runs}
use Rattle.wl_quiescence.proofs.rest.Invariant.{view, At, Item, Tells, Says, Again, Nothing, View, hello, items_of, after_items, seen, Arrives, AnswerComes, SnapshotComes, HasKept, IsAlive, numbered_after, numbered_from, numbers_at, IsReported, Serves}
use Rattle.wl_quiescence.proofs.rest.Broker.{seen-at}
use Rattle.wl_quiescence.proofs.client.Hears.{is_waited}

-- Premises, which another invariant gives

-- The parts of the snapshot that come fit one after another.
abbrev pub AllFit : ℕ → ℕ → List Frame → PartsState → Type 0
AllFit g k [] ps = ⊤
AllFit g k (frame.Snapshot x ∷ fs) ps = (((x.generation == g) && (x.number == k)) ≡ true → fits x ps ≡ true) × AllFit g k fs (if (x.generation == g) && (x.number == k) then with_part x ps else ps)
AllFit g k (f ∷ fs) ps = AllFit g k fs ps

-- What comes from the broker that is up agrees with it.
pub record Heeds (v : View) (t : ℕ) (b : BrokerState) : Type 0 where
  -- An answer tells of commands that the broker has taken. A number that is asked, and that it says is gone, is not at the broker.
  pub answers :
      (x : Answer) → In (frame.Answer x) v.down → x.generation ≡ b.generation →
      (x.upto ≤ next_of b t) × (x.number < next_of b t)
      × (x.outcome ≡ Gone → is_asked (status_of v.client.locks x.number) ≡ true → In x.number (numbers_at (manager_of b v.place) t) → ⊥)
  pub snapshots : (x : Part) → In (frame.Snapshot x) v.down → x.generation ≡ b.generation → x.number < next_of b t
  pub fit : (k : ℕ) (ps : PartsState) → status_of v.client.locks k ≡ Some (Querying ps) → AllFit b.generation k v.down ps
  -- Only a query is queried.
  pub queries : (k : ℕ) → is_querying (status_of v.client.locks k) ≡ true → operation_of v.client.locks k ≡ Query
  -- No part came of a query that the broker has still to take.
  pub unheard :
      v.client.locks.entered ≡ b.generation → (k : ℕ) → next_of b t ≤ k → is_querying (status_of v.client.locks k) ≡ true →
      status_of v.client.locks k ≡ Some (Querying no_parts)

abbrev pub IsHeeding : Library → Type 0
IsHeeding l = (b : BrokerState) (t : ℕ) → l.hub.supervised.broker ≡ Some b → runs l t ≡ true → Heeds (view l t) t b

-- The numbers at the broker

numbered-same : (a c : TabState) (n m : ℕ) (ks : List ℕ) → c.issued ≡ a.issued → numbered_from c n m ks ≡ numbered_from a n m ks
numbered-same a c n zero ks e = refl
numbered-same a c n (suc m) ks e =
    numbered-same a c (n + 1) m (numbered_after (operation_of c n) n ks) e
    ∙ ap (λ z. numbered_from a (n + 1) m (numbered_after z n ks)) (ap (λ z. operation_of (record a { issued = z }) n) e)

after-below : (o : Operation) (n k : ℕ) (ks : List ℕ) → k < n → In k (numbered_after o n ks) → In k ks
after-below (Request m b x) n k ks lt i = ⊎_elim (λ e. absurd (omega (arith, lt, e))) (λ j. j) (In-cons_cases i)
after-below (Release j) n k ks lt i = (In-filter_cases (λ z. if z == j then false else true) ks i).0
after-below (Abort j) n k ks lt i = (In-filter_cases (λ z. if z == j then false else true) ks i).0
after-below Query n k ks lt i = i

-- A number below those to come was at the broker before.
pub numbered-below : (a : TabState) (n m k : ℕ) (ks : List ℕ) → k < n → In k (numbered_from a n m ks) → In k ks
numbered-below a n zero k ks lt i = i
numbered-below a n (suc m) k ks lt i =
    let o = operation_of a n in
    after-below o n k ks lt (numbered-below a (n + 1) m k (numbered_after o n ks) (omega (arith, lt)) i)

-- What the report's being due says does not matter once the tab has joined.
due-free : (p : ℕ) (d e : Bool) (n : ℕ) (xs : List Item) (m : ℕ) → after_items p d n xs (At m) ≡ after_items p e n xs (At m)
due-free p d e n [] m = refl
due-free p d e n (Tells x ∷ xs) m = due-free p d e n xs m
due-free p d e n (Says k ∷ xs) m = due-free p d e n xs (if k == m then m + 1 else m)
due-free p d e n (Again ∷ xs) m = due-free p d e n xs n
due-free p d e n (Nothing ∷ xs) m = due-free p d e n xs m

-- The view of a client that has handled the frame
abbrev pub heard_view : View → List Frame → TabState → View
heard_view v rest c = record v { down = rest; client = record v.client { locks = c } }

-- The locks afterwards, of a tab that has joined.
pub record Follows (v : View) (t : ℕ) (b : BrokerState) (rest : List Frame) (c : TabState) : Type 0 where
  pub issued : c.issued ≡ v.client.locks.issued
  pub low : c.acknowledged ≤ next_of b t
  pub asked : (j : ℕ) → is_asked (status_of c j) ≡ true → is_asked (status_of v.client.locks j) ≡ true
  pub queried : (j : ℕ) → is_querying (status_of c j) ≡ true → is_querying (status_of v.client.locks j) ≡ true
  pub waited : (j : ℕ) → is_waited (status_of c j) ≡ true → is_waited (status_of v.client.locks j) ≡ true
  pub answered : (j : ℕ) → j < next_of b t → is_waited (status_of c j) ≡ true → AnswerComes b.generation v j → AnswerComes b.generation (heard_view v rest c) j
  pub snapshot : (j : ℕ) → j < next_of b t → is_waited (status_of c j) ≡ true → SnapshotComes b.generation v j → SnapshotComes b.generation (heard_view v rest c) j
  pub alive : (j : ℕ) → (j < next_of b t → In j (numbers_at (manager_of b v.place) t)) → IsAlive v.client.locks j → IsAlive c j

pub operation-same : (a c : TabState) (k : ℕ) → c.issued ≡ a.issued → operation_of c k ≡ operation_of a k
operation-same a c k e = ap (λ z. operation_of (record a { issued = z }) k) e

follows-kept : (v : View) (t : ℕ) (b : BrokerState) (f : Frame) (rest : List Frame) (c : TabState) → v.down ≡ f ∷ rest → (hello b.generation ≡ f → ⊥)
    → Follows v t b rest c → HasKept v t b v.client.locks → HasKept (heard_view v rest c) t b c
follows-kept v t b f rest c e d w k =
    let a = v.client.locks in
    let op : (j : ℕ) → operation_of c j ≡ operation_of a j = λ j. operation-same a c j w.issued in
    record {
      acknowledged = w.low;
      issued = subst (λ z. next_of b t ≤ length z) (sym w.issued) k.issued;
      queried = λ j y. subst (λ z. j < length z) (sym w.issued) (k.queried j (w.queried j y));
      awaited = λ j lt y. ⊎_elim
          (λ x. inl (ap is_request (op j) ∙ x.0, x.1))
          (λ o. ⊎_elim (λ x. inr (inl (w.answered j lt y x)))
          (λ o. ⊎_elim (λ x. inr (inr (inl (w.snapshot j lt y x))))
          (λ o. ⊎_elim
          (λ x. inr (inr (inr (inl (⊎_elim (λ i. inl (behind i)) inr x)))))
          (λ i. inr (inr (inr (inr i))))
          o) o) o)
          (k.awaited j lt (w.waited j y));
      stands = λ j lt y r. k.stands j lt (w.asked j y) (sym (ap is_request (op j)) ∙ r);
      own = λ j m s i.
          let i' = subst (In j) (numbered-same a c (next_of b t) m (numbers_at (manager_of b v.place) t) w.issued) i in
          w.alive j (λ lt. numbered-below a (next_of b t) m j (numbers_at (manager_of b v.place) t) lt i') (k.own j m (s ∙ ap length w.issued) i');
      room = λ m lt y.
          subst (λ z. length z < limit_of b t) (sym (numbered-same a c (next_of b t) m (numbers_at (manager_of b v.place) t) w.issued))
          (k.room m (subst (λ z. next_of b t + m < length z) w.issued lt) (sym (ap is_lock (op (next_of b t + m))) ∙ y));
    }
  where
    behind : In (hello b.generation) v.down → In (hello b.generation) rest
    behind i = ⊎_elim (λ s. absurd (d s)) (λ j. j) (In-cons_cases (subst (In (hello b.generation)) e i))

pub follows-serves : (v : View) (t : ℕ) (b : BrokerState) (f : Frame) (rest : List Frame) (c : TabState) → v.down ≡ f ∷ rest → (hello b.generation ≡ f → ⊥) → c.entered ≡ v.client.locks.entered
    → (is_joined (seat_of b t) ≡ true → Follows v t b rest c) → (v.client.locks.entered ≡ b.generation → is_joined (seat_of b t) ≡ false → c ≡ v.client.locks)
    → Serves v t b → Serves (heard_view v rest c) t b
follows-serves v t b f rest c e d in_same w same s =
    let a = v.client.locks in
    let was : c.entered ≡ b.generation → a.entered ≡ b.generation = λ y. sym in_same ∙ y in
    record {
      welcomed = λ y. behind (s.welcomed y);
      enters = λ y. behind (s.enters (λ z. y (in_same ∙ z)));
      answers = λ g i y. s.answers g (subst (In g) (sym e) (Behind i)) y;
      reaches = λ y. ⊎_elim (λ i. inl (behind i)) (λ o. ⊎_elim (λ n. inr (inl n)) (λ x. inr (inr (arrives (was y) x))) o) (s.reaches (was y));
      reported = λ y j. subst IsReported (sym (same (was y) j)) (s.reported (was y) j);
      kept = λ j. follows-kept v t b f rest c e d (w j) (s.kept j);
    }
  where
    behind : In (hello b.generation) v.down → In (hello b.generation) rest
    behind i = ⊎_elim (λ s. absurd (d s)) (λ j. j) (In-cons_cases (subst (In (hello b.generation)) e i))

    arrives : v.client.locks.entered ≡ b.generation → Arrives v t b → Arrives (heard_view v rest c) t b
    arrives g x =
        let p = v.place in let xs = items_of b.generation v in
        ⊎_elim
        (λ j.
        let q = seen-at b t j in
        let n = ap length (w j).issued in
        ap (λ z. after_items p (is_report_due c) z xs (seen b t)) n
        ∙ (ap (after_items p (is_report_due c) (length v.client.locks.issued) xs) q
        ∙ (due-free p (is_report_due c) (is_report_due v.client.locks) (length v.client.locks.issued) xs (next_of b t)
        ∙ (ap (after_items p (is_report_due v.client.locks) (length v.client.locks.issued) xs) (sym q) ∙ (x ∙ ap (λ z. At z) (sym n))))))
        (λ j. subst (λ z. after_items p (is_report_due z) (length z.issued) xs (seen b t) ≡ At (length z.issued)) (sym (same g j)) x)
        (cases_Bool (is_joined (seat_of b t)))
