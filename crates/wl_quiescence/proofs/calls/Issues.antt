-- A client issues a command: what is said of its tab stays.
use Rattle.std.proofs.Common.{◌≡◌, ◌≢◌, ◌⊎◌, inl, inr, ⊎_elim, ℕ, zero, suc, ◌+◌, ◌<◌, ◌≤◌, Bool, true, false, not, ◌&&◌, ◌||◌, List, [], ◌∷◌, ◌++◌, length, length-append, map, get_or, Option, None, refl, sym, ap, ap₂, ◌∙◌, subst, arith, append_assoc}
use Rattle.std.specs.Prelude.{◌==◌, if◌then◌else◌}
use Rattle.std.proofs.lemmas.Bool.{cases_eq, cases_lt, eq-eqb, ne_eqb}
use Rattle.std.proofs.lemmas.List.{map-append, get_or_append_left}
use Rattle.wl_draft.specs.Membership.{In, Here, Later}
use Rattle.wl_draft.proofs.Membership.{apart, In-cons_cases, In-append_left, In-filter_cases}
use Rattle.wl_grammar.specs.declared.frame.Operation.{Operation}
use Rattle.wl_grammar.specs.declared.frame.Operation.TheVariants.{Request, Release, Abort, Query}
use Rattle.wl_agent.specs.declared.status.Status.{Status}
use Rattle.wl_broker.specs.Broker.{BrokerState, seat_of, manager_of, next_of, limit_of, is_joined, is_lock}
use Rattle.wl_agent.specs.Tab.{TabState, status_of, operation_of, is_request, is_report_due, is_asked, is_held, is_querying, reserves_number}
use Rattle.wl_client.specs.declared.client.Unsent.TheVariants as unsent
use Rattle.wl_quiescence.proofs.rest.Invariant.{View, Seen, Away, At, Item, Tells, Says, Again, Nothing, item_of, item_of_unsent, items_of, after_item, after_items, seen, Arrives, Serves, HasKept, IsReported, IsAlive, EndsLater, ends_at, ends_wait, SendsAgain, numbered_after, numbered_from, numbers_at}
use Rattle.wl_quiescence.proofs.rest.Items.{items-append}

-- One command more

-- The broker has the same, or it has all of `n` or all of `n + 1` commands.
abbrev Alike : ℕ → Seen → Seen → Type 0
Alike n s r = (s ≡ r) ⊎ ((s ≡ At n) × (r ≡ At (n + 1)))

says-else : (p : ℕ) (due : Bool) (n k m : ℕ) (s : Seen) → k ≢ m → s ≡ At m → after_item p due n (Says k) s ≡ At m
says-else p due n k m s d e = ap (after_item p due n (Says k)) e ∙ ap (λ z. At (if z then m + 1 else m)) (ne_eqb k m d)

one-more : (p : ℕ) (due : Bool) (n : ℕ) (x : Item) (s r : Seen) → ((k : ℕ) → x ≡ Says k → k < n) → Alike n s r → Alike n (after_item p due n x s) (after_item p due (n + 1) x r)
one-more p due n (Tells x) s r lt a = ⊎_elim (λ e. inl (ap (after_item p due n (Tells x)) e ∙ same r)) (λ e. inr (ap (after_item p due n (Tells x)) e.0, ap (after_item p due (n + 1) (Tells x)) e.1)) a
  where
    same : (r : Seen) → after_item p due n (Tells x) r ≡ after_item p due (n + 1) (Tells x) r
    same (Away o) = refl
    same (At m) = refl
one-more p due n (Says k) s r lt a =
    ⊎_elim (λ e. inl (ap (after_item p due n (Says k)) e ∙ same r))
    (λ e. let less = lt k refl in inr (says-else p due n k n s (λ z. omega (arith, less, z)) e.0, says-else p due (n + 1) k (n + 1) r (λ z. omega (arith, less, z)) e.1)) a
  where
    same : (r : Seen) → after_item p due n (Says k) r ≡ after_item p due (n + 1) (Says k) r
    same (Away o) = refl
    same (At m) = refl
one-more p due n Again s r lt a = ⊎_elim (λ e. subst (λ z. Alike n (after_item p due n Again s) (after_item p due (n + 1) Again z)) e (both s)) (λ e. inr (ap (after_item p due n Again) e.0, ap (after_item p due (n + 1) Again) e.1)) a
  where
    away : (d : Bool) (s : Seen) → Alike n (if d then At n else s) (if d then At (n + 1) else s)
    away true s = inr (refl, refl)
    away false s = inl refl

    both : (s : Seen) → Alike n (after_item p due n Again s) (after_item p due (n + 1) Again s)
    both (Away o) = away due (Away o)
    both (At m) = inr (refl, refl)
one-more p due n Nothing s r lt a = a

all-more : (p : ℕ) (due : Bool) (n : ℕ) (xs : List Item) (s r : Seen) → ((k : ℕ) → In (Says k) xs → k < n) → Alike n s r → Alike n (after_items p due n xs s) (after_items p due (n + 1) xs r)
all-more p due n [] s r lt a = a
all-more p due n (x ∷ xs) s r lt a =
    all-more p due n xs (after_item p due n x s) (after_item p due (n + 1) x r) (λ k i. lt k (Later i))
    (one-more p due n x s r (λ k e. lt k (subst (λ z. In z (x ∷ xs)) e Here)) a)

-- With the new command behind all else, the broker takes all.
more-arrives : (p : ℕ) (due : Bool) (n : ℕ) (xs : List Item) (s : Seen) → ((k : ℕ) → In (Says k) xs → k < n) → after_items p due n xs s ≡ At n
    → after_items p due (n + 1) (xs ++ Says n ∷ []) s ≡ At (n + 1)
more-arrives p due n xs s lt e =
    items-append p due (n + 1) xs (Says n ∷ []) s
    ∙ ⊎_elim
    (λ q. ap (after_item p due (n + 1) (Says n)) (sym q ∙ e) ∙ ap (λ z. At (if z then n + 1 else n)) (eq-eqb n n refl))
    (λ q. says-else p due (n + 1) n (n + 1) (after_items p due (n + 1) xs s) (λ z. omega (arith, z)) q.1)
    (all-more p due n xs s s lt (inl refl))

-- Numbers at the broker

-- The tab has issued one command more, which may end a number.
pub record Issued (o : Operation) (a c : TabState) : Type 0 where
  pub issued : c.issued ≡ a.issued ++ o ∷ []
  pub entered : c.entered ≡ a.entered
  pub acknowledged : c.acknowledged ≡ a.acknowledged
  pub answered : c.answered ≡ a.answered
  pub report : c.report ≡ a.report
  pub each : (k : ℕ) → k ≢ length a.issued → (status_of c k ≡ status_of a k) ⊎ ((status_of c k ≡ None) × (ends_at k o ≡ true))
  pub new : is_lock o ≡ true → IsAlive c (length a.issued)

module _ (o : Operation) (a c : TabState) (y : Issued o a c) where
  pub one-longer : length c.issued ≡ length a.issued + 1
  one-longer = ap length y.issued ∙ length-append a.issued (o ∷ [])

  pub old-operation : (n : ℕ) → n < length a.issued → operation_of c n ≡ operation_of a n
  old-operation n lt = ap (λ z. get_or z n Query) y.issued ∙ get_or_append_left a.issued (o ∷ []) Query n lt

  pub new-operation : operation_of c (length a.issued) ≡ o
  new-operation = ap (λ z. get_or z (length a.issued) Query) y.issued ∙ at-end a.issued
    where
      at-end : (os : List Operation) → get_or (os ++ o ∷ []) (length os) Query ≡ o
      at-end [] = refl
      at-end (x ∷ xs) = at-end xs

  pub numbered-same : (m n : ℕ) (ks : List ℕ) → n + m ≤ length a.issued → numbered_from c n m ks ≡ numbered_from a n m ks
  numbered-same zero n ks le = refl
  numbered-same (suc m) n ks le =
      numbered-same m (n + 1) (numbered_after (operation_of c n) n ks) (omega (arith, le))
      ∙ ap (λ z. numbered_from a (n + 1) m (numbered_after z n ks)) (old-operation n (omega (arith, le)))

pub numbered-last : (a : TabState) (m n : ℕ) (ks : List ℕ) → numbered_from a n (suc m) ks ≡ numbered_after (operation_of a (n + m)) (n + m) (numbered_from a n m ks)
numbered-last a zero n ks = ap (λ z. numbered_after (operation_of a z) z ks) (omega arith)
numbered-last a (suc m) n ks =
    let xs = numbered_after (operation_of a n) n ks in
    numbered-last a m (n + 1) xs ∙ ap (λ z. numbered_after (operation_of a z) z (numbered_from a (n + 1) m xs)) (omega arith)

-- What is there after a command was there before, or is the command's.
pub after-cases : (o : Operation) (n k : ℕ) (ks : List ℕ) → In k (numbered_after o n ks) → (In k ks × (ends_at k o ≡ false)) ⊎ ((k ≡ n) × (is_lock o ≡ true))
after-cases (Request mode if_available name) n k ks i = ⊎_elim (λ e. inr (e, refl)) (λ j. inl (j, refl)) (In-cons_cases i)
after-cases (Release j) n k ks i = let h = In-filter_cases (λ k. if k == j then false else true) ks i in inl (h.0, other h.1)
  where
    other : (if k == j then false else true) ≡ true → (j == k) ≡ false
    other e = ⊎_elim (λ z. apart e (ap (λ b. if b then false else true) (eq-eqb k j (sym z)))) (λ d. ne_eqb j k d) (cases_eq j k)
after-cases (Abort j) n k ks i = let h = In-filter_cases (λ k. if k == j then false else true) ks i in inl (h.0, other h.1)
  where
    other : (if k == j then false else true) ≡ true → (j == k) ≡ false
    other e = ⊎_elim (λ z. apart e (ap (λ b. if b then false else true) (eq-eqb k j (sym z)))) (λ d. ne_eqb j k d) (cases_eq j k)
after-cases Query n k ks i = inl (i, refl)

-- The view after the command

abbrev pub issuing : View → TabState → View
issuing v c = record v { client = record v.client { locks = c; unsent = v.client.unsent ++ unsent.Command (length v.client.locks.issued) ∷ [] } }

items-more : (g : ℕ) (v : View) (c : TabState) → items_of g (issuing v c) ≡ items_of g v ++ Says (length v.client.locks.issued) ∷ []
items-more g v c =
    let n = length v.client.locks.issued in
    let fs = map (item_of g) (v.up ++ v.client.report) in let ds = map Says v.client.due in let us = map item_of_unsent v.client.unsent in
    ap (λ z. fs ++ (ds ++ z)) (map-append item_of_unsent v.client.unsent (unsent.Command n ∷ []))
    ∙ (ap (λ z. fs ++ z) (sym (append_assoc ds us (Says n ∷ []))) ∙ sym (append_assoc fs (ds ++ us) (Says n ∷ [])))

-- What is known of the tab and of what is on its way.
pub record MayIssue (v : View) (t : ℕ) (b : BrokerState) (o : Operation) : Type 0 where
  pub low : v.client.locks.report.base ≤ length v.client.locks.issued
  pub numbered : (k : ℕ) → IsAlive v.client.locks k → k < length v.client.locks.issued
  pub below : v.client.locks.entered ≡ b.generation → (k : ℕ) → In (Says k) (items_of b.generation v) → k < length v.client.locks.issued
  pub room :
      is_joined (seat_of b t) ≡ true → is_lock o ≡ true → (m : ℕ) → next_of b t + m ≡ length v.client.locks.issued →
      length (numbered_from v.client.locks (next_of b t) m (numbers_at (manager_of b v.place) t)) < limit_of b t

module _ (v : View) (t : ℕ) (b : BrokerState) (o : Operation) (c : TabState) (y : Issued o v.client.locks c) (h : MayIssue v t b o) where
  abbrev old : TabState
  old = v.client.locks

  same-status : (k : ℕ) → k < length old.issued → (status_of c k ≡ status_of old k) ⊎ ((status_of c k ≡ None) × (ends_at k o ≡ true))
  same-status k lt = y.each k (λ e. omega (arith, lt, e))

  -- A status that is some status is the one before.
  still : (P : Option Status → Bool) → P None ≡ false → (k : ℕ) → k < length old.issued → P (status_of c k) ≡ true → status_of c k ≡ status_of old k
  still P none k lt e = ⊎_elim (λ s. s) (λ z. apart e (ap P z.0 ∙ none)) (same-status k lt)

  alive-more : (k : ℕ) → IsAlive old k → IsAlive c k ⊎ (ends_at k o ≡ true)
  alive-more k e = ⊎_elim (λ s. inl (ap reserves_number s ∙ e)) (λ z. inr z.1) (same-status k (h.numbered k e))

  ends-new : (k : ℕ) → ends_at k o ≡ true → EndsLater c old.report.base k
  ends-new k e = let le = h.low in let n = one-longer o old c y in
      (length old.issued, le, omega (arith, n), ap (ends_at k) (new-operation o old c y) ∙ e)

  more-reported : IsReported old → IsReported c
  more-reported r = record {
    told = λ k lt e.
        let le = h.low in
        let low : k < old.report.base = subst (λ z. k < z.base) y.report lt in
        let s = still reserves_number refl k (omega (arith, low, le)) e in
        let x = r.told k low (sym (ap reserves_number s) ∙ e) in
        (x.0, subst (λ z. In x.0 z.entries) (sym y.report) x.1, x.2, x.3 ∙ sym (ap is_held s));
    alive = λ e i. ⊎_elim
        (λ x. ⊎_elim inl (λ z. inr (subst (λ q. EndsLater c q.base e.number) (sym y.report) (ends-new e.number z))) (alive-more e.number x))
        (λ x. let n = one-longer o old c y in let lt = x.2 in inr (x.0, subst (λ q. q.base ≤ x.0) (sym y.report) x.1, omega (arith, n, lt), ap (ends_at e.number) (old-operation o old c y x.0 x.2) ∙ x.3))
        (r.alive e (subst (λ z. In e z.entries) y.report i));
    answered = y.answered ∙ r.answered;
    acknowledged = y.acknowledged ∙ (r.acknowledged ∙ ap (λ z. z.base) (sym y.report));
  }

  again-more : SendsAgain v t b → SendsAgain (issuing v c) t b
  again-more x = ⊎_elim inl (λ o. ⊎_elim (λ z. inr (inl z)) (λ i. inr (inr (In-append_left (unsent.Command (length old.issued) ∷ []) i))) o) x

  kept-more : is_joined (seat_of b t) ≡ true → HasKept v t b old → HasKept (issuing v c) t b c
  kept-more j k =
      let n = length old.issued in
      let longer = one-longer o old c y in
      let le = k.issued in
      let ks = numbers_at (manager_of b v.place) t in
      record {
        acknowledged = subst (λ z. z ≤ next_of b t) (sym y.acknowledged) k.acknowledged;
        issued = omega (arith, longer, le);
        queried = λ q e. ⊎_elim
            (λ z. omega (arith, longer, z))
            (λ d. ⊎_elim (λ s. let lt = k.queried q (sym (ap is_querying s) ∙ e) in omega (arith, longer, lt)) (λ z. apart e (ap is_querying z.0)) (y.each q d))
            (cases_eq q n);
        awaited = λ q lt e.
            let s = still (λ z. is_asked z || is_querying z) refl q (omega (arith, lt, le)) e in
            let same = old-operation o old c y q (omega (arith, lt, le)) in
            ⊎_elim (λ x. inl (ap is_request same ∙ x.0, x.1))
            (λ x. inr (⊎_elim (λ z. inl (z.0, z.1, z.2, z.3, subst (λ p. ends_wait p z.0.outcome ≡ true) (sym same) z.4))
            (λ x. inr (⊎_elim (λ z. inl (z.0, s ∙ z.1, z.2, z.3))
            (λ x. inr (⊎_elim (λ z. inl (again-more z))
            (λ i. inr (subst (In (Says q)) (sym (items-more b.generation v c)) (In-append_left (Says n ∷ []) i))) x)) x)) x))
            (k.awaited q lt (sym (ap (λ z. is_asked z || is_querying z) s) ∙ e));
        stands = λ q lt e r.
            let s = still is_asked refl q (omega (arith, lt, le)) e in
            k.stands q lt (sym (ap is_asked s) ∙ e) (sym (ap is_request (old-operation o old c y q (omega (arith, lt, le)))) ∙ r);
        own = λ q m e i. own-more k q m e i;
        room = λ m lt lock. ⊎_elim
            (λ less. subst (λ z. length z < limit_of b t) (sym (numbered-same o old c y m (next_of b t) ks (omega (arith, less))))
            (k.room m less (sym (ap is_lock (old-operation o old c y (next_of b t + m) less)) ∙ lock)))
            (λ more.
            let last : next_of b t + m ≡ n = omega (arith, lt, longer, more) in
            subst (λ z. length z < limit_of b t) (sym (numbered-same o old c y m (next_of b t) ks (omega (arith, last))))
            (h.room j (sym (ap is_lock (ap (operation_of c) last ∙ new-operation o old c y)) ∙ lock) m last))
            (cases_lt (next_of b t + m) n);
      }
    where
      own-more : HasKept v t b old → (q m : ℕ) → next_of b t + m ≡ length c.issued → In q (numbered_from c (next_of b t) m (numbers_at (manager_of b v.place) t)) → IsAlive c q
      own-more k q zero e i = let longer = one-longer o old c y in let le = k.issued in absurd (omega (arith, longer, le, e))
      own-more k q (suc m) e i =
          let ks = numbers_at (manager_of b v.place) t in
          let longer = one-longer o old c y in
          let last : next_of b t + m ≡ length old.issued = omega (arith, longer, e) in
          let is : numbered_from c (next_of b t) (suc m) ks ≡ numbered_after o (length old.issued) (numbered_from old (next_of b t) m ks) =
          numbered-last c m (next_of b t) ks
          ∙ (ap (λ z. numbered_after (operation_of c z) z (numbered_from c (next_of b t) m ks)) last
          ∙ ap₂ (λ p z. numbered_after p (length old.issued) z) (new-operation o old c y) (numbered-same o old c y m (next_of b t) ks (omega (arith, last)))) in
          ⊎_elim
          (λ x. ⊎_elim (λ z. z) (λ z. apart z x.1) (alive-more q (k.own q m last x.0)))
          (λ x. subst (IsAlive c) (sym x.0) (y.new x.1))
          (after-cases o (length old.issued) q (numbered_from old (next_of b t) m ks) (subst (In q) is i))

  arrives-more : v.client.locks.entered ≡ b.generation → Arrives v t b → Arrives (issuing v c) t b
  arrives-more e x =
      let n = length old.issued in
      let p = v.place in
      let longer = one-longer o old c y in
      let due : is_report_due c ≡ is_report_due old = ap₂ (λ f s. not (f == 0) && not s) y.entered y.answered in
      let now : after_items p (is_report_due old) (n + 1) (items_of b.generation v ++ Says n ∷ []) (seen b t) ≡ At (n + 1) = more-arrives p (is_report_due old) n (items_of b.generation v) (seen b t) (h.below e) x in
      ap₂ (λ d z. after_items p d (length c.issued) z (seen b t)) due (items-more b.generation v c)
      ∙ (ap (λ z. after_items p (is_report_due old) z (items_of b.generation v ++ Says n ∷ []) (seen b t)) longer
      ∙ (now ∙ ap (λ z. At z) (sym longer)))

  pub issue-serves : Serves v t b → Serves (issuing v c) t b
  issue-serves s = record {
    welcomed = s.welcomed;
    enters = λ d. s.enters (λ e. d (y.entered ∙ e));
    answers = s.answers;
    reaches = λ e. let f = sym y.entered ∙ e in ⊎_elim inl (λ x. ⊎_elim (λ z. inr (inl z)) (λ a. inr (inr (arrives-more f a))) x) (s.reaches f);
    reported = λ e j. more-reported (s.reported (sym y.entered ∙ e) j);
    kept = λ j. kept-more j (s.kept j);
  }
