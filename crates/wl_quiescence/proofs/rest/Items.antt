-- What is to come from a tab, and what the broker has of the tab after it.
use Rattle.std.proofs.Common.{◌≡◌, ◌≢◌, ⊎_elim, ℕ, zero, suc, ◌+◌, ◌<◌, ◌≤◌, Bool, true, false, cond, List, [], ◌∷◌, ◌++◌, length, map, filter, refl, sym, ap, ◌∙◌, subst, arith}
use Rattle.std.specs.Prelude.{◌==◌, if◌then◌else◌}
use Rattle.std.specs.List.{range_with_len}
use Rattle.std.proofs.lemmas.Bool.{cases_Bool, cases_eq, eq-eqb, ne_eqb, or_left, le-leb}
use Rattle.wl_quiescence.proofs.rest.Invariant.{Seen, Away, At, Item, Tells, Says, Again, Nothing, after_item, after_items, seen, View, items_of, item_of, unsent_items, Arrives}
use Rattle.wl_grammar.specs.declared.frame.Frame.{Frame}
use Rattle.wl_broker.specs.Broker.{BrokerState}
use Rattle.wl_agent.specs.Tab.{TabState, is_report_due, due, is_due, numbers_of}

-- What comes later is handled later.
pub items-append : (p : ℕ) (due : Bool) (n : ℕ) (xs ys : List Item) (s : Seen) → after_items p due n (xs ++ ys) s ≡ after_items p due n ys (after_items p due n xs s)
items-append p due n [] ys s = refl
items-append p due n (x ∷ xs) ys s = items-append p due n xs ys (after_item p due n x s)

-- All that is due ends with everything taken, whatever came before.
pub again-last : (p : ℕ) (n : ℕ) (xs : List Item) (s : Seen) → after_items p true n (xs ++ Again ∷ []) s ≡ At n
again-last p n xs s = items-append p true n xs (Again ∷ []) s ∙ again (after_items p true n xs s)
  where
    again : (s : Seen) → after_item p true n Again s ≡ At n
    again (Away o) = refl
    again (At m) = refl

-- A tab that has joined stays joined.
pub stays-at : (p : ℕ) (due : Bool) (n : ℕ) (xs : List Item) (m : ℕ) → (k : ℕ) × (after_items p due n xs (At m) ≡ At k)
stays-at p due n [] m = (m, refl)
stays-at p due n (Tells x ∷ xs) m = stays-at p due n xs m
stays-at p due n (Says k ∷ xs) m = stays-at p due n xs (if k == m then m + 1 else m)
stays-at p due n (Again ∷ xs) m = stays-at p due n xs n
stays-at p due n (Nothing ∷ xs) m = stays-at p due n xs m

pub again-last-at : (p : ℕ) (due : Bool) (n : ℕ) (xs : List Item) (m : ℕ) → after_items p due n (xs ++ Again ∷ []) (At m) ≡ At n
again-last-at p due n xs m =
    items-append p due n xs (Again ∷ []) (At m) ∙ ap (after_item p due n Again) (stays-at p due n xs m).1

-- The commands that are due

-- The numbers from `j` on, `len` in all, of which the first may be left out, end with the broker's having taken `total`.
abbrev TakesFrom : ℕ → Bool → ℕ → (ℕ → Bool) → ℕ → ℕ → ℕ → ℕ → Bool → Type 0
TakesFrom p due n test len j total m b =
    after_items p due n (map Says (cond b (j ∷ filter test (range_with_len (j + 1) len)) (filter test (range_with_len (j + 1) len)))) (At m) ≡ At total

-- The numbers after the first, for a broker that has taken `i` commands.
abbrev Rest : ℕ → Bool → ℕ → (ℕ → Bool) → ℕ → ℕ → ℕ → ℕ → Type 0
Rest p due n test len j total i = after_items p due n (map Says (filter test (range_with_len (j + 1) len))) (At i) ≡ At total

due-first : (p : ℕ) (due : Bool) (n : ℕ) (test : ℕ → Bool) (len j total m : ℕ) → j ≤ m → (m ≡ j → test j ≡ true)
    → ((i : ℕ) → j + 1 ≤ i → m ≤ i → (j ≢ m → i ≡ m) → (j ≡ m → i ≡ m + 1) → Rest p due n test len j total i) → TakesFrom p due n test len j total m (test j)
due-first p due n test len j total m le all later = ⊎_elim here ahead (cases_eq j m)
  where
    taken : (i : ℕ) → (if j == m then m + 1 else m) ≡ i → Rest p due n test len j total i → TakesFrom p due n test len j total m true
    taken i e h = ap (λ z. after_items p due n (map Says (filter test (range_with_len (j + 1) len))) (At z)) e ∙ h

    here : j ≡ m → TakesFrom p due n test len j total m (test j)
    here e =
        subst (TakesFrom p due n test len j total m) (sym (all (sym e)))
        (taken (m + 1) (ap (λ b. if b then m + 1 else m) (eq-eqb j m e)) (later (m + 1) (omega arith) (omega arith) (λ y. absurd (y e)) (λ y. refl)))

    ahead : j ≢ m → TakesFrom p due n test len j total m (test j)
    ahead d =
        let h = later m (omega arith) (omega arith) (λ y. refl) (λ y. absurd (d y)) in
        ⊎_elim
        (λ e. subst (TakesFrom p due n test len j total m) (sym e) (taken m (ap (λ b. if b then m + 1 else m) (ne_eqb j m d)) h))
        (λ e. subst (TakesFrom p due n test len j total m) (sym e) h)
        (cases_Bool (test j))

-- A broker that has taken `m` commands takes all from `m` on, if the numbers below may be left out.
pub due-taken : (p : ℕ) (due : Bool) (n : ℕ) (test : ℕ → Bool) (len j m : ℕ) → j ≤ m → m ≤ j + len → ((k : ℕ) → m ≤ k → k < j + len → test k ≡ true)
    → after_items p due n (map Says (filter test (range_with_len j len))) (At m) ≡ At (j + len)
due-taken p due n test zero j m le lt all = ap (λ z. At z) (omega arith)
due-taken p due n test (suc len) j m le lt all =
    due-first p due n test len j (j + suc len) m le (λ e. all j (omega arith) (omega arith))
    (λ i a b c d.
    let top : i ≤ j + 1 + len = ⊎_elim (λ e. let f = d e in omega arith) (λ n. let f = c n in omega arith) (cases_eq j m) in
    due-taken p due n test len (j + 1) i a top (λ k x y. all k (omega arith) (omega arith)) ∙ ap (λ z. At z) (omega arith))

-- The hub handles the oldest frame of a tab, and the broker takes it as its item says: what is to come still ends with
-- everything taken.
pub item-arrives : (v : View) (t : ℕ) (b c : BrokerState) (f : Frame) (fs : List Frame) → v.up ≡ f ∷ fs → c.generation ≡ b.generation
    → seen c t ≡ after_item v.place (is_report_due v.client.locks) (length v.client.locks.issued) (item_of b.generation f) (seen b t)
    → Arrives v t b → Arrives (record v { up = fs }) t c
item-arrives v t b c f fs e g s a =
    let p = v.place in let due = is_report_due v.client.locks in let n = length v.client.locks.issued in
    let rest : ℕ → List Item = λ g. items_of g (record v { up = fs }) in
    ap (λ z. after_items p due n (rest z) (seen c t)) g
    ∙ (ap (after_items p due n (rest b.generation)) s
    ∙ (ap (λ zs. after_items p due n (map (item_of b.generation) (zs ++ v.client.report) ++ unsent_items v.client) (seen b t)) (sym e) ∙ a))

-- What is due is enough for a tab that has joined, if its client knows of no more commands than the broker has taken.
pub due-reaches : (p : ℕ) (is_due_now : Bool) (a : TabState) (m : ℕ) → (a.entered == 0) ≡ false → a.acknowledged ≤ m → m ≤ length a.issued
    → after_items p is_due_now (length a.issued) (map Says (due a)) (At m) ≡ At (length a.issued)
unfolding due
due-reaches p d a m e low le =
    ap (λ z. after_items p d (length a.issued) (map Says (cond z [] (filter (is_due a) (numbers_of a)))) (At m)) e
    ∙ (due-taken p d (length a.issued) (is_due a) (length a.issued) 0 m (omega arith) (omega (arith, le))
    (λ k x y. or_left _ _ (or_left _ _ (le-leb a.acknowledged k (omega (arith, low, x)))))
    ∙ ap (λ z. At z) (omega arith))
