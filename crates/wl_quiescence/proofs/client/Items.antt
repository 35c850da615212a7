-- A client sends the first of the frames that it has still to send: the items that are to come from it stay.
use Rattle.std.proofs.Common.{◌≡◌, ◌⊎◌, inl, inr, ⊎_elim, ℕ, ◌+◌, ◌<◌, ◌≤◌, Bool, true, ◌||◌, cond, List, [], ◌∷◌, ◌++◌, length, map, sym, ap, ◌∙◌, subst, arith}
use Rattle.std.specs.Prelude.{◌==◌, if◌then◌else◌}
use Rattle.std.proofs.lemmas.Bool.{cases_eq, eq-eqb, ne_eqb}
use Rattle.wl_draft.specs.Membership.{In}
use Rattle.wl_draft.proofs.Membership.{either, In-cons_cases, In-append_cases, In-append_left, In-append_right}
use Rattle.wl_grammar.specs.declared.frame.Frame.{Frame}
use Rattle.wl_broker.specs.Broker.{BrokerState, next_of}
use Rattle.wl_agent.specs.Tab.{TabState, status_of, is_asked, is_querying, is_report_due, command_frame}
use Rattle.wl_client.specs.declared.client.Unsent.{Unsent}
use Rattle.wl_client.specs.declared.client.Unsent.TheVariants as unsent
use Rattle.wl_quiescence.proofs.rest.Invariant.{Seen, Away, At, Item, Tells, Says, Again, Nothing, View, item_of, items_of, after_items, seen, Arrives, HasKept, Serves}
use Rattle.wl_quiescence.proofs.rest.Items.{items-append}

-- The view of a client that has other frames to send, and other frames on their way.
abbrev pub sending_view : View → List Frame → List Frame → List ℕ → List Unsent → View
sending_view v us rs ks xs = record v { up = us; client = record v.client { report = rs; due = ks; unsent = xs } }

-- What is to come is enough, and has each awaited number that was to come.
pub record Conveys (v n : View) (t : ℕ) (b : BrokerState) : Type 0 where
  pub arrives : Arrives v t b → Arrives n t b
  pub says :
      HasKept v t b v.client.locks → (k : ℕ) → k < next_of b t → (is_asked (status_of v.client.locks k) || is_querying (status_of v.client.locks k)) ≡ true →
      In unsent.Resend v.client.unsent ⊎ In (Says k) (items_of b.generation v) → In unsent.Resend n.client.unsent ⊎ In (Says k) (items_of b.generation n)

-- A tab that has not entered the broker's generation is to be greeted.
pub sent-serves : (v : View) (us rs : List Frame) (ks : List ℕ) (xs : List Unsent) (t : ℕ) (b : BrokerState)
    → (v.client.locks.entered ≡ b.generation → Serves v t b → Conveys v (sending_view v us rs ks xs) t b) → Serves v t b → Serves (sending_view v us rs ks xs) t b
sent-serves v us rs ks xs t b c s = record {
  welcomed = s.welcomed;
  enters = s.enters;
  answers = s.answers;
  reaches = λ e. ⊎_elim inl (λ o. ⊎_elim (λ n. inr (inl n)) (λ a. inr (inr ((c e s).arrives a))) o) (s.reaches e);
  reported = s.reported;
  kept = λ j. let k = s.kept j in record {
    acknowledged = k.acknowledged;
    issued = k.issued;
    queried = k.queried;
    awaited = λ n lt w. ⊎_elim
        (λ e.
        let new = (c e s).says k n lt w in
        ⊎_elim inl (λ o. ⊎_elim (λ x. inr (inl x)) (λ o. ⊎_elim (λ x. inr (inr (inl x)))
        (λ o. ⊎_elim
        (λ x. ⊎_elim (λ y. inr (inr (inr (inl (inl y))))) (λ y. ⊎_elim (λ z. inr (inr (inr (inl (inr (inl z)))))) (λ i. last n (new (inl i))) y) x)
        (λ i. last n (new (inr i)))
        o) o) o) (k.awaited n lt w))
        (λ d. inr (inr (inr (inl (inl (s.enters d))))))
        (cases_eq v.client.locks.entered b.generation);
    stands = k.stands;
    own = k.own;
    room = k.room;
  };
}
  where
    last : {A B C D E : Type 0} (k : ℕ) → In unsent.Resend xs ⊎ In (Says k) (items_of b.generation (sending_view v us rs ks xs)) → A ⊎ B ⊎ C ⊎ (D ⊎ E ⊎ In unsent.Resend xs) ⊎ In (Says k) (items_of b.generation (sending_view v us rs ks xs))
    last k o = ⊎_elim (λ i. inr (inr (inr (inl (inr (inr i)))))) (λ i. inr (inr (inr (inr i)))) o

-- The same items

pub conveys-same : (v : View) (us rs : List Frame) (ks : List ℕ) (xs : List Unsent) (t : ℕ) (b : BrokerState) → items_of b.generation (sending_view v us rs ks xs) ≡ items_of b.generation v
    → (In unsent.Resend v.client.unsent → In unsent.Resend xs) → Conveys v (sending_view v us rs ks xs) t b
conveys-same v us rs ks xs t b e r = record {
  arrives = λ a. ap (λ z. after_items v.place (is_report_due v.client.locks) (length v.client.locks.issued) z (seen b t)) e ∙ a;
  says = λ _ k lt w o. ⊎_elim (λ i. inl (r i)) (λ i. inr (subst (In (Says k)) (sym e) i)) o;
}

-- A frame goes on its way in place of its item.
pub frame-item : (g : ℕ) (us : List Frame) (f : Frame) (i : Item) (rest : List Item) → item_of g f ≡ i → map (item_of g) ((us ++ f ∷ []) ++ []) ++ rest ≡ map (item_of g) (us ++ []) ++ i ∷ rest
frame-item g [] f i rest e = ap (λ z. z ∷ rest) e
frame-item g (x ∷ xs) f i rest e = ap (λ z. item_of g x ∷ z) (frame-item g xs f i rest e)

pub command-item : (g : ℕ) (a : TabState) (k : ℕ) → a.entered ≡ g → item_of g (command_frame a k) ≡ Says k
command-item g a k e = ap (λ z. let i : Item = cond z (Says k) Nothing in i) (eq-eqb a.entered g e)

-- A number that was not issued

-- A run that has taken too many ends well only if all is sent again.
after-more : (p : ℕ) (due : Bool) (n : ℕ) (xs : List Item) (i j : ℕ) → n < i → after_items p due n xs (At i) ≡ At n → after_items p due n xs (At j) ≡ At n
after-more p due n [] i j lt e = absurd (let s = same i n e in omega (arith, s, lt))
  where
    same : (i n : ℕ) → At i ≡ At n → i ≡ n
    same i n e = cc
after-more p due n (Tells x ∷ xs) i j lt e = after-more p due n xs i j lt e
after-more p due n (Again ∷ xs) i j lt e = e
after-more p due n (Nothing ∷ xs) i j lt e = after-more p due n xs i j lt e
after-more p due n (Says k ∷ xs) i j lt e = after-more p due n xs (if k == i then i + 1 else i) (if k == j then j + 1 else j)
    (either (λ z. n < z) (k == i) (i + 1) i (λ _. omega arith) (λ _. lt)) e

dropped-at : (p : ℕ) (due : Bool) (n k : ℕ) (xs : List Item) (s : Seen) → n ≤ k → after_items p due n (Says k ∷ xs) s ≡ At n → after_items p due n xs s ≡ At n
dropped-at p due n k xs (Away o) le e = e
dropped-at p due n k xs (At m) le e = ⊎_elim
    (λ y. after-more p due n xs (m + 1) m (omega (arith, y, le)) (sym (ap (λ z. after_items p due n xs (At (cond z (m + 1) m))) (eq-eqb k m y)) ∙ e))
    (λ d. sym (ap (λ z. after_items p due n xs (At (cond z (m + 1) m))) (ne_eqb k m d)) ∙ e)
    (cases_eq k m)

-- The item of a number that was not issued is left out.
pub drops-item : (p : ℕ) (due : Bool) (n k : ℕ) (fs xs : List Item) (s : Seen) → n ≤ k → after_items p due n (fs ++ Says k ∷ xs) s ≡ At n → after_items p due n (fs ++ xs) s ≡ At n
drops-item p due n k fs xs s le e =
    items-append p due n fs xs s ∙ dropped-at p due n k xs (after_items p due n fs s) le (sym (items-append p due n fs (Says k ∷ xs) s) ∙ e)

pub In-dropped : (k n : ℕ) (fs xs : List Item) → k < n → In (Says k) (fs ++ Says n ∷ xs) → In (Says k) (fs ++ xs)
In-dropped k n fs xs lt i = ⊎_elim
    (λ j. In-append_left xs j)
    (λ j. ⊎_elim (λ e. absurd (let s = same k n e in omega (arith, lt, s))) (λ h. In-append_right fs h) (In-cons_cases j))
    (In-append_cases fs (Says n ∷ xs) i)
  where
    same : (k n : ℕ) → Says k ≡ Says n → k ≡ n
    same k n e = cc
