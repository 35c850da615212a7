-- A command of a tab changes the tab's numbers as the invariant says.
use Rattle.std.proofs.Common.{◌≡◌, ⊎_elim, ℕ, Bool, true, false, not, ◌&&◌, ◌||◌, cond, List, [], ◌∷◌, ◌++◌, length, map, filter, refl, sym, ap, ap₂, ◌∙◌, subst, arith, append_assoc, append-nil, length-append}
use Rattle.std.specs.Prelude.{◌==◌, if◌then◌else◌}
use Rattle.std.proofs.lemmas.Bool.{eq-eqb, eqb-true, eqb-false, or_cases, or_left, or_right, and_parts, not-false, false_from_ne_true}
use Rattle.std.proofs.lemmas.List.Elements.{filter-append}
use Rattle.wl_draft.specs.declared.mode.Mode.{Mode}
use Rattle.wl_draft.specs.declared.row.Row.{Row}
use Rattle.wl_draft.specs.Locks.{Locks, has_pair, is_pair, is_grantable, row_of, without, queued, probed, released, aborted}
use Rattle.wl_draft.specs.Membership.{Here}
use Rattle.wl_draft.proofs.Membership.{apart, either, In-append_left, In-append_right}
use Rattle.wl_grammar.specs.declared.frame.Operation.{Operation}
use Rattle.wl_grammar.specs.declared.frame.Operation.TheVariants.{Request, Release, Abort, Query}
use Rattle.wl_broker.specs.Broker.{drafted}
use Rattle.wl_agent.specs.Tab.{is_request}
use Rattle.wl_world_model.proofs.exclusion.HeldAfterSettling.{has_pair-true, without-keeps, without-fewer}
use Rattle.wl_world_model.proofs.order.Standings.{has_pair-from}
use Rattle.wl_quiescence.proofs.rest.Invariant.{ends_at, numbered_after, numbers_at}
use Rattle.wl_quiescence.proofs.hub.Rows.{Within, within-same, within-grow, numbers_in, numbers-append, weight-append, stands_at}

-- Numbers

map-cond : (f : Row → ℕ) (b : Bool) (x : Row) (xs : List Row) → map f (cond b (x ∷ xs) xs) ≡ cond b (f x ∷ map f xs) (map f xs)
map-cond f true x xs = refl
map-cond f false x xs = refl

pub numbers-cons : (t : ℕ) (r : Row) (rows : List Row) → numbers_in t (r ∷ rows) ≡ cond (r.client == t) (r.number ∷ numbers_in t rows) (numbers_in t rows)
numbers-cons t r rows = map-cond (λ (r : Row). r.number) (r.client == t) r (filter (λ (r : Row). r.client == t) rows)

abbrev other : ℕ → ℕ → Bool
other j k = if k == j then false else true

without-step : (t j : ℕ) (r : Row) (rows : List Row) (b d : Bool) → b ≡ (r.client == t) → d ≡ (r.number == j) → numbers_in t (without t j rows) ≡ filter (other j) (numbers_in t rows)
    → numbers_in t (cond (not (b && d)) (r ∷ without t j rows) (without t j rows)) ≡ filter (other j) (cond b (r.number ∷ numbers_in t rows) (numbers_in t rows))
without-step t j r rows true true e f h =
    let F = filter (other j) (numbers_in t rows) in h ∙ ap (λ z. cond (if z then false else true) (r.number ∷ F) F) f
without-step t j r rows true false e f h =
    let W = numbers_in t (without t j rows) in let F = filter (other j) (numbers_in t rows) in
    numbers-cons t r (without t j rows) ∙ (ap (λ z. cond z (r.number ∷ W) W) (sym e) ∙ (ap (λ z. r.number ∷ z) h ∙ ap (λ z. cond (if z then false else true) (r.number ∷ F) F) f))
without-step t j r rows false d e f h =
    let W = numbers_in t (without t j rows) in
    numbers-cons t r (without t j rows) ∙ (ap (λ z. cond z (r.number ∷ W) W) (sym e) ∙ h)

numbers-without : (t j : ℕ) (rows : List Row) → numbers_in t (without t j rows) ≡ filter (other j) (numbers_in t rows)
numbers-without t j [] = refl
numbers-without t j (r ∷ rows) =
    without-step t j r rows (r.client == t) (r.number == j) refl refl (numbers-without t j rows) ∙ ap (filter (other j)) (sym (numbers-cons t r rows))

without-none : (t j : ℕ) (rows : List Row) → has_pair t j rows ≡ false → without t j rows ≡ rows
without-none t j [] e = refl
without-none t j (r ∷ rows) e =
    either (λ zs. zs ≡ r ∷ rows) (not (is_pair t j r)) (r ∷ without t j rows) (without t j rows)
    (λ y. ap (λ z. r ∷ z) (without-none t j rows (or-no (is_pair t j r) (has_pair t j rows) e)))
    (λ n. apart (has_pair-from t j (r ∷ rows) r Here (pair n).0 (pair n).1) e)
  where
    or-no : (a b : Bool) → (a || b) ≡ false → b ≡ false
    or-no true b f = apart refl f
    or-no false b f = f

    pair : not (is_pair t j r) ≡ false → (r.client ≡ t) × (r.number ≡ j)
    pair n = let h = and_parts (r.client == t) (r.number == j) (not-false _ n) in (eqb-true r.client t h.0, eqb-true r.number j h.1)

both-without : (t j : ℕ) (held waiting : List Row) → numbers_in t (without t j held ++ without t j waiting) ≡ filter (other j) (numbers_in t (held ++ waiting))
both-without t j held waiting =
    numbers-append t (without t j held) (without t j waiting)
    ∙ (ap₂ (λ x y. x ++ y) (numbers-without t j held) (numbers-without t j waiting)
    ∙ (sym (filter-append (other j) (numbers_in t held) (numbers_in t waiting)) ∙ ap (filter (other j)) (sym (numbers-append t held waiting))))

own-number : (t n : ℕ) (name : List ℕ) (mode : Mode) → numbers_in t (row_of t n name mode ∷ []) ≡ n ∷ []
own-number t n name mode = ap (λ b. map (λ (r : Row). r.number) (cond b (row_of t n name mode ∷ []) [])) (eq-eqb t t refl)

one-more : (t n : ℕ) (r : Row) (front back : List Row) → numbers_in t (r ∷ []) ≡ n ∷ [] → Within (numbers_in t (front ++ r ∷ back)) (n ∷ numbers_in t (front ++ back))
one-more t n r front back e = record {
  most = λ p.
      let a = weight-append p t front (r ∷ back) in
      let b = weight-append p t (r ∷ []) back in
      let c = weight-append p t front back in
      let d = ap (λ z. length (filter p z)) e in
      let f = ap length (filter-append p (n ∷ []) (numbers_in t (front ++ back))) ∙ length-append (filter p (n ∷ [])) (filter p (numbers_in t (front ++ back))) in
      omega (arith, a, b, c, d, f);
}

pub drafted-within : (t n : ℕ) (o : Operation) (m : Locks) → ((j : ℕ) → o ≡ Release j → has_pair t j m.waiting ≡ false)
    → Within (numbers_at (drafted t n o m) t) (numbered_after o n (numbers_at m t))
unfolding queued probed released aborted
drafted-within t n (Request mode true name) m free =
    let r = row_of t n name mode in
    either (λ (z : Locks). Within (numbers_at z t) (n ∷ numbers_at m t)) (is_grantable m.held m.waiting r) (record { held = m.held ++ r ∷ []; waiting = m.waiting }) m
    (λ _. subst (λ z. Within (numbers_in t z) (n ∷ numbers_at m t)) (sym (append_assoc m.held (r ∷ []) m.waiting)) (one-more t n r m.held m.waiting (own-number t n name mode)))
    (λ _. within-grow n (numbers_at m t))
drafted-within t n (Request mode false name) m free =
    let r = row_of t n name mode in
    subst (λ z. Within (numbers_in t z) (n ∷ numbers_at m t)) (append_assoc m.held m.waiting (r ∷ []))
    (subst (λ z. Within (numbers_in t ((m.held ++ m.waiting) ++ r ∷ [])) (n ∷ numbers_in t z)) (append-nil (m.held ++ m.waiting)) (one-more t n r (m.held ++ m.waiting) [] (own-number t n name mode)))
drafted-within t n (Release j) m free =
    within-same (numbers_in t (without t j m.held ++ m.waiting)) (filter (other j) (numbers_at m t))
    (ap (λ z. numbers_in t (without t j m.held ++ z)) (sym (without-none t j m.waiting (free j refl))) ∙ both-without t j m.held m.waiting)
drafted-within t n (Abort j) m free = within-same (numbers_in t (without t j m.held ++ without t j m.waiting)) (filter (other j) (numbers_at m t)) (both-without t j m.held m.waiting)
drafted-within t n Query m free = within-same (numbers_at m t) (numbers_at m t) refl

-- Pairs

pair-append : (t k : ℕ) (rows more : List Row) → has_pair t k rows ≡ true → has_pair t k (rows ++ more) ≡ true
pair-append t k rows more e = let o = has_pair-true t k rows e in has_pair-from t k (rows ++ more) o.0 (In-append_left more o.1) o.2 o.3

pair-without : (t k j : ℕ) (rows : List Row) → (j == k) ≡ false → has_pair t k rows ≡ true → has_pair t k (without t j rows) ≡ true
pair-without t k j rows d e =
    let o = has_pair-true t k rows e in has_pair-from t k (without t j rows) o.0 (without-keeps t j rows o.1 (λ f. eqb-false j k d (sym f.1 ∙ o.3))) o.2 o.3

pub drafted-waiting : (t n k : ℕ) (o : Operation) (m : Locks) → ends_at k o ≡ false → has_pair t k m.waiting ≡ true → has_pair t k (drafted t n o m).waiting ≡ true
unfolding queued probed released aborted
drafted-waiting t n k (Request mode true name) m d e =
    let r = row_of t n name mode in
    either (λ (z : Locks). has_pair t k z.waiting ≡ true) (is_grantable m.held m.waiting r) (record { held = m.held ++ r ∷ []; waiting = m.waiting }) m (λ _. e) (λ _. e)
drafted-waiting t n k (Request mode false name) m d e = pair-append t k m.waiting (row_of t n name mode ∷ []) e
drafted-waiting t n k (Release j) m d e = e
drafted-waiting t n k (Abort j) m d e = pair-without t k j m.waiting d e
drafted-waiting t n k Query m d e = e

pub drafted-held : (t n k : ℕ) (o : Operation) (m : Locks) → ends_at k o ≡ false → has_pair t k m.held ≡ true → has_pair t k (drafted t n o m).held ≡ true
unfolding queued probed released aborted
drafted-held t n k (Request mode true name) m d e =
    let r = row_of t n name mode in
    either (λ (z : Locks). has_pair t k z.held ≡ true) (is_grantable m.held m.waiting r) (record { held = m.held ++ r ∷ []; waiting = m.waiting }) m (λ _. pair-append t k m.held (r ∷ []) e) (λ _. e)
drafted-held t n k (Request mode false name) m d e = e
drafted-held t n k (Release j) m d e = pair-without t k j m.held d e
drafted-held t n k (Abort j) m d e = pair-without t k j m.held d e
drafted-held t n k Query m d e = e

pub drafted-stands-at : (t n k : ℕ) (o : Operation) (m : Locks) → ends_at k o ≡ false → stands_at m t k ≡ true → stands_at (drafted t n o m) t k ≡ true
drafted-stands-at t n k o m d e =
    let x = drafted t n o m in
    ⊎_elim (λ h. or_left (has_pair t k x.held) (has_pair t k x.waiting) (drafted-held t n k o m d h))
    (λ h. or_right (has_pair t k x.held) (has_pair t k x.waiting) (drafted-waiting t n k o m d h))
    (or_cases (has_pair t k m.held) (has_pair t k m.waiting) e)

-- A request stands in the queue.
pub request-stands : (t n : ℕ) (o : Operation) (m : Locks) → is_request o ≡ true → stands_at (drafted t n o m) t n ≡ true
unfolding queued
request-stands t n (Request mode true name) m e = apart e refl
request-stands t n (Request mode false name) m e =
    let r = row_of t n name mode in
    or_right (has_pair t n m.held) (has_pair t n (m.waiting ++ r ∷ [])) (has_pair-from t n (m.waiting ++ r ∷ []) r (In-append_right m.waiting Here) refl refl)
request-stands t n (Release j) m e = apart e refl
request-stands t n (Abort j) m e = apart e refl
request-stands t n Query m e = apart e refl

-- Only a request waits more than before.
pub waiting-before : (t n k : ℕ) (o : Operation) (m : Locks) → is_request o ≡ false → has_pair t k m.waiting ≡ false → has_pair t k (drafted t n o m).waiting ≡ false
unfolding probed released aborted
waiting-before t n k (Request mode true name) m r e =
    let y = row_of t n name mode in
    either (λ (z : Locks). has_pair t k z.waiting ≡ false) (is_grantable m.held m.waiting y) (record { held = m.held ++ y ∷ []; waiting = m.waiting }) m (λ _. e) (λ _. e)
waiting-before t n k (Request mode false name) m r e = apart refl r
waiting-before t n k (Release j) m r e = e
waiting-before t n k (Abort j) m r e =
    false_from_ne_true _ (λ y. let o = has_pair-true t k (without t j m.waiting) y in apart (has_pair-from t k m.waiting o.0 (without-fewer t j m.waiting o.1) o.2 o.3) e)
waiting-before t n k Query m r e = e
