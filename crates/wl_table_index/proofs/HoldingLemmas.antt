-- Places of a client's entries after a place is added, removed or changed.
use Rattle.std.proofs.Common.{rules, ◌≡◌, ℕ, ◌+◌, ◌<◌, ◌≤◌, Bool, true, false, not, ◌&&◌, ◌||◌, cond, List, [], ◌∷◌, ◌++◌, length, map, filter, take, get_or, Option, Some, None, refl, suc, zero, sym, ap, ◌∙◌, arith}
use Rattle.std.specs.Prelude.{◌==◌, nat_lt, nat_eq, slice_get, is_some, IsSome, IfSome, IfNone}
use Rattle.std.specs.HashMap.{get}
use Rattle.std.proofs.lemmas.Bool.Decides.{nat_tests}
use Rattle.std.proofs.lemmas.List.{take_more}
use Rattle.std.proofs.lemmas.List.Folds.{list_any-append}
use Rattle.wl_table_index.specs.declared.holdings.Place.{Place}
use Rattle.wl_table_index.specs.declared.holdings.FurtherPlace.{FurtherPlace}
use Rattle.wl_table_index.specs.declared.holdings.Holdings.{Holdings}
use Rattle.wl_table_index.specs.declared.holdings.Removal.TheVariants.{Release, Abort}
use Rattle.wl_table_index.specs.Clients.{has_place, is_same, is_place, is_latest, is_further, granted_place, granted_further, lesser_of, takes, IsLeast, IsTaken}

pub same-order : (j k : ℕ) → (j == k) ≡ true → j ≡ k
same-order j k e = grind (arith, nat_tests)

pub no-truth : false ≡ true → ⊥
no-truth e = cc

abbrev is_one : FurtherPlace → ℕ → ℕ → Bool → Bool
is_one f number order held = f.number == number && is_place f.place order held

or-first : (a b : Bool) → a ≡ true → (a || b) ≡ true
or-first a b e = rw e refl

or-second : (a b : Bool) → b ≡ true → (a || b) ≡ true
or-second true b e = refl
or-second false b e = e

place-self : (order : ℕ) (held : Bool) → is_place (record { order = order; is_held = held }) order held ≡ true
place-self order true = grind (arith, nat_tests)
place-self order false = grind (arith, nat_tests)

pub has-latest : (h : Holdings) (number : ℕ) (p : Place) → get nat_eq h.places number ≡ Some p → has_place h number p.order p.is_held ≡ true
has-latest h number p e = or-first _ _ (ap (λ o. is_latest o p.order p.is_held) e ∙ place-self p.order p.is_held)

further-first : (fs : List FurtherPlace) (f : FurtherPlace) → Some f ≡ slice_get fs 0 → is_further fs f.number f.place.order f.place.is_held ≡ true
further-first [] f e = absurd (no-first f e)
  where
    no-first : (f : FurtherPlace) → Some f ≡ None → ⊥
    no-first f e = cc
further-first (g ∷ gs) f e =
    let same : f ≡ g = same-first f g e in
    or-first _ _ (ap (λ x. is_one g x.number x.place.order x.place.is_held) same ∙ here g.number g.place.order g.place.is_held)
  where
    same-first : (f g : FurtherPlace) → Some f ≡ Some g → f ≡ g
    same-first f g e = cc

    here : (number order : ℕ) (held : Bool) → (number == number && is_place (record { order = order; is_held = held }) order held) ≡ true
    here number order held = grind (arith, nat_tests, place-self order held)

pub has-further : (h : Holdings) (f : FurtherPlace) → Some f ≡ slice_get h.further.items 0 → has_place h f.number f.place.order f.place.is_held ≡ true
has-further h f e = or-second _ _ (further-first h.further.items f e)

-- Least order number

further-last : (number order : ℕ) (held : Bool) (fs : List FurtherPlace) (f : FurtherPlace) → is_further (fs ++ f ∷ []) number order held ≡ (is_further fs number order held || is_one f number order held)
further-last number order held fs f = grind (arith, list_any-append {X = FurtherPlace})

further-more : (number order : ℕ) (held : Bool) (fs : List FurtherPlace) (i : ℕ) (f : FurtherPlace) → i < length fs → f ≡ get_or fs i f → is_further (take (i + 1) fs) number order held ≡ (is_further (take i fs) number order held || is_one f number order held)
further-more number order held fs i f l e =
    let t : take (i + 1) fs ≡ take i fs ++ f ∷ [] = take_more fs i f l ∙ ap (λ x. take i fs ++ x ∷ []) (sym e) in
    rw t (further-last number order held (take i fs) f)

pub least-same : (test other : ℕ → Bool) (least : Option ℕ) → ((k : ℕ) → other k ≡ test k) → IsLeast test least → IsLeast other least
least-same test other None e l = λ k. e k ∙ l k
least-same test other (Some o) e l = (e o ∙ l.0, λ k t. l.1 k (sym (e k) ∙ t))

lesser-here : (order : ℕ) (x : ℕ) (b : Bool) → nat_lt x order ≡ b → (lesser_of order (Some x) ≤ order) × (lesser_of order (Some x) ≤ x)
lesser-here order x true e = rw e (grind (arith, nat_tests), grind (arith, nat_tests))
lesser-here order x false e = rw e (grind (arith, nat_tests), grind (arith, nat_tests))

lesser-found : (test : ℕ → Bool) (order x : ℕ) (b : Bool) → nat_lt x order ≡ b → test x ≡ true → (test (lesser_of order (Some x)) || order == lesser_of order (Some x)) ≡ true
lesser-found test order x true e t = rw e (rw t refl)
lesser-found test order x false e t = rw e (last (test order) order)
  where
    last : (b : Bool) (k : ℕ) → (b || k == k) ≡ true
    last true k = refl
    last false k = grind (arith, nat_tests)

found-or : (a b : Bool) → (a || b) ≡ true → a ≡ false → b ≡ true
found-or a b e f = rw f at e

order-or : (test : ℕ → Bool) (order k low : ℕ) (b : Bool) → test k ≡ b → (test k || order == k) ≡ true → low ≤ order → (test k ≡ true → low ≤ k) → low ≤ k
order-or test order k low true e t l f = f e
order-or test order k low false e t l f =
    let s : order ≡ k = same-order order k (found-or (test k) (order == k) t e) in
    omega arith

least-step : (test : ℕ → Bool) (order : ℕ) (least : Option ℕ) → IsLeast test least → IsLeast (λ k. test k || order == k) (Some (lesser_of order least))
least-step test order None l = (last (test order) order, λ k t. order-or test order k order (test k) refl t (omega arith) (λ e. absurd (no-truth (sym (l k) ∙ e))))
  where
    last : (b : Bool) (k : ℕ) → (b || k == k) ≡ true
    last true k = refl
    last false k = grind (arith, nat_tests)
least-step test order (Some x) l =
    let h = lesser-here order x (nat_lt x order) refl in
    (lesser-found test order x (nat_lt x order) refl l.0, λ k t. order-or test order k (lesser_of order (Some x)) (test k) refl t h.0 (below k h.1))
  where
    below : (k : ℕ) → lesser_of order (Some x) ≤ x → test k ≡ true → lesser_of order (Some x) ≤ k
    below k h e = let m = l.1 k e in omega arith

one-here : (number k : ℕ) (held : Bool) (f : FurtherPlace) → (f.number == number) ≡ true → is_same f.place.is_held held ≡ true → is_one f number k held ≡ (f.place.order == k)
one-here number k held f e h = rw (e, h) refl

one-away : (number k : ℕ) (held : Bool) (f : FurtherPlace) → (f.number == number && is_same f.place.is_held held) ≡ false → is_one f number k held ≡ false
one-away number k held f e = away (f.number == number) (is_same f.place.is_held held) (f.place.order == k) e
  where
    away : (a b d : Bool) → (a && b) ≡ false → (a && (b && d)) ≡ false
    away true true d e = cc
    away true false d e = refl
    away false b d e = refl

or-right : (a b : Bool) → b ≡ false → (a || b) ≡ a
or-right true b e = refl
or-right false b e = e

or-assoc : (a b d : Bool) → (a || (b || d)) ≡ ((a || b) || d)
or-assoc true b d = refl
or-assoc false b d = refl

-- The search goes on past a place of this number.
pub least-more : (place : Option Place) (number : ℕ) (held : Bool) (fs : List FurtherPlace) (i : ℕ) (f : FurtherPlace) (least : Option ℕ) → i < length fs → f ≡ get_or fs i f → (f.number == number) ≡ true → is_same f.place.is_held held ≡ true → IsLeast (λ o. is_latest place o held || is_further (take i fs) number o held) least → IsLeast (λ o. is_latest place o held || is_further (take (i + 1) fs) number o held) (Some (lesser_of f.place.order least))
least-more place number held fs i f least l e n h m =
    least-same (λ o. (is_latest place o held || is_further (take i fs) number o held) || f.place.order == o)
    (λ o. is_latest place o held || is_further (take (i + 1) fs) number o held)
    (Some (lesser_of f.place.order least))
    (λ o. ap (λ b. is_latest place o held || b) (further-more number o held fs i f l e ∙ ap (λ b. is_further (take i fs) number o held || b) (one-here number o held f n h)) ∙ or-assoc (is_latest place o held) (is_further (take i fs) number o held) (f.place.order == o))
    (least-step (λ o. is_latest place o held || is_further (take i fs) number o held) f.place.order least m)

-- The search goes on past any other place.
pub least-past : (place : Option Place) (number : ℕ) (held : Bool) (fs : List FurtherPlace) (i : ℕ) (f : FurtherPlace) (least : Option ℕ) → i < length fs → f ≡ get_or fs i f → (f.number == number && is_same f.place.is_held held) ≡ false → IsLeast (λ o. is_latest place o held || is_further (take i fs) number o held) least → IsLeast (λ o. is_latest place o held || is_further (take (i + 1) fs) number o held) least
least-past place number held fs i f least l e n m =
    least-same (λ o. is_latest place o held || is_further (take i fs) number o held)
    (λ o. is_latest place o held || is_further (take (i + 1) fs) number o held)
    least
    (λ o. ap (λ b. is_latest place o held || b) (further-more number o held fs i f l e ∙ or-right (is_further (take i fs) number o held) (is_one f number o held) (one-away number o held f n)))
    m

-- The search begins with the latest place.
pub least-latest : (p : Place) (held : Bool) → is_same p.is_held held ≡ true → IsLeast (λ o. is_latest (Some p) o held) (Some p.order)
least-latest p held e = (rw e (self p.order), λ k t. within p.order k (rw e at t))
  where
    self : (k : ℕ) → (k == k) ≡ true
    self k = grind (arith, nat_tests)

    within : (j k : ℕ) → (j == k) ≡ true → j ≤ k
    within j k t = grind (arith, nat_tests)

pub least-other : (p : Place) (held : Bool) → is_same p.is_held held ≡ false → IsLeast (λ o. is_latest (Some p) o held) None
least-other p held e = λ k. rw e refl

pub least-first : (place : Option Place) (held : Bool) (least : Option ℕ) → IsLeast (λ o. is_latest place o held) least → IsLeast (λ o. is_latest place o held || false) least
least-first place held least l = least-same (λ o. is_latest place o held) (λ o. is_latest place o held || false) least (λ o. or-right (is_latest place o held) false refl) l

pub get-any : {X : Type 0} (xs : List X) (i : ℕ) (x : X) → get_or xs i x ≡ get_or xs i (get_or xs i x)
get-any [] zero x = refl
get-any [] (suc i) x = refl
get-any (y ∷ ys) zero x = refl
get-any (y ∷ ys) (suc i) x = get-any ys i x

pub is-same : (j k : ℕ) → j ≡ k → (j == k) ≡ true
is-same j k e = grind (arith, nat_tests)

pub not-first : (j k : ℕ) (b : Bool) → (j ≡ k → ⊥) → (j == k && b) ≡ false
not-first j k b f = step (j == k) b refl
  where
    step : (a b : Bool) → (j == k) ≡ a → (a && b) ≡ false
    step true b e = absurd (f (same-order j k e))
    step false b e = refl

pub not-second : (a b : Bool) → b ≡ false → (a && b) ≡ false
not-second true b e = e
not-second false b e = refl

-- The search ends.
pub least-all : (place : Option Place) (number : ℕ) (held : Bool) (fs part : List FurtherPlace) (least : Option ℕ) → part ≡ fs → IsLeast (λ o. is_latest place o held || is_further part number o held) least → IsLeast (λ o. is_latest place o held || is_further fs number o held) least
least-all place number held fs part least e l =
    least-same (λ o. is_latest place o held || is_further part number o held) (λ o. is_latest place o held || is_further fs number o held) least (λ o. ap (λ xs. is_latest place o held || is_further xs number o held) (sym e)) l

pub least-some : (test : ℕ → Bool) (o : Option ℕ) → IsLeast test o → is_some o ≡ true → (k : ℕ) × (test k ≡ true)
least-some test (Some k) l e = (k, l.0)
least-some test None l e = absurd (no-truth e)

pub least-none : (test : ℕ → Bool) (o : Option ℕ) → IsLeast test o → is_some o ≡ false → (k : ℕ) → test k ≡ false
least-none test (Some k) l e = λ j. absurd (no-truth (sym e))
least-none test None l e = l

-- Entries that a command removes

pub number-self : (number : ℕ) → (number == number) ≡ true
number-self number = grind (arith, nat_tests)

pub taken-held : (h : Holdings) (number : ℕ) (o : Option Place) → IfSome o (λ p. has_place h number p.order true ≡ true) → IfSome o (λ p. p.is_held ≡ true) → IfSome o (λ p. IsTaken (Release number) (has_place h) p)
taken-held h number None there held = search rules
taken-held h number (Some p) there held = record {
  number = number;
  there = ap (λ b. has_place h number p.order b) held ∙ there;
  taken = rw (held, number-self number) refl;
}

pub taken-number : (h : Holdings) (number : ℕ) (o : Option Place) → IfSome o (λ p. has_place h number p.order p.is_held ≡ true) → IfSome o (λ p. IsTaken (Abort number) (has_place h) p)
taken-number h number None there = search rules
taken-number h number (Some p) there = record { number = number; there = there; taken = number-self number }

held-none : (has : ℕ → ℕ → Bool → Bool) (number n o : ℕ) (b : Bool) → ((k : ℕ) → has number k true ≡ false) → takes (Release number) b n ≡ true → has n o b ≡ false
held-none has number n o true none t = ap (λ m. has m o true) (same-order n number t) ∙ none o
held-none has number n o false none t = absurd (no-truth t)

pub none-held : (has : ℕ → ℕ → Bool → Bool) (number : ℕ) (o : Option Place) → IfNone o ((k : ℕ) → has number k true ≡ false) → IfNone o ((n o : ℕ) (b : Bool) → takes (Release number) b n ≡ true → has n o b ≡ false)
none-held has number (Some p) none = search rules
none-held has number None none = λ n o b t. held-none has number n o b none t

pub none-number : (has : ℕ → ℕ → Bool → Bool) (number : ℕ) (o : Option Place) → IfNone o ((k : ℕ) (b : Bool) → has number k b ≡ false) → IfNone o ((n o : ℕ) (b : Bool) → takes (Abort number) b n ≡ true → has n o b ≡ false)
none-number has number (Some p) none = search rules
none-number has number None none = λ n o b t. ap (λ m. has m o b) (same-order n number t) ∙ none o b

pub none-both : (has : ℕ → Bool → Bool) → ((k : ℕ) → has k true ≡ false) → ((k : ℕ) → has k false ≡ false) → (k : ℕ) (b : Bool) → has k b ≡ false
none-both has held waiting k true = held k
none-both has held waiting k false = waiting k

-- One more place

or-turn : (a b d : Bool) → (a || (d || b)) ≡ (a || (b || d))
or-turn true b d = refl
or-turn false true true = refl
or-turn false true false = refl
or-turn false false true = refl
or-turn false false false = refl

pub pushed-new : (number n o : ℕ) (b : Bool) (p : Place) (was now : Option Place) (f hit : Bool) → (number == n) ≡ hit → now ≡ cond (number == n) (Some p) was → (hit ≡ true → was ≡ None) → (is_latest now o b || f) ≡ ((number == n && is_place p o b) || (is_latest was o b || f))
pushed-new number n o b p was now f true s e w = rw (e, s, w refl) refl
pushed-new number n o b p was now f false s e w = rw (e, s) refl

pub pushed-again : (number n o : ℕ) (b : Bool) (p other : Place) (was now : Option Place) (f g hit : Bool) → (number == n) ≡ hit → now ≡ cond (number == n) (Some p) was → (hit ≡ true → was ≡ Some other) → g ≡ (f || (number == n && is_place other o b)) → (is_latest now o b || g) ≡ ((number == n && is_place p o b) || (is_latest was o b || f))
pushed-again number n o b p other was now f g true s e w h =
    rw (e, h, s, w refl) (or-turn (is_place p o b) (is_place other o b) f)
pushed-again number n o b p other was now f g false s e w h =
    rw (e, h, s) (ap (λ x. is_latest was o b || x) (or-right f false refl))

pub further-pushed : (number n o : ℕ) (b : Bool) (other : Place) (fs : List FurtherPlace) → is_further (fs ++ (record { number = number; place = other }) ∷ []) n o b ≡ (is_further fs n o b || (number == n && is_place other o b))
further-pushed number n o b other fs = further-last n o b fs (record { number = number; place = other })

-- One place less

abbrev pub is_kept : ℕ → Place → FurtherPlace → Bool
is_kept number p f = not (f.number == number && is_place f.place p.order p.is_held)

gone-step : (fn fo n o number order : ℕ) (fh b ph : Bool) → cond (not (fn == number && (is_same fh ph && fo == order))) (fn == n && (is_same fh b && fo == o)) false ≡ (not (number == n && (is_same ph b && order == o)) && (fn == n && (is_same fh b && fo == o)))
gone-step fn fo n o number order true true true = grind (arith, nat_tests)
gone-step fn fo n o number order true true false = grind (arith, nat_tests)
gone-step fn fo n o number order true false true = grind (arith, nat_tests)
gone-step fn fo n o number order true false false = grind (arith, nat_tests)
gone-step fn fo n o number order false true true = grind (arith, nat_tests)
gone-step fn fo n o number order false true false = grind (arith, nat_tests)
gone-step fn fo n o number order false false true = grind (arith, nat_tests)
gone-step fn fo n o number order false false false = grind (arith, nat_tests)

filtered-step : (t : Bool) (fs : List FurtherPlace) (f : FurtherPlace) (n o : ℕ) (h : Bool) → is_further (cond t (f ∷ fs) fs) n o h ≡ (cond t (is_one f n o h) false || is_further fs n o h)
filtered-step true fs f n o h = refl
filtered-step false fs f n o h = refl

and-or : (a b d : Bool) → ((a && b) || (a && d)) ≡ (a && (b || d))
and-or true b d = refl
and-or false b d = refl

pub further-removed : (number n o : ℕ) (b : Bool) (p : Place) (fs : List FurtherPlace) → is_further (filter (is_kept number p) fs) n o b ≡ (not (number == n && is_place p o b) && is_further fs n o b)
further-removed number n o b p [] = none (not (number == n && is_place p o b))
  where
    none : (a : Bool) → false ≡ (a && false)
    none true = refl
    none false = refl
further-removed number n o b p (f ∷ fs) =
    filtered-step (is_kept number p f) (filter (is_kept number p) fs) f n o b ∙ ap (λ x. x || is_further (filter (is_kept number p) fs) n o b) (gone-step f.number f.place.order n o number p.order f.place.is_held b p.is_held) ∙ ap (λ x. (not (number == n && is_place p o b) && is_one f n o b) || x) (further-removed number n o b p fs) ∙ and-or (not (number == n && is_place p o b)) (is_one f n o b) (is_further fs n o b)

latest-step : (number n o : ℕ) (b : Bool) (p q : Place) → (number == n) ≡ true → is_place q p.order p.is_held ≡ false → is_place q o b ≡ (not (number == n && is_place p o b) && is_place q o b)
latest-step number n o b p q e k =
    let s : number ≡ n = same-order number n e in
    let t : cond (not (number == number && is_place q p.order p.is_held)) (number == n && is_place q o b) false ≡ (not (number == n && is_place p o b) && (number == n && is_place q o b)) = gone-step number q.order n o number p.order q.is_held b p.is_held in
    plain (number == number) (number == n) (is_place q p.order p.is_held) (is_place q o b) (not (number == n && is_place p o b)) e k t
  where
    plain : (a hit k x y : Bool) → hit ≡ true → k ≡ false → cond (not (a && k)) (hit && x) false ≡ (y && (hit && x)) → x ≡ (y && x)
    plain a hit k x y e f t = step a x y (rw (e, f) at t)
      where
        step : (a x y : Bool) → cond (not (a && false)) x false ≡ (y && x) → x ≡ (y && x)
        step true x y t = t
        step false x y t = t

latest-kept : (number n o : ℕ) (b : Bool) (p : Place) (was : Option Place) (hit : Bool) → (number == n) ≡ hit → (hit ≡ true → is_latest was p.order p.is_held ≡ false) → is_latest was o b ≡ (not (number == n && is_place p o b) && is_latest was o b)
latest-kept number n o b p None hit e k = none (not (number == n && is_place p o b))
  where
    none : (a : Bool) → false ≡ (a && false)
    none true = refl
    none false = refl
latest-kept number n o b p (Some q) true e k = latest-step number n o b p q e (k refl)
latest-kept number n o b p (Some q) false e k = rw e refl

place-same : (o : ℕ) (b : Bool) (p q : Place) → is_place q p.order p.is_held ≡ true → (not (is_place p o b) && is_place q o b) ≡ false
place-same o b p q e = same p.order q.order o p.is_held q.is_held b e
  where
    same : (po qo o : ℕ) (ph qh b : Bool) → (is_same qh ph && qo == po) ≡ true → (not (is_same ph b && po == o) && (is_same qh b && qo == o)) ≡ false
    same po qo o true true true e = grind (arith, nat_tests)
    same po qo o true true false e = grind (arith, nat_tests)
    same po qo o true false b e = cc
    same po qo o false true b e = cc
    same po qo o false false true e = grind (arith, nat_tests)
    same po qo o false false false e = grind (arith, nat_tests)

latest-gone : (number n o : ℕ) (b : Bool) (p q : Place) (was now : Option Place) (hit : Bool) → (number == n) ≡ hit → now ≡ cond (number == n) None was → (hit ≡ true → was ≡ Some q) → is_place q p.order p.is_held ≡ true → is_latest now o b ≡ (not (number == n && is_place p o b) && is_latest was o b)
latest-gone number n o b p q was now true s e w k = rw (e, s, w refl) (sym (place-same o b p q k))
latest-gone number n o b p q was now false s e w k = rw (e, s) refl

-- The latest place stays.
pub removed-kept : (number n o : ℕ) (b : Bool) (p : Place) (was : Option Place) (fs : List FurtherPlace) → ((number == n) ≡ true → is_latest was p.order p.is_held ≡ false) → (is_latest was o b || is_further (filter (is_kept number p) fs) n o b) ≡ (not (number == n && is_place p o b) && (is_latest was o b || is_further fs n o b))
removed-kept number n o b p was fs k =
    ap (λ x. x || is_further (filter (is_kept number p) fs) n o b) (latest-kept number n o b p was (number == n) refl k) ∙ ap (λ x. (not (number == n && is_place p o b) && is_latest was o b) || x) (further-removed number n o b p fs) ∙ and-or (not (number == n && is_place p o b)) (is_latest was o b) (is_further fs n o b)

-- The latest place is removed.
pub removed-latest : (number n o : ℕ) (b : Bool) (p q : Place) (was now : Option Place) (fs : List FurtherPlace) → now ≡ cond (number == n) None was → ((number == n) ≡ true → was ≡ Some q) → is_place q p.order p.is_held ≡ true → (is_latest now o b || is_further (filter (is_kept number p) fs) n o b) ≡ (not (number == n && is_place p o b) && (is_latest was o b || is_further fs n o b))
removed-latest number n o b p q was now fs s w k =
    ap (λ x. x || is_further (filter (is_kept number p) fs) n o b) (latest-gone number n o b p q was now (number == n) refl s w k) ∙ ap (λ x. (not (number == n && is_place p o b) && is_latest was o b) || x) (further-removed number n o b p fs) ∙ and-or (not (number == n && is_place p o b)) (is_latest was o b) (is_further fs n o b)

-- A request is granted

one-granted_held : (fn fo n o number order granted : ℕ) (fh : Bool) → is_one (granted_further number order granted (record { number = fn; place = record { order = fo; is_held = fh } })) n o true ≡ (is_one (record { number = fn; place = record { order = fo; is_held = fh } }) n o true || (is_one (record { number = fn; place = record { order = fo; is_held = fh } }) number order false && (number == n && granted == o)))
one-granted_held fn fo n o number order granted true = grind (arith, nat_tests)
one-granted_held fn fo n o number order granted false = grind (arith, nat_tests)

one-granted_waiting : (fn fo n o number order granted : ℕ) (fh : Bool) → is_one (granted_further number order granted (record { number = fn; place = record { order = fo; is_held = fh } })) n o false ≡ (not (number == n && order == o) && is_one (record { number = fn; place = record { order = fo; is_held = fh } }) n o false)
one-granted_waiting fn fo n o number order granted true = grind (arith, nat_tests)
one-granted_waiting fn fo n o number order granted false = grind (arith, nat_tests)

or-and : (a b d x y : Bool) → ((a || (b && x)) || (d || (y && x))) ≡ ((a || d) || ((b || y) && x))
or-and true b d x y = refl
or-and false true true true y = refl
or-and false true true false y = refl
or-and false true false true y = refl
or-and false true false false true = refl
or-and false true false false false = refl
or-and false false d x y = refl

further-granted_held : (number order granted n o : ℕ) (fs : List FurtherPlace) → is_further (map (granted_further number order granted) fs) n o true ≡ (is_further fs n o true || (is_further fs number order false && (number == n && granted == o)))
further-granted_held number order granted n o [] = refl
further-granted_held number order granted n o (f ∷ fs) =
    ap (λ x. x || is_further (map (granted_further number order granted) fs) n o true) (one-granted_held f.number f.place.order n o number order granted f.place.is_held) ∙ ap (λ x. (is_one f n o true || (is_one f number order false && (number == n && granted == o))) || x) (further-granted_held number order granted n o fs) ∙ or-and (is_one f n o true) (is_one f number order false) (is_further fs n o true) (number == n && granted == o) (is_further fs number order false)

further-granted_waiting : (number order granted n o : ℕ) (fs : List FurtherPlace) → is_further (map (granted_further number order granted) fs) n o false ≡ (not (number == n && order == o) && is_further fs n o false)
further-granted_waiting number order granted n o [] = none (not (number == n && order == o))
  where
    none : (a : Bool) → false ≡ (a && false)
    none true = refl
    none false = refl
further-granted_waiting number order granted n o (f ∷ fs) =
    ap (λ x. x || is_further (map (granted_further number order granted) fs) n o false) (one-granted_waiting f.number f.place.order n o number order granted f.place.is_held) ∙ ap (λ x. (not (number == n && order == o) && is_one f n o false) || x) (further-granted_waiting number order granted n o fs) ∙ and-or (not (number == n && order == o)) (is_one f n o false) (is_further fs n o false)

-- The latest place of a number, if there is one, is changed.
abbrev pub granted_latest : ℕ → ℕ → Option Place → Option Place
granted_latest order granted None = None
granted_latest order granted (Some p) = Some (granted_place order granted p)

place-granted_held : (o order granted po : ℕ) (ph : Bool) → is_place (granted_place order granted (record { order = po; is_held = ph })) o true ≡ (is_place (record { order = po; is_held = ph }) o true || (is_place (record { order = po; is_held = ph }) order false && granted == o))
place-granted_held o order granted po true = grind (arith, nat_tests)
place-granted_held o order granted po false = grind (arith, nat_tests)

place-granted_waiting : (o order granted po : ℕ) (ph : Bool) → is_place (granted_place order granted (record { order = po; is_held = ph })) o false ≡ (not (order == o) && is_place (record { order = po; is_held = ph }) o false)
place-granted_waiting o order granted po true = grind (arith, nat_tests)
place-granted_waiting o order granted po false = grind (arith, nat_tests)

latest-granted_held : (o order granted : ℕ) (was : Option Place) → is_latest (granted_latest order granted was) o true ≡ (is_latest was o true || (is_latest was order false && granted == o))
latest-granted_held o order granted None = refl
latest-granted_held o order granted (Some p) = place-granted_held o order granted p.order p.is_held

latest-granted_waiting : (o order granted : ℕ) (was : Option Place) → is_latest (granted_latest order granted was) o false ≡ (not (order == o) && is_latest was o false)
latest-granted_waiting o order granted None = none (not (order == o))
  where
    none : (a : Bool) → false ≡ (a && false)
    none true = refl
    none false = refl
latest-granted_waiting o order granted (Some p) = place-granted_waiting o order granted p.order p.is_held

-- `was` is the latest place of the number `n`, and `mine` that of the granted number.
held-step : (number n o order granted : ℕ) (was mine : Option Place) (fs : List FurtherPlace) (hit : Bool) → (number == n) ≡ hit → (hit ≡ true → was ≡ mine) → (is_latest mine order false || is_further fs number order false) ≡ true → (is_latest (cond (number == n) (granted_latest order granted mine) was) o true || is_further (map (granted_further number order granted) fs) n o true) ≡ ((number == n && granted == o) || (is_latest was o true || is_further fs n o true))
held-step number n o order granted was mine fs true e same there =
    rw (e, same refl) (ap (λ x. x || is_further (map (granted_further number order granted) fs) n o true) (latest-granted_held o order granted mine) ∙ ap (λ x. (is_latest mine o true || (is_latest mine order false && granted == o)) || x) (further-granted_held number order granted n o fs ∙ ap (λ h. is_further fs n o true || (is_further fs number order false && (h && granted == o))) e) ∙ or-and (is_latest mine o true) (is_latest mine order false) (is_further fs n o true) (granted == o) (is_further fs number order false) ∙ ap (λ x. (is_latest mine o true || is_further fs n o true) || (x && granted == o)) there ∙ turn (is_latest mine o true || is_further fs n o true) (granted == o))
  where
    turn : (a b : Bool) → (a || b) ≡ (b || a)
    turn true true = refl
    turn true false = refl
    turn false true = refl
    turn false false = refl
held-step number n o order granted was mine fs false e same there =
    rw e (ap (λ x. is_latest was o true || x) (further-granted_held number order granted n o fs ∙ ap (λ h. is_further fs n o true || (is_further fs number order false && (h && granted == o))) e ∙ away (is_further fs n o true) (is_further fs number order false)))
  where
    away : (a b : Bool) → (a || (b && false)) ≡ a
    away true b = refl
    away false true = refl
    away false false = refl

waiting-step : (number n o order granted : ℕ) (was mine : Option Place) (fs : List FurtherPlace) (hit : Bool) → (number == n) ≡ hit → (hit ≡ true → was ≡ mine) → (is_latest (cond (number == n) (granted_latest order granted mine) was) o false || is_further (map (granted_further number order granted) fs) n o false) ≡ (not (number == n && order == o) && (is_latest was o false || is_further fs n o false))
waiting-step number n o order granted was mine fs true e same =
    rw (e, same refl) (ap (λ x. x || is_further (map (granted_further number order granted) fs) n o false) (latest-granted_waiting o order granted mine) ∙ ap (λ x. (not (order == o) && is_latest mine o false) || x) (further-granted_waiting number order granted n o fs ∙ ap (λ h. not (h && order == o) && is_further fs n o false) e) ∙ and-or (not (order == o)) (is_latest mine o false) (is_further fs n o false))
waiting-step number n o order granted was mine fs false e same =
    rw e (ap (λ x. is_latest was o false || x) (further-granted_waiting number order granted n o fs ∙ ap (λ h. not (h && order == o) && is_further fs n o false) e))

pub same-latest : {X : Type 0} (get : ℕ → Option X) (number n : ℕ) → (number == n) ≡ true → get n ≡ get number
same-latest get number n e = ap get (sym (same-order number n e))

granted-none_step : (order granted : ℕ) (was mine : Option Place) (hit : Bool) → (hit ≡ true → was ≡ mine) → mine ≡ None → was ≡ cond hit (granted_latest order granted mine) was
granted-none_step order granted was mine true w e = w refl ∙ e ∙ sym (ap (λ o. granted_latest order granted o) e)
granted-none_step order granted was mine false w e = refl

pub granted-none : (number n order granted : ℕ) (get : ℕ → Option Place) → get number ≡ None → get n ≡ cond (number == n) (granted_latest order granted (get number)) (get n)
granted-none number n order granted get e =
    granted-none_step order granted (get n) (get number) (number == n) (λ h. same-latest get number n h) e

pub place-there : (p : Place) (o : Option Place) → Some p ≡ o → IsSome o
place-there p (Some q) e = search rules
place-there p None e = absurd (no-place p e)
  where
    no-place : (p : Place) → Some p ≡ None → ⊥
    no-place p e = cc

-- All places after a request with a latest place is granted, and after one without.
pub granted-held : (number n o order granted : ℕ) (get get' : ℕ → Option Place) (fs : List FurtherPlace) → get' n ≡ cond (number == n) (granted_latest order granted (get number)) (get n) → (is_latest (get number) order false || is_further fs number order false) ≡ true → (is_latest (get' n) o true || is_further (map (granted_further number order granted) fs) n o true) ≡ ((number == n && granted == o) || (is_latest (get n) o true || is_further fs n o true))
granted-held number n o order granted get get' fs e there =
    ap (λ p. is_latest p o true || is_further (map (granted_further number order granted) fs) n o true) e ∙ held-step number n o order granted (get n) (get number) fs (number == n) refl (λ h. same-latest get number n h) there

pub granted-waiting : (number n o order granted : ℕ) (get get' : ℕ → Option Place) (fs : List FurtherPlace) → get' n ≡ cond (number == n) (granted_latest order granted (get number)) (get n) → (is_latest (get' n) o false || is_further (map (granted_further number order granted) fs) n o false) ≡ (not (number == n && order == o) && (is_latest (get n) o false || is_further fs n o false))
granted-waiting number n o order granted get get' fs e =
    ap (λ p. is_latest p o false || is_further (map (granted_further number order granted) fs) n o false) e ∙ waiting-step number n o order granted (get n) (get number) fs (number == n) refl (λ h. same-latest get number n h)
