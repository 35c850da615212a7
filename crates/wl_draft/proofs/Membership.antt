-- Lemmas on tests, on membership in lists, and on lists with given elements.
use Rattle.std.proofs.Common.{◌≡◌, ◌⊎◌, inl, inr, ⊎_elim, ℕ, zero, suc, ◌<◌, Bool, true, false, cond, List, [], ◌∷◌, ◌++◌, ◌&&◌, length, map, filter, get_or, refl, sym, ap, ap₂, ◌∙◌, subst, arith}
use Rattle.std.specs.List.{list_any, list_all}
use Rattle.std.proofs.lemmas.Bool.{false≢true, cond_both, cond-true, cond-false, and_parts, or_cases}
use Rattle.wl_draft.specs.Membership.{In, Here, Later}

-- Tests

pub apart : {b : Bool} → {A : Type 0} → b ≡ true → b ≡ false → A
apart e f = absurd (false≢true (sym f ∙ e))

-- A property of both alternatives is a property of the choice between them.
pub either : {A : Type 0} (P : A → Type 0) (b : Bool) (x y : A) → (b ≡ true → P x) → (b ≡ false → P y) → P (cond b x y)
either P b x y f g = cond_both b x y P f g

-- A statement about a test is proved by cases on the test.
pub by_test : (P : Bool → Type 0) (b : Bool) → (b ≡ true → P true) → (b ≡ false → P false) → P b
by_test P true y n = y refl
by_test P false y n = n refl

-- A function commutes with a choice if both choices take the same test.
pub along : {A B : Type 0} (F : A → B) (c d : Bool) (x y : B) (u v : A) → c ≡ d → (d ≡ true → x ≡ F u) → (d ≡ false → y ≡ F v) → cond c x y ≡ F (cond d u v)
along F c d x y u v e g h = ap (λ z. cond z x y) e ∙ by_test (λ z. cond z x y ≡ F (cond z u v)) d g h

-- Membership

pub In-nil : {X : Type 0} {x : X} → In x [] → ⊥
In-nil h = elim h [ ]

pub In-cons_cases : {X : Type 0} {x y : X} {ys : List X} → In x (y ∷ ys) → (x ≡ y) ⊎ In x ys
In-cons_cases Here = inl refl
In-cons_cases (Later h) = inr h

pub In-head : {X : Type 0} {x y : X} {ys : List X} → x ≡ y → In x (y ∷ ys)
In-head {x = x} {ys = ys} e = subst (λ z. In x (z ∷ ys)) e Here

pub In-append_left : {X : Type 0} {x : X} {xs : List X} (ys : List X) → In x xs → In x (xs ++ ys)
In-append_left ys Here = Here
In-append_left ys (Later h) = Later (In-append_left ys h)

pub In-append_right : {X : Type 0} {x : X} (xs : List X) {ys : List X} → In x ys → In x (xs ++ ys)
In-append_right [] h = h
In-append_right (z ∷ zs) h = Later (In-append_right zs h)

pub In-append_cases : {X : Type 0} {x : X} (xs ys : List X) → In x (xs ++ ys) → In x xs ⊎ In x ys
In-append_cases [] ys h = inr h
In-append_cases (z ∷ zs) ys h =
    ⊎_elim (λ e. inl (In-head e)) (λ k. ⊎_elim (λ a. inl (Later a)) (λ b. inr b) (In-append_cases zs ys k)) (In-cons_cases h)

pub In-one : {X : Type 0} {x y : X} → In x (y ∷ []) → x ≡ y
In-one h = ⊎_elim (λ e. e) (λ n. absurd (In-nil n)) (In-cons_cases h)

pub In-map : {X Y : Type 0} (f : X → Y) {x : X} {xs : List X} → In x xs → In (f x) (map f xs)
In-map f Here = Here
In-map f (Later h) = Later (In-map f h)

pub In-map_cases : {X Y : Type 0} (f : X → Y) {y : Y} (xs : List X) → In y (map f xs) → (x : X) × In x xs × (y ≡ f x)
In-map_cases f [] h = absurd (In-nil h)
In-map_cases f (x ∷ xs) h =
    ⊎_elim (λ e. (x, Here, e)) (λ k. let o = In-map_cases f xs k in (o.0, Later o.1, o.2)) (In-cons_cases h)

pub In-filter_cases : {X : Type 0} (p : X → Bool) {x : X} (xs : List X) → In x (filter p xs) → In x xs × (p x ≡ true)
In-filter_cases p [] h = absurd (In-nil h)
In-filter_cases p {x = x} (y ∷ ys) h =
    either (λ zs. In x zs → In x (y ∷ ys) × (p x ≡ true)) (p y) (y ∷ filter p ys) (filter p ys)
    (λ e i. ⊎_elim (λ s. (In-head s, ap p s ∙ e)) (λ k. let o = In-filter_cases p ys k in (Later o.0, o.1)) (In-cons_cases i))
    (λ _ i. let o = In-filter_cases p ys i in (Later o.0, o.1))
    h

pub In-filter : {X : Type 0} (p : X → Bool) {x : X} (xs : List X) → In x xs → p x ≡ true → In x (filter p xs)
In-filter p [] h t = absurd (In-nil h)
In-filter p {x = x} (y ∷ ys) h t =
    either (λ zs. In x zs) (p y) (y ∷ filter p ys) (filter p ys)
    (λ _. ⊎_elim (λ s. In-head s) (λ k. Later (In-filter p ys k t)) (In-cons_cases h))
    (λ e. ⊎_elim (λ s. apart (sym (ap p s) ∙ t) e) (λ k. In-filter p ys k t) (In-cons_cases h))

pub In-get_or : {X : Type 0} (xs : List X) (n : ℕ) (d x : X) → n < length xs → get_or xs n d ≡ x → In x xs
In-get_or [] n d x lt e = absurd (omega arith)
In-get_or (y ∷ ys) zero d x lt e = In-head (sym e)
In-get_or (y ∷ ys) (suc n) d x lt e = Later (In-get_or ys n d x (omega arith) e)

-- Tests over lists

pub list_any-In : {X : Type 0} (p : X → Bool) (xs : List X) → list_any p xs ≡ true → (x : X) × In x xs × (p x ≡ true)
list_any-In p [] h = apart h refl
list_any-In p (x ∷ xs) h =
    ⊎_elim (λ e. (x, Here, e)) (λ k. let o = list_any-In p xs k in (o.0, Later o.1, o.2)) (or_cases _ _ h)

pub list_all-In : {X : Type 0} (p : X → Bool) {x : X} (xs : List X) → list_all p xs ≡ true → In x xs → p x ≡ true
list_all-In p [] h i = absurd (In-nil i)
list_all-In p (y ∷ ys) h i =
    ⊎_elim (λ e. ap p e ∙ (and_parts _ _ h).0) (λ k. list_all-In p ys (and_parts _ _ h).1 k) (In-cons_cases i)

pub all-In : {X : Type 0} (p : X → Bool) (xs : List X) → ((x : X) → In x xs → p x ≡ true) → list_all p xs ≡ true
all-In p [] h = refl
all-In p (x ∷ xs) h = ap₂ ◌&&◌ (h x Here) (all-In p xs (λ y i. h y (Later i)))

-- Lists

pub map-same : {X Y : Type 0} (g h : X → Y) (xs : List X) → ((x : X) → In x xs → g x ≡ h x) → map g xs ≡ map h xs
map-same g h [] e = refl
map-same g h (x ∷ xs) e = ap₂ ◌∷◌ (e x Here) (map-same g h xs (λ y i. e y (Later i)))

-- Two filters commute at one more element.
filter-swap_step : {X : Type 0} (b c : Bool) (x : X) (us vs : List X) (p q : X → Bool) → p x ≡ b → q x ≡ c → filter p vs ≡ filter q us → filter p (cond c (x ∷ vs) vs) ≡ filter q (cond b (x ∷ us) us)
filter-swap_step true true x us vs p q e f h = cond-true _ _ _ e ∙ ap (λ ws. x ∷ ws) h ∙ sym (cond-true _ _ _ f)
filter-swap_step true false x us vs p q e f h = h ∙ sym (cond-false _ _ _ f)
filter-swap_step false true x us vs p q e f h = cond-false _ _ _ e ∙ h
filter-swap_step false false x us vs p q e f h = h

pub filter-swap : {X : Type 0} (p q : X → Bool) (xs : List X) → filter p (filter q xs) ≡ filter q (filter p xs)
filter-swap p q [] = refl
filter-swap p q (x ∷ xs) = filter-swap_step (p x) (q x) x (filter p xs) (filter q xs) p q refl refl (filter-swap p q xs)
