-- A line at a place: what the lines of all names are once it is written.
use Rattle.std.proofs.Common.{◌≡◌, ℕ, ◌+◌, ◌<◌, ◌≤◌, zero, suc, true, false, ◌&&◌, ◌||◌, not, Bool, cond, List, [], ◌∷◌, Option, Some, None, length, get_or, refl, sym, ap, ◌∙◌, subst, rules, arith}
use Rattle.std.specs.Prelude.{bytes_eq, position, slice_get, nat_lt, IsSome}
use Rattle.std.specs.Option.{option_map_or}
use Rattle.std.specs.Map.{lookup, keys_of}
use Rattle.std.specs.List.{IsDistinct, AllByRecursion, position_or_len}
use Rattle.std.proofs.lemmas.List.Quantifiers.{position-Some}
use borrow.Author.Tests.{lt-ltb}
use Rattle.indexmap.specs.IndexMap.{set_value_at}
use Rattle.wl_table_index.proofs.NextLemmas.{text-same}
use Rattle.wl_table_index.proofs.RoomLemmas.{text-turn}

no_place : {X : Type 0} (x : X) → None ≡ Some x → ⊥
no_place x e = cc

not_both : true ≡ false → ⊥
not_both e = cc

apart : (name cs own : List ℕ) (b : Bool) → bytes_eq name own ≡ false → bytes_eq cs own ≡ true → bytes_eq name cs ≡ b → b ≡ false
apart name cs own true f g h = absurd (not_both (sym (ap (λ n. bytes_eq n own) (text-same name cs h) ∙ g) ∙ f))
apart name cs own false f g h = refl

not_first : (name a b : List ℕ) (c : Bool) → bytes_eq a b ≡ false → bytes_eq name b ≡ true → bytes_eq name a ≡ c → c ≡ false
not_first name a b true f g h = absurd (not_both (sym (ap (λ n. bytes_eq n b) (sym (text-same name a h)) ∙ g) ∙ f))
not_first name a b false f g h = refl

module _ {K X : Type 0} (text : K → List ℕ) where
  -- A write at the place of a name

  first_step : (name cs : List ℕ) (e : K × X) (es : List (K × X)) (w : X) (b : Bool) → bytes_eq name (text e.0) ≡ true → bytes_eq name cs ≡ b → lookup (λ k. bytes_eq cs (text k)) ((e.0, w) ∷ es) ≡ cond b (Some w) (lookup (λ k. bytes_eq cs (text k)) (e ∷ es))
  first_step name cs e es w true f g =
      let h : bytes_eq cs (text e.0) ≡ true = ap (λ n. bytes_eq n (text e.0)) (sym (text-same name cs g)) ∙ f in
      rw h refl
  first_step name cs e es w false f g =
      let h : bytes_eq cs (text e.0) ≡ false = text-turn cs (text e.0) ∙ ap (λ n. bytes_eq n cs) (sym (text-same name (text e.0) f)) ∙ g in
      rw h refl

  later_step : (name cs : List ℕ) (e : K × X) (es fs : List (K × X)) (w : X) (b : Bool) → bytes_eq name (text e.0) ≡ false → bytes_eq cs (text e.0) ≡ b → lookup (λ k. bytes_eq cs (text k)) fs ≡ cond (bytes_eq name cs) (Some w) (lookup (λ k. bytes_eq cs (text k)) es) → lookup (λ k. bytes_eq cs (text k)) (e ∷ fs) ≡ cond (bytes_eq name cs) (Some w) (lookup (λ k. bytes_eq cs (text k)) (e ∷ es))
  later_step name cs e es fs w true f g below =
      let d = apart name cs (text e.0) (bytes_eq name cs) f g refl in
      rw (g, d) refl
  later_step name cs e es fs w false f g below = rw g below

  written_step : (name cs : List ℕ) (es : List (K × X)) (i : ℕ) (w : X) (d : K) → i < length (keys_of es) → bytes_eq name (text (get_or (keys_of es) i d)) ≡ true → ((k : ℕ) → k < i → bytes_eq name (text (get_or (keys_of es) k d)) ≡ false) → lookup (λ k. bytes_eq cs (text k)) (set_value_at es i w) ≡ cond (bytes_eq name cs) (Some w) (lookup (λ k. bytes_eq cs (text k)) es)
  written_step name cs [] i w d l here before = absurd (omega (arith, l))
  written_step name cs (e ∷ es) zero w d l here before = first_step name cs e es w (bytes_eq name cs) here refl
  written_step name cs (e ∷ es) (suc i) w d l here before =
      later_step name cs e es (set_value_at es i w) w (bytes_eq cs (text e.0)) (before 0 (omega arith)) refl (written_step name cs es i w d (omega (arith, l)) here (λ k m. before (suc k) (omega (arith, m))))

  -- The value of each name after the value at the name's place is written.
  pub lookup-written : (name : List ℕ) (es : List (K × X)) (i : ℕ) (w : X) → position (λ k. bytes_eq name (text k)) (keys_of es) ≡ Some i → (cs : List ℕ) → lookup (λ k. bytes_eq cs (text k)) (set_value_at es i w) ≡ cond (bytes_eq name cs) (Some w) (lookup (λ k. bytes_eq cs (text k)) es)
  lookup-written name [] i w p cs = absurd (no_place i p)
  lookup-written name (e ∷ es) i w p cs =
      let at = position-Some (λ k. bytes_eq name (text k)) (keys_of (e ∷ es)) i e.0 p in
      written_step name cs (e ∷ es) i w e.0 at.0 at.1 at.2

  -- Each text that equals the name has the value of the name.
  pub lookup-there : (name : List ℕ) (es : List (K × X)) (v : X) → lookup (λ k. bytes_eq name (text k)) es ≡ Some v → (cs : List ℕ) → bytes_eq name cs ≡ true → lookup (λ k. bytes_eq cs (text k)) es ≡ Some v
  lookup-there name es v s cs e =
      ap (λ n. lookup (λ k. bytes_eq n (text k)) es) (sym (text-same name cs e)) ∙ s

  -- The place of a stored key

  all-at : (P : K → Type 0) (es : List (K × X)) (i : ℕ) (e : K × X) → AllByRecursion P (keys_of es) → slice_get es i ≡ Some e → P e.0
  all-at P [] i e a g = absurd (no_place e g)
  all-at P (x ∷ es) zero e a g =
      let same : x ≡ e = some_same x e g in
      subst (λ y. P y.0) same a.0
    where
      some_same : (a b : K × X) → Some a ≡ Some b → a ≡ b
      some_same a b f = cc
  all-at P (x ∷ es) (suc i) e a g = all-at P es i e a.1 g

  place-at : (name : List ℕ) (es : List (K × X)) (i : ℕ) (e : K × X) → IsDistinct (λ a b. bytes_eq (text a) (text b)) (keys_of es) → slice_get es i ≡ Some e → bytes_eq name (text e.0) ≡ true → (position_or_len (λ k. bytes_eq name (text k)) (keys_of es) ≡ i) × (i < length (keys_of es))
  unfolding IsDistinct
  place-at name [] i e d g f = absurd (no_place e g)
  place-at name (x ∷ es) zero e d g f =
      let h : bytes_eq name (text x.0) ≡ true = ap (λ y. bytes_eq name (text y.0)) (some_same x e g) ∙ f in
      (rw h refl, omega arith)
    where
      some_same : (a b : K × X) → Some a ≡ Some b → a ≡ b
      some_same a b f = cc
  place-at name (x ∷ es) (suc i) e d g f =
      let below = place-at name es i e d.1 g f in
      let h : bytes_eq name (text x.0) ≡ false = not_first name (text x.0) (text e.0) (bytes_eq name (text x.0)) (all-at (λ k. bytes_eq (text x.0) (text k) ≡ false) es i e d.0 g) f refl in
      (rw h (omega (arith, below.0)), omega (arith, below.1))

  pub position-at : (name : List ℕ) (es : List (K × X)) (i : ℕ) (e : K × X) → IsDistinct (λ a b. bytes_eq (text a) (text b)) (keys_of es) → slice_get es i ≡ Some e → bytes_eq name (text e.0) ≡ true → position (λ k. bytes_eq name (text k)) (keys_of es) ≡ Some i
  position-at name es i e d g f =
      let p = place-at name es i e d g f in
      ap (λ n. cond (nat_lt n (length (keys_of es))) (Some n) None) p.0 ∙ ap (λ b. cond b (Some i) None) (lt-ltb i _ p.1)

-- The values of all names after a write to one

module _ {X : Type 0} (b : Bool) (old new : Option X) (v w : X) (n : new ≡ cond b (Some w) old) (o : b ≡ true → old ≡ Some v) where
  pub step-written : {V : Type 0} (g : X → V) (d : V) (f : V → V) → g w ≡ f (g v) → option_map_or g new d ≡ cond b (f (option_map_or g old d)) (option_map_or g old d)
  step-written g d f e = by b n o
    where
      by : (c : Bool) → new ≡ cond c (Some w) old → (c ≡ true → old ≡ Some v) → option_map_or g new d ≡ cond c (f (option_map_or g old d)) (option_map_or g old d)
      by true p q = rw (p, q refl) e
      by false p q = rw p refl

  pub same-written : {V : Type 0} (g : X → V) (d : V) → g w ≡ g v → option_map_or g new d ≡ option_map_or g old d
  same-written g d e = by b n o
    where
      by : (c : Bool) → new ≡ cond c (Some w) old → (c ≡ true → old ≡ Some v) → option_map_or g new d ≡ option_map_or g old d
      by true p q = rw (p, q refl) e
      by false p q = rw p refl

  pub room-written : (g : X → ℕ) (taken : ℕ) → g v ≤ g w + taken → option_map_or g old 0 ≤ option_map_or g new 0 + cond b taken 0
  room-written g taken e = by b n o
    where
      by : (c : Bool) → new ≡ cond c (Some w) old → (c ≡ true → old ≡ Some v) → option_map_or g old 0 ≤ option_map_or g new 0 + cond c taken 0
      by true p q = rw (p, q refl) e
      by false p q = rw p (omega arith)

  pub room-kept : (g : X → ℕ) → g v ≤ g w → option_map_or g old 0 ≤ option_map_or g new 0
  room-kept g e = by b n o
    where
      by : (c : Bool) → new ≡ cond c (Some w) old → (c ≡ true → old ≡ Some v) → option_map_or g old 0 ≤ option_map_or g new 0
      by true p q = rw (p, q refl) e
      by false p q = rw p (omega arith)

  pub there-written : IsSome old → IsSome new
  there-written h = by b n
    where
      by : (c : Bool) → new ≡ cond c (Some w) old → IsSome new
      by true p = rw p (search rules)
      by false p = rw p h

  pub filled-written : (t : X → Bool) → t w ≡ false → option_map_or t new false ≡ (option_map_or t old false && not b)
  filled-written t e = by b n
    where
      no : (a : Bool) → false ≡ (a && false)
      no a = grind arith

      yes : (a : Bool) → a ≡ (a && true)
      yes a = grind arith

      by : (c : Bool) → new ≡ cond c (Some w) old → option_map_or t new false ≡ (option_map_or t old false && not c)
      by true p = rw (p, e) (no (option_map_or t old false))
      by false p = rw p (yes (option_map_or t old false))

  pub emptied-written : (t : X → Bool) → option_map_or t new false ≡ true → (option_map_or t old false || b) ≡ true
  emptied-written t h = by b n
    where
      here : (a : Bool) → (a || true) ≡ true
      here a = grind arith

      there : (a : Bool) → a ≡ true → (a || false) ≡ true
      there a e = grind arith

      by : (c : Bool) → new ≡ cond c (Some w) old → (option_map_or t old false || c) ≡ true
      by true p = here (option_map_or t old false)
      by false p = there (option_map_or t old false) (rw p at h)
