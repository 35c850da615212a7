-- Forms of bytes. A form has an encoding, the values that have an encoding, and a decoder, and
-- satisfies two laws. Forms are combined into others.
use Rattle.std.proofs.Common.{◌≡◌, ℕ, ◌<◌, Bool, true, false, not, cond, eqb, List, [], ◌++◌, length, get_or, Option, Some, None, refl, sym, ap, subst, ◌∙◌, append_assoc}
use Rattle.std.specs.Prelude.{⊤}
use Rattle.std.proofs.lemmas.Bool.{eqb-true, not-false}
use Rattle.std.proofs.lemmas.List.{nil_from_length}
use Rattle.wl_frames.specs.Reading.{◌>>=◌}
use Rattle.wl_frames.specs.Bodies.{all_of}

-- Each byte is below 256.
abbrev pub IsBytes : List ℕ → Type 0
IsBytes bytes = (i : ℕ) → get_or bytes i 0 < 256

-- `Any` allows any bytes to follow, and `Nothing` allows none.
abbrev pub Any : List ℕ → Type 0
Any rest = ⊤

abbrev pub Nothing : List ℕ → Type 0
Nothing rest = rest ≡ []

-- A value was decoded from the front of the bytes, and the rest follows its encoding.
pub record Takes {X : Type 0} (spell : X → List ℕ) (Fits : X → Type 0) (Ends : List ℕ → Type 0) (bytes : List ℕ) (x : X) (rest : List ℕ) : Type 0 where
  pub parts : bytes ≡ spell x ++ rest
  pub fits : Fits x
  pub ends : Ends rest
  pub rest_fits : IsBytes rest

-- Each decoded value has the encoding it was decoded from, and each encoding is decoded to its
-- value.
pub record IsForm {X : Type 0} (spell : X → List ℕ) (Fits : X → Type 0) (Ends : List ℕ → Type 0) (read : List ℕ → Option (X × List ℕ)) : Type 0 where
  pub takes : (bytes : List ℕ) (x : X) (rest : List ℕ) → IsBytes bytes → read bytes ≡ Some (x, rest) → Takes spell Fits Ends bytes x rest
  pub again : (x : X) (rest : List ℕ) → Fits x → Ends rest → read (spell x ++ rest) ≡ Some (x, rest)

-- Steps of decoding

pub bind_some : {A B : Type 0} (r : Option A) (f : A → Option B) (y : B) → (r >>= f) ≡ Some y → (x : A) × (r ≡ Some x) × (f x ≡ Some y)
bind_some (Some x) f y e = (x, refl, e)
bind_some None f y e = absurd cc

-- The result of a test that did not fail is the value after it.
pub guard_some : {A : Type 0} (b : Bool) (x : Option A) (y : A) → cond b None x ≡ Some y → (b ≡ false) × (x ≡ Some y)
guard_some true x y e = absurd cc
guard_some false x y e = (refl, e)

abbrev some : {A : Type 0} → A → Option A
some x = Some x

pub some_is : {A : Type 0} (x y : A) → some x ≡ some y → x ≡ y
some_is x y e = cc

-- Combined forms

-- A field followed by the other fields has a form.
pub then_form : {X Y : Type 0} {s : X → List ℕ} {F : X → Type 0} {r : List ℕ → Option (X × List ℕ)} {t : Y → List ℕ} {Known G : Y → Type 0} {Ends : List ℕ → Type 0} (k : X × List ℕ → Option (Y × List ℕ))
    (field : Y → X) → IsForm s F Any r → ((x : X) → IsForm t (λ y. ((field y ≡ x) × Known y) × G y) Ends (λ rest. k (x, rest)))
    → IsForm (λ y. s (field y) ++ t y) (λ y. Known y × (F (field y) × G y)) Ends (λ bytes. r bytes >>= k)
then_form {X} {Y} {s} {F} {r} {t} {Known} {G} {Ends} k field first others = record {
  takes = λ bytes y rest fits e.
      let a = bind_some (r bytes) k (y, rest) e in
      let one = first.takes bytes a.0.0 a.0.1 fits a.1 in
      let two = (others a.0.0).takes a.0.1 y rest one.rest_fits a.2 in
      record {
        parts = one.parts ∙ ap (λ (w : List ℕ). s a.0.0 ++ w) two.parts ∙ sym (append_assoc (s a.0.0) (t y) rest) ∙ ap (λ (x : X). (s x ++ t y) ++ rest) (sym two.fits.0.0);
        fits = (two.fits.0.1, (subst F (sym two.fits.0.0) one.fits, two.fits.1));
        ends = two.ends;
        rest_fits = two.rest_fits;
      };
  again = λ y rest fits ends.
      ap (λ (w : List ℕ). r w >>= k) (append_assoc (s (field y)) (t y) rest)
      ∙ ap (λ (o : Option (X × List ℕ)). o >>= k) (first.again (field y) (t y ++ rest) fits.1.0 tt)
      ∙ (others (field y)).again y rest ((refl, fits.0), fits.1.1) ends;
}

-- The last field has a form.
pub last_form : {X Y : Type 0} {s : X → List ℕ} {F : X → Type 0} {r : List ℕ → Option (X × List ℕ)} {Known : Y → Type 0} {Ends : List ℕ → Type 0}
    (field : Y → X) (make : X → Y) → IsForm s F Ends r → ((y : Y) → Known y → y ≡ make (field y)) → ((x : X) → Known (make x) × (field (make x) ≡ x))
    → IsForm (λ y. s (field y)) (λ y. Known y × F (field y)) Ends (λ bytes. r bytes >>= λ x. Some (make x.0, x.1))
last_form {X} {Y} {s} {F} {r} {Known} {Ends} field make last known made = record {
  takes = λ bytes y rest fits e.
      let a = bind_some (r bytes) (λ x. Some (make x.0, x.1)) (y, rest) e in
      let one = last.takes bytes a.0.0 a.0.1 fits a.1 in
      let x = a.0.0 in
      let m = made x in
      subst (λ (z : Y × List ℕ). Takes (λ y. s (field y)) (λ y. Known y × F (field y)) Ends bytes z.0 z.1) (some_is (make x, a.0.1) (y, rest) a.2)
      (record {
        parts = one.parts ∙ ap (λ (x : X). s x ++ a.0.1) (sym m.1);
        fits = (m.0, subst F (sym m.1) one.fits);
        ends = one.ends;
        rest_fits = one.rest_fits;
      });
  again = λ y rest fits ends.
      ap (λ (o : Option (X × List ℕ)). o >>= λ x. Some (make x.0, x.1)) (last.again (field y) rest fits.1 ends)
      ∙ ap (λ (z : Y). some (z, rest)) (sym (known y fits.0));
}

-- The same form in other terms is a form.
pub same_form : {X : Type 0} {s t : X → List ℕ} {F G : X → Type 0} {Ends : List ℕ → Type 0} {r : List ℕ → Option (X × List ℕ)}
    → IsForm s F Ends r → ((x : X) → t x ≡ s x) → ((x : X) → F x → G x) → ((x : X) → G x → F x) → IsForm t G Ends r
same_form {X} {s} {t} {F} {G} {Ends} {r} form spelled into out = record {
  takes = λ bytes x rest fits e.
      let one = form.takes bytes x rest fits e in
      record {
        parts = one.parts ∙ ap (λ (w : List ℕ). w ++ rest) (sym (spelled x));
        fits = into x one.fits;
        ends = one.ends;
        rest_fits = one.rest_fits;
      };
  again = λ x rest fits ends. ap (λ (w : List ℕ). r (w ++ rest)) (spelled x) ∙ form.again x rest (out x fits) ends;
}

-- A form with a condition that is tested is a form.
pub tested_form : {X : Type 0} {s : X → List ℕ} {F : X → Type 0} {Ends : List ℕ → Type 0} {r : List ℕ → Option (X × List ℕ)}
    (P : X → Type 0) (fails : X → Bool) → ((x : X) → fails x ≡ false → P x) → ((x : X) → P x → fails x ≡ false) → IsForm s F Ends r
    → IsForm s (λ x. P x × F x) Ends (λ bytes. r bytes >>= λ x. cond (fails x.0) None (Some x))
tested_form {X} {s} {F} {Ends} {r} P fails passed passes form = record {
  takes = λ bytes x rest fits e.
      let a = bind_some (r bytes) (λ x. cond (fails x.0) None (Some x)) (x, rest) e in
      let g = guard_some (fails a.0.0) (Some a.0) (x, rest) a.2 in
      let one = form.takes bytes a.0.0 a.0.1 fits a.1 in
      subst (λ (z : X × List ℕ). Takes s (λ x. P x × F x) Ends bytes z.0 z.1) (some_is a.0 (x, rest) g.1)
      (record {
        parts = one.parts;
        fits = (passed a.0.0 g.0, one.fits);
        ends = one.ends;
        rest_fits = one.rest_fits;
      });
  again = λ x rest fits ends.
      ap (λ (o : Option (X × List ℕ)). o >>= λ x. cond (fails x.0) None (Some x)) (form.again x rest fits.1 ends)
      ∙ ap (λ (b : Bool). cond b None (some (x, rest))) (passes x fits.0);
}

-- A form with a check that lets a value pass unchanged is a form.
pub checked_form : {X : Type 0} {s : X → List ℕ} {F : X → Type 0} {Ends : List ℕ → Type 0} {r : List ℕ → Option (X × List ℕ)}
    (P : X → Type 0) (check : X → Option X) → ((x y : X) → check x ≡ Some y → (x ≡ y) × P x) → ((x : X) → P x → check x ≡ Some x) → IsForm s F Ends r
    → IsForm s (λ x. F x × P x) Ends (λ bytes. r bytes >>= λ x. check x.0 >>= λ y. Some (y, x.1))
checked_form {X} {s} {F} {Ends} {r} P check passed passes form = record {
  takes = λ bytes x rest fits e.
      let a = bind_some (r bytes) (λ x. check x.0 >>= λ y. Some (y, x.1)) (x, rest) e in
      let b = bind_some (check a.0.0) (λ y. Some (y, a.0.1)) (x, rest) a.2 in
      let c = passed a.0.0 b.0 b.1 in
      let one = form.takes bytes a.0.0 a.0.1 fits a.1 in
      subst (λ (z : X × List ℕ). Takes s (λ x. F x × P x) Ends bytes z.0 z.1) (ap (λ (x : X). (x, a.0.1)) c.0 ∙ some_is (b.0, a.0.1) (x, rest) b.2)
      (record {
        parts = one.parts;
        fits = (one.fits, c.1);
        ends = one.ends;
        rest_fits = one.rest_fits;
      });
  again = λ x rest fits ends.
      ap (λ (o : Option (X × List ℕ)). o >>= λ x. check x.0 >>= λ y. Some (y, x.1)) (form.again x rest fits.0 ends)
      ∙ ap (λ (o : Option X). o >>= λ y. some (y, rest)) (passes x fits.1);
}

-- A form that extends to the end of the bytes is a form.
pub whole_form : {X : Type 0} {s : X → List ℕ} {F : X → Type 0} {r : List ℕ → Option (X × List ℕ)} → IsForm s F Any r → IsForm s F Nothing (λ bytes. r bytes >>= all_of)
whole_form {X} {s} {F} {r} form = record {
  takes = λ bytes x rest fits e.
      let a = bind_some (r bytes) all_of (x, rest) e in
      let g = guard_some (not (eqb (length a.0.1) 0)) (some a.0) (x, rest) a.2 in
      let one = form.takes bytes a.0.0 a.0.1 fits a.1 in
      let nothing : a.0.1 ≡ [] = nil_from_length a.0.1 (eqb-true (length a.0.1) 0 (not-false (eqb (length a.0.1) 0) g.0)) in
      subst (λ (z : X × List ℕ). Takes s F Nothing bytes z.0 z.1) (some_is a.0 (x, rest) g.1)
      (record {
        parts = one.parts;
        fits = one.fits;
        ends = nothing;
        rest_fits = one.rest_fits;
      });
  again = λ x rest fits ends.
      ap (λ (o : Option (X × List ℕ)). o >>= all_of) (form.again x rest fits tt)
      ∙ ap (λ (w : List ℕ). all_of (x, w)) ends
      ∙ ap (λ (w : List ℕ). some (x, w)) (sym ends);
}

-- The decoded value, wrapped in a variant of an enum.
abbrev pub within : {X Y : Type 0} → (X → Y) → Option (X × List ℕ) → Option (Y × List ℕ)
within make read = read >>= λ x. Some (make x.0, x.1)

pub wrapped : {X Y : Type 0} {s : X → List ℕ} {F : X → Type 0} {Ends : List ℕ → Type 0} {r : List ℕ → Option (X × List ℕ)}
    (make : X → Y) (t : Y → List ℕ) (G : Y → Type 0) → IsForm s F Ends r → ((x : X) → t (make x) ≡ s x) → ((x : X) → F x → G (make x))
    → (bytes : List ℕ) (y : Y) (rest : List ℕ) → IsBytes bytes → within make (r bytes) ≡ Some (y, rest) → Takes t G Ends bytes y rest
wrapped {X} {Y} {s} {F} {Ends} {r} make t G form spelled into bytes y rest fits e =
    let a = bind_some (r bytes) (λ x. Some (make x.0, x.1)) (y, rest) e in
    let one = form.takes bytes a.0.0 a.0.1 fits a.1 in
    let x = a.0.0 in
    subst (λ (z : Y × List ℕ). Takes t G Ends bytes z.0 z.1) (some_is (make x, a.0.1) (y, rest) a.2)
    (record {
      parts = one.parts ∙ ap (λ (w : List ℕ). w ++ a.0.1) (sym (spelled x));
      fits = into x one.fits;
      ends = one.ends;
      rest_fits = one.rest_fits;
    })

pub wrapped_again : {X Y : Type 0} {s : X → List ℕ} {F : X → Type 0} {Ends : List ℕ → Type 0} {r : List ℕ → Option (X × List ℕ)}
    (make : X → Y) → IsForm s F Ends r → (spelled : List ℕ) (x : X) (rest : List ℕ) → spelled ≡ s x → F x → Ends rest
    → within make (r (spelled ++ rest)) ≡ Some (make x, rest)
wrapped_again {X} {Y} {s} {F} {Ends} {r} make form spelled x rest is fits ends =
    ap (λ (w : List ℕ). within make (r (w ++ rest))) is ∙ ap (within make) (form.again x rest fits ends)
