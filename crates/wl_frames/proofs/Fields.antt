-- Forms of the fields that several kinds of frames share.
use Rattle.std.proofs.Common.{◌≡◌, ℕ, zero, suc, ◌+◌, ◌^◌, ◌<◌, ◌≤◌, true, false, cond, ltb, eqb, List, [], ◌∷◌, ◌++◌, length, take, drop, All, Option, Some, None, refl, sym, ap, subst, ◌∙◌, append_assoc, arith, inl, inr}
use Rattle.std.specs.Prelude.{⊤}
use Rattle.std.specs.Int.{Width, w16, w32, byte_len, from_be_bytes, to_be_bytes}
use Rattle.std.specs.List.{flat_map, AllByRecursion}
use Rattle.std.specs.Str.{IsUtf8, is_utf8, IsAscii}
use Rattle.std.proofs.lemmas.Bool.{cases_lt, ltb-true, ltb-false, le-ltb, lt-ltb, eqb-false, eqb-true, ne_eqb, cases_Bool, false_from_ne_true, and_parts, and_from}
use Rattle.std.proofs.lemmas.List.{take_at, drop_at, take-append-drop, length-append, length-take, get_or-drop, get_or-take, get_or_past}
use Rattle.std.proofs.lemmas.List.Elements.{All-from_get_or}
use Rattle.std.proofs.lemmas.Nat.{be_bytes_2, be_bytes_4, from_be_bytes-to_be_bytes_2, from_be_bytes-to_be_bytes_4}
use Rattle.std.proofs.lemmas.Str.{IsUtf8-from_is_utf8, is_utf8-from_IsUtf8}
use Rattle.std.proofs.lemmas.Str.Ascii.{IsAscii-nil, IsAscii-cons}
use Rattle.wl_draft.specs.declared.mode.Mode.TheVariants.{Shared, Exclusive}
use Rattle.wl_grammar.specs.Grammar.{u16, u32, IsU16, IsU32, IsGeneration, IsTab, spelled_mode, spelled_flag, spelled_held, short_text, long_text, IsChannel, HasNoDash, IsLockName, IsData, IsOrigin}
use Rattle.wl_frames.specs.Reading.{◌>>=◌, value_of, byte_at, number_at, generation_at, tab_at, coded_at, modes, mode_at, flags, flag_at, held_codes, held_at, taken_at, short_text_at, long_text_at, text_of, channel_at, has_dash, lock_text_of, lock_name_at, data_at, is_ascii, origin_text_of, origin_at, items_at, list_at}
use Rattle.wl_frames.proofs.Forms.{IsBytes, Any, Takes, IsForm, bind_some, guard_some, some_is, same_form, tested_form, checked_form}

IsBytes-drop : (n : ℕ) (bytes : List ℕ) → IsBytes bytes → IsBytes (drop n bytes)
IsBytes-drop n bytes h i = rw get_or-drop (h (n + i))

IsBytes-take : (n : ℕ) (bytes : List ℕ) → IsBytes bytes → IsBytes (take n bytes)
IsBytes-take n bytes h i =
    elim (cases_lt i n) [
      | inl lt ↦ rw (get_or-take n bytes i 0 lt) (h i)
      | inr le ↦ rw (get_or_past (take n bytes) i 0 (omega (arith, length-take n bytes))) (omega arith)
    ]

IsBytes-rest : (b : ℕ) (bytes : List ℕ) → IsBytes (b ∷ bytes) → IsBytes bytes
IsBytes-rest b bytes h i = h (suc i)

-- Numbers

byte_takes : (bytes : List ℕ) (x : ℕ) (rest : List ℕ) → IsBytes bytes → byte_at bytes ≡ Some (x, rest) → Takes (λ b. b ∷ []) (λ b. ⊤) Any bytes x rest
byte_takes [] x rest fits e = absurd cc
byte_takes (b ∷ bytes) x rest fits e =
    subst (λ (z : ℕ × List ℕ). Takes (λ b. b ∷ []) (λ b. ⊤) Any (b ∷ bytes) z.0 z.1) (some_is (b, bytes) (x, rest) e)
    (record { parts = refl; fits = tt; ends = tt; rest_fits = IsBytes-rest b bytes fits })

pub byte_form : IsForm (λ b. b ∷ []) (λ b. ⊤) Any byte_at
byte_form = record {
  takes = byte_takes;
  again = λ x rest fits ends. refl;
}

record IsWide (w : Width) (limit : ℕ) : Type 0 where
  pub len : (n : ℕ) → length (to_be_bytes w n) ≡ byte_len w
  pub back : (bytes : List ℕ) → length bytes ≡ byte_len w → IsBytes bytes → to_be_bytes w (from_be_bytes w bytes) ≡ bytes
  pub again : (n : ℕ) → n < limit → from_be_bytes w (to_be_bytes w n) ≡ n
  pub below : (bytes : List ℕ) → IsBytes bytes → from_be_bytes w bytes < limit

number_form : (w : Width) (limit : ℕ) → IsWide w limit → IsForm (to_be_bytes w) (λ n. n < limit) Any (number_at w)
number_form w limit wide = record {
  takes = λ bytes n rest fits e.
      let g = guard_some (ltb (length bytes) (byte_len w)) (Some (from_be_bytes w (take (byte_len w) bytes), drop (byte_len w) bytes)) (n, rest) e in
      let front = take (byte_len w) bytes in
      let long : byte_len w ≤ length bytes = ltb-false _ _ g.0 in
      let len : length front ≡ byte_len w = omega (arith, length-take (byte_len w) bytes) in
      let front_fits = IsBytes-take (byte_len w) bytes fits in
      subst (λ (z : ℕ × List ℕ). Takes (to_be_bytes w) (λ n. n < limit) Any bytes z.0 z.1) (some_is (from_be_bytes w front, drop (byte_len w) bytes) (n, rest) g.1)
      (record {
        parts = sym (take-append-drop (byte_len w) bytes) ∙ ap (λ (t : List ℕ). t ++ drop (byte_len w) bytes) (sym (wide.back front len front_fits));
        fits = wide.below front front_fits;
        ends = tt;
        rest_fits = IsBytes-drop (byte_len w) bytes fits;
      });
  again = λ n rest lt ends.
      let len = wide.len n in
      let long : ltb (length (to_be_bytes w n ++ rest)) (byte_len w) ≡ false = le-ltb _ _ (omega (arith, length-append (to_be_bytes w n) rest)) in
      rw (long, take_at (to_be_bytes w n) rest (byte_len w) len, drop_at (to_be_bytes w n) rest (byte_len w) len, wide.again n lt) refl;
}

wide16 : IsWide w16 (2 ^ 16)
wide16 = record {
  len = λ n. refl;
  back = λ bytes len fits. be_bytes_2 bytes _ len fits refl;
  again = λ n lt. from_be_bytes-to_be_bytes_2 n lt;
  below = λ bytes fits. omega (arith, fits 0, fits 1);
}

wide32 : IsWide w32 (2 ^ 32)
wide32 = record {
  len = λ n. refl;
  back = λ bytes len fits. be_bytes_4 bytes _ len fits refl;
  again = λ n lt. from_be_bytes-to_be_bytes_4 n lt;
  below = λ bytes fits. omega (arith, fits 0, fits 1, fits 2, fits 3);
}

pub u16_form : IsForm u16 IsU16 Any (number_at w16)
u16_form = number_form w16 (2 ^ 16) wide16

pub u32_form : IsForm u32 IsU32 Any (number_at w32)
u32_form = number_form w32 (2 ^ 32) wide32

pub generation_form : IsForm u32 IsGeneration Any generation_at
unfolding generation_at
generation_form = tested_form (λ n. 1 ≤ n) (λ n. eqb n 0) (λ n e. omega (arith, eqb-false n 0 e)) (λ n le. ne_eqb n 0 (λ e. omega arith)) u32_form

pub tab_form : IsForm u16 IsTab Any tab_at
unfolding tab_at
tab_form = tested_form (λ n. 1 ≤ n) (λ n. eqb n 0) (λ n e. omega (arith, eqb-false n 0 e)) (λ n le. ne_eqb n 0 (λ e. omega arith)) u16_form

-- Values with a code

abbrev AreCodes : {X : Type 0} → (X → List ℕ) → List (ℕ × X) → Type 0
AreCodes spell table = AllByRecursion (λ e. spell e.1 ≡ e.0 ∷ []) table

abbrev some_of : {A : Type 0} → A → Option A
some_of x = Some x

abbrev none_of : {A : Type 0} → Option A
none_of = None

-- A property of each row of a table holds of a code and the value found by it.
pub value_is : {X : Type 0} (P : ℕ → X → Type 0) (table : List (ℕ × X)) (code : ℕ) (x : X) → AllByRecursion (λ e. P e.0 e.1) table → value_of table code ≡ Some x → P code x
value_is P [] code x all e = absurd cc
value_is {X} P (p ∷ ps) code x all e =
    elim (cases_Bool (eqb code p.0)) [
      | inl is ↦
          let here : some_of p.1 ≡ Some x = ap (λ b. cond b (some_of p.1) (value_of ps code)) (sym is) ∙ e in
          subst (λ (n : ℕ). P n x) (sym (eqb-true code p.0 is)) (subst (P p.0) (some_is p.1 x here) all.0)
      | inr other ↦
          let there : value_of ps code ≡ Some x = ap (λ b. cond b (some_of p.1) (value_of ps code)) (sym other) ∙ e in
          value_is P ps code x all.1 there
    ]

code_is : {X : Type 0} (spell : X → List ℕ) (table : List (ℕ × X)) (code : ℕ) (x : X) → AreCodes spell table → value_of table code ≡ Some x → spell x ≡ code ∷ []
code_is spell table code x all e = value_is (λ n y. spell y ≡ n ∷ []) table code x all e

-- A value with a unique code in the table has a form.
pub coded_form : {X : Type 0} (spell : X → List ℕ) (table : List (ℕ × X)) → AreCodes spell table
    → ((x : X) → (code : ℕ) × (spell x ≡ code ∷ []) × (value_of table code ≡ Some x)) → IsForm spell (λ x. ⊤) Any (coded_at table)
coded_form {X} spell table all each = record {
  takes = λ bytes x rest fits e.
      let a = bind_some (byte_at bytes) (λ code. value_of table code.0 >>= λ x. Some (x, code.1)) (x, rest) e in
      let b = bind_some (value_of table a.0.0) (λ x. Some (x, a.0.1)) (x, rest) a.2 in
      let one = byte_takes bytes a.0.0 a.0.1 fits a.1 in
      subst (λ (z : X × List ℕ). Takes spell (λ x. ⊤) Any bytes z.0 z.1) (some_is (b.0, a.0.1) (x, rest) b.2)
      (record {
        parts = one.parts ∙ ap (λ (w : List ℕ). w ++ a.0.1) (sym (code_is spell table a.0.0 b.0 all b.1));
        fits = tt;
        ends = tt;
        rest_fits = one.rest_fits;
      });
  again = λ x rest fits ends.
      let c = each x in
      ap (λ (w : List ℕ). coded_at table (w ++ rest)) c.1 ∙ ap (λ (o : Option X). o >>= λ x. Some (x, rest)) c.2;
}

pub mode_form : IsForm spelled_mode (λ m. ⊤) Any mode_at
unfolding mode_at
mode_form = coded_form spelled_mode modes (refl, (refl, tt)) (elim [ Shared ↦ (1, refl, refl) | Exclusive ↦ (2, refl, refl) ])

pub flag_form : IsForm spelled_flag (λ b. ⊤) Any flag_at
unfolding flag_at
flag_form = coded_form spelled_flag flags (refl, (refl, tt)) (elim [ false ↦ (0, refl, refl) | true ↦ (1, refl, refl) ])

pub held_form : IsForm spelled_held (λ b. ⊤) Any held_at
unfolding held_at
held_form = coded_form spelled_held held_codes (refl, (refl, tt)) (elim [ true ↦ (1, refl, refl) | false ↦ (2, refl, refl) ])

-- Texts

taken : (n : ℕ) (bytes : List ℕ) (text rest : List ℕ) → IsBytes bytes → taken_at n bytes ≡ Some (text, rest) → Takes (λ (t : List ℕ). t) (λ t. (length t ≡ n) × IsBytes t) Any bytes text rest
unfolding taken_at
taken n bytes text rest fits e =
    let g = guard_some (ltb (length bytes) n) (Some (take n bytes, drop n bytes)) (text, rest) e in
    let long : n ≤ length bytes = ltb-false _ _ g.0 in
    subst (λ (z : List ℕ × List ℕ). Takes (λ (t : List ℕ). t) (λ t. (length t ≡ n) × IsBytes t) Any bytes z.0 z.1) (some_is (take n bytes, drop n bytes) (text, rest) g.1)
    (record {
      parts = sym (take-append-drop n bytes);
      fits = (omega (arith, length-take n bytes), IsBytes-take n bytes fits);
      ends = tt;
      rest_fits = IsBytes-drop n bytes fits;
    })

taken_again : (text rest : List ℕ) → taken_at (length text) (text ++ rest) ≡ Some (text, rest)
unfolding taken_at
taken_again text rest =
    let long : ltb (length (text ++ rest)) (length text) ≡ false = le-ltb _ _ (omega (arith, length-append text rest)) in
    rw (long, take_at text rest (length text) refl, drop_at text rest (length text) refl) refl

-- Bytes after their length in one byte have a form.
short_form : IsForm short_text (λ t. length t ≤ 255) Any short_text_at
unfolding short_text_at
short_form = record {
  takes = λ bytes text rest fits e.
      let a = bind_some (byte_at bytes) (λ n. taken_at n.0 n.1) (text, rest) e in
      let one = byte_takes bytes a.0.0 a.0.1 fits a.1 in
      let two = taken a.0.0 a.0.1 text rest one.rest_fits a.2 in
      let parts : bytes ≡ a.0.0 ∷ (text ++ rest) = one.parts ∙ ap (λ (w : List ℕ). a.0.0 ∷ w) two.parts in
      let below : a.0.0 < 256 = omega (arith, subst IsBytes parts fits 0) in
      record {
        parts = parts ∙ ap (λ (n : ℕ). n ∷ (text ++ rest)) (sym two.fits.0);
        fits = omega (arith, two.fits.0);
        ends = tt;
        rest_fits = two.rest_fits;
      };
  again = λ text rest fits ends. taken_again text rest;
}

-- Bytes after their length in two bytes have a form.
long_form : (most : ℕ) → most < 2 ^ 16 → IsForm long_text (λ t. (length t ≤ most) × IsBytes t) Any (long_text_at most)
unfolding long_text_at
long_form most lt = record {
  takes = λ bytes text rest fits e.
      let a = bind_some (number_at w16 bytes) (λ n. cond (ltb most n.0) None (taken_at n.0 n.1)) (text, rest) e in
      let g = guard_some (ltb most a.0.0) (taken_at a.0.0 a.0.1) (text, rest) a.2 in
      let one = u16_form.takes bytes a.0.0 a.0.1 fits a.1 in
      let two = taken a.0.0 a.0.1 text rest one.rest_fits g.1 in
      record {
        parts = one.parts ∙ ap (λ (w : List ℕ). u16 a.0.0 ++ w) two.parts ∙ ap (λ (n : ℕ). u16 n ++ (text ++ rest)) (sym two.fits.0);
        fits = (omega (arith, two.fits.0, ltb-false most a.0.0 g.0), two.fits.1);
        ends = tt;
        rest_fits = two.rest_fits;
      };
  again = λ text rest fits ends.
      let small : ltb most (length text) ≡ false = le-ltb _ _ fits.0 in
      rw (u16_form.again (length text) (text ++ rest) (omega (arith, fits.0)) tt, small) (taken_again text rest);
}

pub text_of-utf8 : (text : List ℕ) → IsUtf8 text → text_of text ≡ Some text
text_of-utf8 text h = rw (is_utf8-from_IsUtf8 text h) refl

pub text_of-not_utf8 : (text : List ℕ) → (IsUtf8 text → ⊥) → text_of text ≡ None
text_of-not_utf8 text h = rw (false_from_ne_true (is_utf8 text) (λ e. h (IsUtf8-from_is_utf8 text e))) refl

text_of-Some : (text name : List ℕ) → text_of text ≡ Some name → (text ≡ name) × IsUtf8 text
text_of-Some text name e =
    elim (cases_Bool (is_utf8 text)) [
      | inl is ↦
          (some_is text name (ap (λ b. cond b (some_of text) None) (sym is) ∙ e), IsUtf8-from_is_utf8 text is)
      | inr other ↦
          let none : none_of ≡ some_of name = ap (λ b. cond b (some_of text) None) (sym other) ∙ e in
          absurd cc
    ]

pub channel_form : IsForm short_text IsChannel Any channel_at
unfolding channel_at
channel_form = checked_form IsUtf8 text_of text_of-Some text_of-utf8 short_form

has_dash-false : (text : List ℕ) → has_dash text ≡ false → HasNoDash text
has_dash-false [] e = tt
has_dash-false (b ∷ bs) e = eqb-false b 45 e

no_dash : (text : List ℕ) → HasNoDash text → has_dash text ≡ false
no_dash [] h = refl
no_dash (b ∷ bs) h = ne_eqb b 45 h

lock_text_of-Some : (text name : List ℕ) → lock_text_of text ≡ Some name → (text ≡ name) × (IsUtf8 text × HasNoDash text)
lock_text_of-Some text name e =
    let g = guard_some (has_dash text) (text_of text) name e in
    let t = text_of-Some text name g.1 in
    (t.0, (t.1, has_dash-false text g.0))

lock_text_of-again : (text : List ℕ) → IsUtf8 text × HasNoDash text → lock_text_of text ≡ Some text
lock_text_of-again text h = ap (λ b. cond b none_of (text_of text)) (no_dash text h.1) ∙ text_of-utf8 text h.0

pub lock_name_form : IsForm short_text IsLockName Any lock_name_at
unfolding lock_name_at
lock_name_form =
    same_form (checked_form (λ t. IsUtf8 t × HasNoDash t) lock_text_of lock_text_of-Some lock_text_of-again short_form)
    (λ t. refl) (λ t h. ((h.0, h.1.0), h.1.1)) (λ t h. (h.0.0, (h.0.1, h.1)))

All-bytes : (bytes : List ℕ) → IsBytes bytes → All (λ b. b < 256) bytes
All-bytes bytes h = All-from_get_or (λ b. b < 256) bytes 0 (λ i lt. h i)

IsBytes-from_all : (bytes : List ℕ) → All (λ b. b < 256) bytes → IsBytes bytes
IsBytes-from_all bytes h i =
    elim (cases_lt i (length bytes)) [
      | inl lt ↦ h i 0 lt
      | inr le ↦ rw (get_or_past bytes i 0 le) (omega arith)
    ]

pub data_form : IsForm long_text IsData Any data_at
unfolding data_at
data_form = same_form (long_form 16384 (omega arith)) (λ t. refl) (λ t h. (h.0, All-bytes t h.1)) (λ t h. (h.0, IsBytes-from_all t h.1))

-- A text that passes the test is ASCII.
pub IsAscii-from_test : (text : List ℕ) → is_ascii text ≡ true → IsAscii text
IsAscii-from_test [] e = IsAscii-nil
IsAscii-from_test (b ∷ bs) e =
    let h = and_parts (ltb b 128) (is_ascii bs) e in
    IsAscii-cons b bs (ltb-true b 128 h.0) (IsAscii-from_test bs h.1)

pub test_from_IsAscii : (text : List ℕ) → IsAscii text → is_ascii text ≡ true
test_from_IsAscii [] h = refl
test_from_IsAscii (b ∷ bs) h = and_from (ltb b 128) (is_ascii bs) (lt-ltb b 128 (h 0)) (test_from_IsAscii bs (λ i. h (suc i)))

pub origin_text_of-again : (text : List ℕ) → IsAscii text → origin_text_of text ≡ Some text
origin_text_of-again text h = ap (λ b. cond b (some_of text) None) (test_from_IsAscii text h)

origin_text_of-Some : (text origin : List ℕ) → origin_text_of text ≡ Some origin → (text ≡ origin) × IsAscii text
origin_text_of-Some text origin e =
    elim (cases_Bool (is_ascii text)) [
      | inl is ↦
          (some_is text origin (ap (λ b. cond b (some_of text) None) (sym is) ∙ e), IsAscii-from_test text is)
      | inr other ↦
          let none : none_of ≡ some_of origin = ap (λ b. cond b (some_of text) None) (sym other) ∙ e in
          absurd cc
    ]

pub origin_text_of-not_ascii : (text : List ℕ) → (IsAscii text → ⊥) → origin_text_of text ≡ None
origin_text_of-not_ascii text h = ap (λ b. cond b (some_of text) None) (false_from_ne_true (is_ascii text) (λ e. h (IsAscii-from_test text e)))

pub origin_form : IsForm long_text IsOrigin Any origin_at
unfolding origin_at
origin_form =
    same_form (checked_form IsAscii origin_text_of origin_text_of-Some origin_text_of-again (long_form 4096 (omega arith)))
    (λ t. refl) (λ t h. (h.0.0, h.1)) (λ t h. ((h.0, λ i. omega (arith, h.1 i)), h.1))

-- Lists

-- The items of a list of known length are decoded one after another.
items_taken : {X : Type 0} (s : X → List ℕ) (F : X → Type 0) (read : List ℕ → Option (X × List ℕ)) → IsForm s F Any read
    → (n : ℕ) (bytes : List ℕ) (xs : List X) (rest : List ℕ) → IsBytes bytes → items_at read n bytes ≡ Some (xs, rest)
    → Takes (flat_map s) (λ xs. (length xs ≡ n) × AllByRecursion F xs) Any bytes xs rest
unfolding items_at
items_taken {X} s F read form zero bytes xs rest fits e =
    subst (λ (z : List X × List ℕ). Takes (flat_map s) (λ xs. (length xs ≡ 0) × AllByRecursion F xs) Any bytes z.0 z.1) (some_is ([], bytes) (xs, rest) e)
    (record { parts = refl; fits = (refl, tt); ends = tt; rest_fits = fits })
items_taken {X} s F read form (suc n) bytes xs rest fits e =
    let a = bind_some (read bytes) (λ first. items_at read n first.1 >>= λ others. Some (first.0 ∷ others.0, others.1)) (xs, rest) e in
    let b = bind_some (items_at read n a.0.1) (λ others. Some (a.0.0 ∷ others.0, others.1)) (xs, rest) a.2 in
    let one = form.takes bytes a.0.0 a.0.1 fits a.1 in
    let two = items_taken s F read form n a.0.1 b.0.0 b.0.1 one.rest_fits b.1 in
    subst (λ (z : List X × List ℕ). Takes (flat_map s) (λ xs. (length xs ≡ suc n) × AllByRecursion F xs) Any bytes z.0 z.1) (some_is (a.0.0 ∷ b.0.0, b.0.1) (xs, rest) b.2)
    (record {
      parts = one.parts ∙ ap (λ (w : List ℕ). s a.0.0 ++ w) two.parts ∙ sym (append_assoc (s a.0.0) (flat_map s b.0.0) b.0.1);
      fits = (ap suc two.fits.0, (one.fits, two.fits.1));
      ends = tt;
      rest_fits = two.rest_fits;
    })

items_again : {X : Type 0} (s : X → List ℕ) (F : X → Type 0) (read : List ℕ → Option (X × List ℕ)) → IsForm s F Any read
    → (xs : List X) (rest : List ℕ) → AllByRecursion F xs → items_at read (length xs) (flat_map s xs ++ rest) ≡ Some (xs, rest)
unfolding items_at
items_again {X} s F read form [] rest fits = refl
items_again {X} s F read form (x ∷ xs) rest fits =
    ap (items_at read (suc (length xs))) (append_assoc (s x) (flat_map s xs) rest)
    ∙ ap (λ (o : Option (X × List ℕ)). o >>= λ first. items_at read (length xs) first.1 >>= λ others. Some (first.0 ∷ others.0, others.1)) (form.again x (flat_map s xs ++ rest) fits.0 tt)
    ∙ ap (λ (o : Option (List X × List ℕ)). o >>= λ others. Some (x ∷ others.0, others.1)) (items_again s F read form xs rest fits.1)

pub list_form : {X : Type 0} {s : X → List ℕ} {F : X → Type 0} {read : List ℕ → Option (X × List ℕ)} (most : ℕ) → most < 2 ^ 16 → IsForm s F Any read
    → IsForm (λ xs. u16 (length xs) ++ flat_map s xs) (λ xs. (length xs ≤ most) × AllByRecursion F xs) Any (list_at read most)
unfolding list_at
list_form {X} {s} {F} {read} most lt form = record {
  takes = λ bytes xs rest fits e.
      let a = bind_some (number_at w16 bytes) (λ n. cond (ltb most n.0) None (items_at read n.0 n.1)) (xs, rest) e in
      let g = guard_some (ltb most a.0.0) (items_at read a.0.0 a.0.1) (xs, rest) a.2 in
      let one = u16_form.takes bytes a.0.0 a.0.1 fits a.1 in
      let two = items_taken s F read form a.0.0 a.0.1 xs rest one.rest_fits g.1 in
      record {
        parts = one.parts ∙ ap (λ (w : List ℕ). u16 a.0.0 ++ w) two.parts ∙ ap (λ (n : ℕ). u16 n ++ (flat_map s xs ++ rest)) (sym two.fits.0);
        fits = (omega (arith, two.fits.0, ltb-false most a.0.0 g.0), two.fits.1);
        ends = tt;
        rest_fits = two.rest_fits;
      };
  again = λ xs rest fits ends.
      let small : ltb most (length xs) ≡ false = le-ltb _ _ fits.0 in
      rw (u16_form.again (length xs) (flat_map s xs ++ rest) (omega (arith, fits.0)) tt, small) (items_again s F read form xs rest fits.1);
}
