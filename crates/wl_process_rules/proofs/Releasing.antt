-- Lemmas on the places behind the next one.
use Rattle.std.proofs.Common.{◌≡◌, ◌+◌, ◌-◌, ◌^◌, ◌<◌, ◌≤◌, ◌++◌, min, max, ℕ, zero, suc, true, false, List, [], ◌∷◌, length, slice_set, slice_index_or, Option, Some, None, is_some, Result, Ok, Err, OnOk, OnErr, refl, ap, arith}
use Rattle.wl_process_rules.specs.ShardOutput.{Places, ready, behind, filled}

-- A place in the list gets the bytes if it is not finished.
pub fills_within : (places : Places) (index : ℕ) (bytes : List ℕ) (place : Option (List ℕ)) → index < length places → place ≡ slice_index_or places index place → is_some place ≡ false → slice_set places index (Some bytes) ≡ filled index bytes places
fills_within [] index bytes place h is none = absurd (omega (arith, h))
fills_within (None ∷ places) zero bytes place h is none = refl
fills_within (Some first ∷ places) zero bytes place h is none = elim place [ None ↦ cc | Some other ↦ cc ]
fills_within (first ∷ places) (suc index) bytes place h is none = ap (λ l. first ∷ l) (fills_within places index bytes place (omega (arith, h)) is none)

-- A finished place stays as it is.
pub stays_within : (places : Places) (index : ℕ) (bytes : List ℕ) (place : Option (List ℕ)) → index < length places → place ≡ slice_index_or places index place → is_some place ≡ true → places ≡ filled index bytes places
stays_within [] index bytes place h is some = absurd (omega (arith, h))
stays_within (None ∷ places) zero bytes place h is some = elim place [ None ↦ cc | Some other ↦ cc ]
stays_within (Some first ∷ places) zero bytes place h is some = refl
stays_within (first ∷ places) (suc index) bytes place h is some = ap (λ l. first ∷ l) (stays_within places index bytes place (omega (arith, h)) is some)

-- One more place that is not finished, in front of the index.
pub fills_longer : (places : Places) (index : ℕ) (bytes : List ℕ) → length places < index → filled index bytes (places ++ None ∷ []) ≡ filled index bytes places
fills_longer places zero bytes h = absurd (omega (arith, h))
fills_longer [] (suc index) bytes h = refl
fills_longer (place ∷ places) (suc index) bytes h = ap (λ l. place ∷ l) (fills_longer places index bytes (omega (arith, h)))

-- The place right behind the list.
pub fills_end : (places : Places) (index : ℕ) (bytes : List ℕ) → length places ≡ index → places ++ Some bytes ∷ [] ≡ filled index bytes places
fills_end [] zero bytes h = refl
fills_end [] (suc index) bytes h = absurd (omega (arith, h))
fills_end (place ∷ places) zero bytes h = absurd (omega (arith, h))
fills_end (place ∷ places) (suc index) bytes h = ap (λ l. place ∷ l) (fills_end places index bytes (omega (arith, h)))

-- Lengths of the parts.
pub ready-within : (places : Places) → length (ready places) ≤ length places
ready-within [] = omega arith
ready-within (None ∷ places) = omega arith
ready-within (Some bytes ∷ places) = omega (arith, ready-within places)

pub behind-within : (places : Places) → length (behind places) + min 1 (length (behind places)) + length (ready places) ≤ length places
behind-within [] = omega arith
behind-within (None ∷ places) = omega arith
behind-within (Some bytes ∷ places) = omega (arith, behind-within places)

pub filled-length : (index : ℕ) (bytes : List ℕ) (places : Places) → length (filled index bytes places) ≡ max (length places) (index + 1)
filled-length zero bytes [] = refl
filled-length zero bytes (None ∷ places) = omega arith
filled-length zero bytes (Some first ∷ places) = omega arith
filled-length (suc index) bytes [] = omega (arith, filled-length index bytes [])
filled-length (suc index) bytes (place ∷ places) = omega (arith, filled-length index bytes places)

-- The next place and the later ones stay numbers of 32 bits.
pub bound_in_turn : (next count : ℕ) (later left : Places) → next < 2 ^ 32 → next + length later + min 1 (length later) ≤ 2 ^ 32 → left ≡ behind later → count ≡ length (ready later)
    → next + (1 + count) + length left + min 1 (length left) ≤ 2 ^ 32
bound_in_turn next count later left here bound is counted = rw (is, counted) (omega (arith, here, bound, behind-within later))

pub bound_early : (next place : ℕ) (bytes : List ℕ) (later : Places) → next < place → place < 2 ^ 32 → next + length later + min 1 (length later) ≤ 2 ^ 32
    → next + length (filled (place - next - 1) bytes later) + min 1 (length (filled (place - next - 1) bytes later)) ≤ 2 ^ 32
bound_early next place bytes later early here bound = omega (arith, early, here, bound, filled-length (place - next - 1) bytes later)

pub bound_filled : {E : Type 0} (r : Result (Unit {0}) E) (next place : ℕ) (bytes : List ℕ) (later new : Places) → next < place → place < 2 ^ 32 → next + length later + min 1 (length later) ≤ 2 ^ 32
    → OnOk r (new ≡ filled (place - next - 1) bytes later) → OnErr r (new ≡ later) → next + length new + min 1 (length new) ≤ 2 ^ 32
bound_filled {E} (Ok done) next place bytes later new early here bound is same = rw is (bound_early next place bytes later early here bound)
bound_filled {E} (Err refused) next place bytes later new early here bound is same = rw same bound
