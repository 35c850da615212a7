-- Decoding of a list's items one after another, in a loop.
use Rattle.std.proofs.Common.{◌≡◌, ℕ, suc, ◌-◌, ◌+◌, ◌≤◌, ◌<◌, List, [], ◌∷◌, ◌++◌, Option, Some, None, refl, sym, ap, ◌∙◌, append_assoc, arith}
use Rattle.std.proofs.lemmas.List.{append-nil}
use Rattle.wl_frames.specs.declared.reading.fault.ReadFault.{ReadFault}
use Rattle.wl_frames.specs.declared.reading.fault.ReadFault.TheVariants as read_fault
use Rattle.wl_frames.specs.Reading.{◌>>=◌, Fails, items_at}

-- The items decoded before, followed by those still to be decoded.
abbrev pub with_front : {X : Type 0} → List X → Option (List X × List ℕ) → Option (List X × List ℕ)
with_front front read = read >>= λ x. Some (front ++ x.0, x.1)

regroup : {X : Type 0} (front : List X) (x : X) (read : Option (List X × List ℕ)) → with_front front (read >>= λ xs. Some (x ∷ xs.0, xs.1)) ≡ with_front (front ++ x ∷ []) read
regroup {X} front x (Some xs) = ap (λ (ys : List X). Some (ys, xs.1)) (simp append_assoc)
regroup front x None = refl

pub goes_on : {X : Type 0} (read : List ℕ → Option (X × List ℕ)) (front : List X) (count i : ℕ) (bytes : List ℕ) (x : X) (after : List ℕ) (total : Option (List X × List ℕ)) → i < count → read bytes ≡ Some (x, after)
    → with_front front (items_at read (count - i) bytes) ≡ total → with_front (front ++ x ∷ []) (items_at read (count - (i + 1)) after) ≡ total
unfolding items_at
goes_on read front count i bytes x after total lt h so_far =
    let k : count - i ≡ suc (count - (i + 1)) = omega arith in
    let one : with_front front (items_at read (count - i) bytes) ≡ with_front (front ++ x ∷ []) (items_at read (count - (i + 1)) after) = rw (k, h) (regroup front x (items_at read (count - (i + 1)) after)) in
    sym one ∙ so_far

pub ends : {X : Type 0} (read : List ℕ → Option (X × List ℕ)) (e : ReadFault) (front : List X) (count i : ℕ) (bytes : List ℕ) (total : Option (List X × List ℕ)) → i < count → Fails e (read bytes)
    → with_front front (items_at read (count - i) bytes) ≡ total → Fails e total
unfolding items_at
ends read read_fault.Memory front count i bytes total lt h so_far = tt
ends read read_fault.Field front count i bytes total lt h so_far =
    let k : count - i ≡ suc (count - (i + 1)) = omega arith in
    let one : with_front front (items_at read (count - i) bytes) ≡ None = rw (k, h) refl in
    sym so_far ∙ one

pub is_done : {X : Type 0} (read : List ℕ → Option (X × List ℕ)) (front : List X) (count i : ℕ) (bytes : List ℕ) (total : Option (List X × List ℕ)) → count ≤ i → with_front front (items_at read (count - i) bytes) ≡ total → total ≡ Some (front, bytes)
unfolding items_at
is_done {X} read front count i bytes total le so_far =
    let k : count - i ≡ 0 = omega arith in
    let one : with_front front (items_at read (count - i) bytes) ≡ Some (front, bytes) = rw k (ap (λ (xs : List X). Some (xs, bytes)) (append-nil front)) in
    sym so_far ∙ one
