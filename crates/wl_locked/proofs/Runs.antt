-- Lemmas on marking receipts one by one.
use Rattle.std.proofs.Common.{◌≡◌, ◌≤◌, ◌<◌, ◌+◌, ◌==◌, ℕ, zero, suc, List, [], ◌∷◌, ◌++◌, length, get_or, set, drop, replicate, Bool, true, false, inl, inr, ⊎_elim, refl, sym, ap, ◌∙◌, subst, arith, add-zero, get_or-set_same, get_or-set_other}
use Rattle.std.specs.Prelude.{if◌then◌else◌}
use Rattle.std.proofs.lemmas.Bool.{cases_Bool, cases_lt, cases_eq, eq-eqb, ne_eqb}
use Rattle.std.proofs.lemmas.Option.{slice_get_within}
use Rattle.std.proofs.Math.Seq.{drop-cons}
use Rattle.std.proofs.Math.ListN.{length-set, length-replicate}
use Rattle.wl_locked.specs.declared.receipt.Step.{Step}
use Rattle.wl_locked.specs.declared.receipt.Receipt.{Receipt}
use Rattle.wl_locked.specs.Receipts.{step_of, IsOther, HasFault, Among, Falls, times, times_in, total, IsMadeOf, IsMismatch}
use Rattle.wl_locked.specs.Marks.{bit, marked, IsFree, IsMarked, IsRefused, AreMarked, AreRefused}

bit-set : (ms : List Bool) (q p : ℕ) → q < length ms → get_or ms q false ≡ false → bit (set ms q true) p ≡ bit ms p + (if q == p then 1 else 0)
bit-set ms q p lt free =
    let to : Bool → ℕ = λ b. if b then 1 else 0 in
    ⊎_elim
    (λ (e : q ≡ p). subst (λ k. bit (set ms q true) k ≡ bit ms k + to (q == k)) e (ap to (get_or-set_same ms q true false lt) ∙ sym (λ i. to (free i) + to (eq-eqb q q refl i))))
    (λ (ne : q ≡ p → ⊥). ap to (get_or-set_other ms q p true false (λ e. ne (sym e))) ∙ sym (ap (λ t. bit ms p + to t) (ne_eqb q p ne) ∙ add-zero (bit ms p)))
    (cases_eq q p)

marked-set : (ms : List Bool) (q : ℕ) → q < length ms → get_or ms q false ≡ false → marked (set ms q true) ≡ marked ms + 1
marked-set [] q lt free = absurd (omega arith)
marked-set (b ∷ ms) zero lt free = rw free (omega arith)
marked-set (b ∷ ms) (suc q) lt free = omega (arith, marked-set ms q (omega arith) free)

pub marked-cons : (steps : List Step) (ms out : List Bool) (least : ℕ) (r : Receipt) (rs : List Receipt) → length ms ≡ length steps → IsFree steps ms least r
    → IsMarked steps (r.place + 1) rs (set ms r.place true) out → IsMarked steps least (r ∷ rs) ms out
marked-cons steps ms out least r rs same free h =
    let lt : r.place < length ms = rw same (slice_get_within steps r.place (step_of r) free.at) in
    record {
      stands = (free.at, h.stands);
      rises = (free.above, h.rises);
      bits = λ p. omega (arith, h.bits p, bit-set ms r.place p lt free.free);
      count = omega (arith, h.count, marked-set ms r.place lt free.free);
      same = h.same ∙ length-set ms r.place true;
    }

pub refused-cons : (steps : List Step) (ms : List Bool) (least : ℕ) (r : Receipt) (rs : List Receipt) (p : ℕ) → length ms ≡ length steps → IsFree steps ms least r
    → IsRefused steps (r.place + 1) rs (set ms r.place true) p → IsRefused steps least (r ∷ rs) ms p
refused-cons steps ms least r rs p same free h =
    let lt : r.place < length ms = rw same (slice_get_within steps r.place (step_of r) free.at) in
    let P : Type 0 = IsRefused steps least (r ∷ rs) ms p in
    ⊎_elim (λ (o : Among (IsOther steps p) rs). inl (inr o)) (⊎_elim (λ (f : Falls p (r.place + 1) rs). inr (inl (inr f))) (λ (t : 1 < bit (set ms r.place true) p + times p rs). inr (inr (omega (arith, t, bit-set ms r.place p lt free.free))))) h

pub refused-here : (steps : List Step) (ms : List Bool) (least : ℕ) (r : Receipt) (rs : List Receipt) → (IsFree steps ms least r → ⊥) → IsRefused steps least (r ∷ rs) ms r.place
refused-here steps ms least r rs taken =
    let to : Bool → ℕ = λ b. if b then 1 else 0 in
    let P : Type 0 = IsRefused steps least (r ∷ rs) ms r.place in
    ⊎_elim
    (λ (low : r.place < least). let t : P = inr (inl (inl (refl, low))) in t)
    (λ (above : least ≤ r.place). ⊎_elim
    (λ (here : get_or ms r.place false ≡ true). let one : bit ms r.place ≡ 1 = ap to here in let again : to (r.place == r.place) ≡ 1 = ap to (eq-eqb r.place r.place refl) in let t : P = inr (inr (omega (arith, one, again))) in t)
    (λ (free : get_or ms r.place false ≡ false). let t : P = inl (inl (refl, λ at. taken (record { above = above; at = at; free = free }))) in t)
    (cases_Bool (get_or ms r.place false)))
    (cases_lt r.place least)

-- Marking no receipt changes no mark.
pub marked-nil : (steps : List Step) (ms : List Bool) (least : ℕ) → IsMarked steps least [] ms ms
marked-nil steps ms least =
    record {
      stands = tt;
      rises = tt;
      bits = λ p. sym (add-zero (bit ms p));
      count = sym (add-zero (marked ms));
      same = refl;
    }

-- One more lane is marked.
pub lanes-cons : (steps : List Step) (ms mid out : List Bool) (rs : List Receipt) (lanes : List (List Receipt)) → IsMarked steps 0 rs ms mid
    → AreMarked steps lanes mid out → AreMarked steps (rs ∷ lanes) ms out
lanes-cons steps ms mid out rs lanes first rest =
    record {
      stands = (first.stands, rest.stands);
      rises = (first.rises, rest.rises);
      bits = λ p. omega (arith, first.bits p, rest.bits p);
      count = omega (arith, first.count, rest.count);
      same = rest.same ∙ first.same;
    }

pub lanes-nil : (steps : List Step) (ms : List Bool) → AreMarked steps [] ms ms
lanes-nil steps ms =
    record {
      stands = tt;
      rises = tt;
      bits = λ p. sym (add-zero (bit ms p));
      count = sym (add-zero (marked ms));
      same = refl;
    }

pub refused-later : (steps : List Step) (ms mid : List Bool) (rs : List Receipt) (lanes : List (List Receipt)) (p : ℕ) → IsMarked steps 0 rs ms mid
    → AreRefused steps lanes mid p → AreRefused steps (rs ∷ lanes) ms p
refused-later steps ms mid rs lanes p first h =
    ⊎_elim (λ (o : Among (HasFault steps p) lanes). inl (inr o)) (λ (t : 1 < bit mid p + times_in p lanes). inr (omega (arith, t, first.bits p))) h

-- In a fresh list of marks no place is marked.
pub bit-none : (n p : ℕ) → bit (replicate n false) p ≡ 0
bit-none zero p = refl
bit-none (suc n) zero = refl
bit-none (suc n) (suc p) = bit-none n p

pub marked-none : (n : ℕ) → marked (replicate n false) ≡ 0
marked-none zero = refl
marked-none (suc n) = omega (arith, marked-none n)

pub marked-le : (ms : List Bool) → marked ms ≤ length ms
marked-le [] = omega arith
marked-le (true ∷ ms) = omega (arith, marked-le ms)
marked-le (false ∷ ms) = omega (arith, marked-le ms)

-- If some place is unmarked, fewer places are marked than there are.
pub marked-lt : (ms : List Bool) (k : ℕ) → k < length ms → get_or ms k false ≡ false → marked ms < length ms
marked-lt [] k lt off = absurd (omega arith)
marked-lt (b ∷ ms) zero lt off = rw off (omega (arith, marked-le ms))
marked-lt (true ∷ ms) (suc k) lt off = omega (arith, marked-lt ms k (omega arith) off)
marked-lt (false ∷ ms) (suc k) lt off = omega (arith, marked-lt ms k (omega arith) off)

-- A suffix of a list starts with the item read.
pub front : {X : Type 0} (xs : List X) (i : ℕ) (x : X) → i < length xs → x ≡ get_or xs i x → drop i xs ≡ x ∷ drop (i + 1) xs
front xs i x lt is =
    let e : suc i ≡ i + 1 = omega arith in
    drop-cons xs i x lt ∙ (λ k. sym is k ∷ drop (e k) xs)

pub total-push : (lanes : List (List Receipt)) (rs : List Receipt) → total (lanes ++ rs ∷ []) ≡ total lanes + length rs
total-push [] rs = omega arith
total-push (l ∷ lanes) rs = omega (arith, total-push lanes rs)

-- If every place is marked in the end, the receipts make up the history.
pub made : (steps : List Step) (lanes : List (List Receipt)) (new : List Bool) → AreMarked steps lanes (replicate (length steps) false) new
    → ((p : ℕ) → p < length new → get_or new p false ≡ true) → IsMadeOf steps lanes
made steps lanes new h all =
    let n = length steps in
    let to : Bool → ℕ = λ b. if b then 1 else 0 in
    let long : length new ≡ n = h.same ∙ length-replicate n false in
    record {
      stands = h.stands;
      rises = h.rises;
      once = λ p lt. let one : bit new p ≡ 1 = ap to (all p (omega arith)) in omega (arith, one, h.bits p, bit-none n p);
    }

pub mismatch : (steps : List Step) (lanes : List (List Receipt)) (p : ℕ) → AreRefused steps lanes (replicate (length steps) false) p → IsMismatch steps lanes p
mismatch steps lanes p h =
    ⊎_elim (λ (o : Among (HasFault steps p) lanes). inl o) (λ (t : 1 < bit (replicate (length steps) false) p + times_in p lanes). inr (omega (arith, t, bit-none (length steps) p))) h

-- If some place is unmarked in the end, there are fewer receipts than steps.
pub fewer : (steps : List Step) (lanes : List (List Receipt)) (new : List Bool) → AreMarked steps lanes (replicate (length steps) false) new
    → (p : ℕ) × (p < length new) × (get_or new p false ≡ false) → total lanes < length steps
fewer steps lanes new h gap =
    let n = length steps in
    let long : length new ≡ n = h.same ∙ length-replicate n false in
    omega (arith, marked-lt new gap.0 gap.1 gap.2, h.count, marked-none n)
