-- Lemmas on filtered lists of tabs.
use Rattle.std.proofs.Common.{◌≡◌, ◌≤◌, ◌<◌, ◌+◌, ℕ, suc, Bool, true, false, cond, List, [], ◌∷◌, ◌++◌, filter, drop, length, sym, ap, ◌∙◌, append_assoc, arith}
use Rattle.std.specs.Prelude.{slice_index_or}
use Rattle.std.proofs.Math.Seq.{drop-cons}
use Rattle.wl_grammar.specs.Grammar.{TabsRiseFrom}

rises-from : (a b : ℕ) (ps : List (ℕ × ℕ)) → a ≤ b → TabsRiseFrom b ps → TabsRiseFrom a ps
rises-from a b [] le h = tt
rises-from a b (p ∷ ps) le h = (omega (arith, h.0), h.1)

rises-filter_as : (a : ℕ) (p : ℕ × ℕ) (rest : List (ℕ × ℕ)) (b : Bool) → a ≤ p.0 → TabsRiseFrom (p.0 + 1) rest → TabsRiseFrom a (cond b (p ∷ rest) rest)
rises-filter_as a p rest true le h = (le, h)
rises-filter_as a p rest false le h = rises-from a (p.0 + 1) rest (omega arith) h

-- Filtering a list of ascending tabs keeps it ascending.
pub rises-filter : (keep : ℕ × ℕ → Bool) (a : ℕ) (ps : List (ℕ × ℕ)) → TabsRiseFrom a ps → TabsRiseFrom a (filter keep ps)
rises-filter keep a [] h = tt
rises-filter keep a (p ∷ ps) h = rises-filter_as a p (filter keep ps) (keep p) h.0 (rises-filter keep (p.0 + 1) ps h.1)

-- One more tab is kept or skipped.
pub listed-more : (keep : ℕ × ℕ → Bool) (part : List (ℕ × ℕ)) (p : ℕ × ℕ) (ps : List (ℕ × ℕ)) → keep p ≡ true → (part ++ p ∷ []) ++ filter keep ps ≡ part ++ filter keep (p ∷ ps)
listed-more keep part p ps is = append_assoc part (p ∷ []) (filter keep ps) ∙ ap (λ b. part ++ cond b (p ∷ filter keep ps) (filter keep ps)) (sym is)

pub listed-passed : (keep : ℕ × ℕ → Bool) (part : List (ℕ × ℕ)) (p : ℕ × ℕ) (ps : List (ℕ × ℕ)) → keep p ≡ false → part ++ filter keep ps ≡ part ++ filter keep (p ∷ ps)
listed-passed keep part p ps is = ap (λ b. part ++ cond b (p ∷ filter keep ps) (filter keep ps)) (sym is)

-- A suffix of a list starts with the item at its index.
pub front_item : {X : Type 0} (xs : List X) (i : ℕ) (d : X) → i < length xs → drop i xs ≡ slice_index_or xs i d ∷ drop (i + 1) xs
front_item xs i d lt =
    let e : suc i ≡ i + 1 = omega arith in
    drop-cons xs i d lt ∙ ap (λ k. slice_index_or xs i d ∷ drop k xs) e
