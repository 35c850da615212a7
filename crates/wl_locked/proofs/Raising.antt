-- Lemmas on lists over shards: raised amounts and added receipts.
use Rattle.std.proofs.Common.{◌≡◌, ◌<◌, ◌+◌, ◌==◌, append-nil, ⊎_elim, Bool, ℕ, zero, suc, List, [], ◌∷◌, ◌++◌, length, refl, sym, ap, ◌∙◌, arith}
use Rattle.std.specs.Prelude.{slice_index_or, if◌then◌else◌}
use Rattle.std.proofs.lemmas.Bool.{cases_eq, eq-eqb, ne_eqb}
use Rattle.wl_locked.specs.declared.receipt.Receipt.{Receipt}
use Rattle.wl_locked.specs.Receipts.{total}
use Rattle.wl_locked.specs.Sharding.{receipts_of, receipts_in, with_receipt, raised}

pub raised-length : (ns : List ℕ) (lane : List (List Receipt)) → length (raised ns lane) ≡ length ns
raised-length [] lane = refl
raised-length (n ∷ ns) [] = refl
raised-length (n ∷ ns) (rs ∷ lane) = omega (arith, raised-length ns lane)

-- Each amount is raised by the number of receipts of its shard.
pub raised-at : (ns : List ℕ) (lane : List (List Receipt)) (shard : ℕ) → shard < length ns → slice_index_or (raised ns lane) shard 0 ≡ slice_index_or ns shard 0 + length (receipts_of shard lane)
raised-at [] lane shard lt = absurd (omega arith)
raised-at (n ∷ ns) [] zero lt = omega arith
raised-at (n ∷ ns) [] (suc shard) lt = omega arith
raised-at (n ∷ ns) (rs ∷ lane) zero lt = refl
raised-at (n ∷ ns) (rs ∷ lane) (suc shard) lt = raised-at ns lane shard (omega arith)

-- One more lane adds its receipts to the total of a shard.
pub total-in-push : (shard : ℕ) (lanes : List (List (List Receipt))) (lane : List (List Receipt)) → total (receipts_in shard (lanes ++ lane ∷ [])) ≡ total (receipts_in shard lanes) + length (receipts_of shard lane)
total-in-push shard [] lane = omega arith
total-in-push shard (l ∷ lanes) lane = omega (arith, total-in-push shard lanes lane)

receipts-same : (shard : ℕ) (r : Receipt) (lane : List (List Receipt)) → shard < length lane → receipts_of shard (with_receipt shard r lane) ≡ receipts_of shard lane ++ r ∷ []
receipts-same shard r [] lt = absurd (omega arith)
receipts-same zero r (rs ∷ lane) lt = refl
receipts-same (suc shard) r (rs ∷ lane) lt = receipts-same shard r lane (omega arith)

receipts-other : (shard : ℕ) (r : Receipt) (lane : List (List Receipt)) (s : ℕ) → (shard ≡ s → ⊥) → receipts_of s (with_receipt shard r lane) ≡ receipts_of s lane
receipts-other shard r [] s ne = refl
receipts-other zero r (rs ∷ lane) zero ne = absurd (ne refl)
receipts-other zero r (rs ∷ lane) (suc s) ne = refl
receipts-other (suc shard) r (rs ∷ lane) zero ne = refl
receipts-other (suc shard) r (rs ∷ lane) (suc s) ne = receipts-other shard r lane s (λ e. ne (ap suc e))

-- A receipt is added to its shard and to no other.
pub receipts-with : (shard : ℕ) (r : Receipt) (lane : List (List Receipt)) (s : ℕ) → shard < length lane → receipts_of s (with_receipt shard r lane) ≡ receipts_of s lane ++ (if shard == s then r ∷ [] else [])
receipts-with shard r lane s lt =
    let more : Bool → List Receipt = λ b. receipts_of s lane ++ (if b then r ∷ [] else []) in
    ⊎_elim
    (λ (e : shard ≡ s). ap (λ k. receipts_of k (with_receipt shard r lane)) (sym e) ∙ receipts-same shard r lane lt ∙ ap (λ k. receipts_of k lane ++ r ∷ []) e ∙ ap more (sym (eq-eqb shard s e)))
    (λ (ne : shard ≡ s → ⊥). receipts-other shard r lane s ne ∙ sym (append-nil (receipts_of s lane)) ∙ ap more (sym (ne_eqb shard s ne)))
    (cases_eq shard s)
