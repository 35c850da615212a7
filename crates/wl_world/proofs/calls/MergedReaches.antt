-- Merging the destinations that took a post with those that were full gives the post's reach.
use Rattle.std.proofs.Common.{◌≡◌, ℕ, ◌+◌, ◌≤◌, Bool, true, false, not, ◌&&◌, cond, ltb, List, [], ◌∷◌, Option, refl, ap, ◌∙◌, arith, one-add}
use Rattle.std.proofs.lemmas.Bool.{lt-ltb, le-ltb}
use Rattle.wl_broadcast.specs.Channels.{Object, is_destination, has_room, taking_from, full_from}
use Rattle.wl_world_messages.specs.declared.effect.Reached.{Reached}
use Rattle.wl_world_messages.specs.declared.effect.Reached.TheVariants.{Took, Full}
use Rattle.wl_world_model.specs.Replies.{reached_from}
use Rattle.wl_world.specs.Merging.{merged}

-- The first number, if there is one, is at least `least`.
abbrev pub Head : ℕ → List ℕ → Type 0
Head least [] = Unit {0}
Head least (x ∷ xs) = least ≤ x

Head-less : (k : ℕ) (xs : List ℕ) → Head (k + 1) xs → Head k xs
Head-less k [] h = tt
Head-less k (x ∷ xs) h = omega arith

Head-cond : (b : Bool) (k : ℕ) (xs : List ℕ) → Head (k + 1) xs → Head k (cond b (k ∷ xs) xs)
Head-cond true k xs h = omega arith
Head-cond false k xs h = Head-less k xs h

taking-head : (k : ℕ) (s : Option ℕ) (n : List ℕ) (os : List Object) → Head k (taking_from k s n os)
taking-head k s n [] = tt
taking-head k s n (o ∷ os) = Head-cond (is_destination s n k o && has_room o) k (taking_from (k + 1) s n os) (taking-head (k + 1) s n os)

full-head : (k : ℕ) (s : Option ℕ) (n : List ℕ) (os : List Object) → Head k (full_from k s n os)
full-head k s n [] = tt
full-head k s n (o ∷ os) = Head-cond (is_destination s n k o && not (has_room o)) k (full_from (k + 1) s n os) (full-head (k + 1) s n os)

merged-took : (k : ℕ) (ts fs : List ℕ) → Head (k + 1) fs → merged (k ∷ ts) fs ≡ Took k ∷ merged ts fs
merged-took k ts [] h = refl
merged-took k ts (f ∷ fs) h = let e : ltb k f ≡ true = lt-ltb k f (omega arith) in rw (e, one-add) refl

merged-full : (k : ℕ) (ts fs : List ℕ) → Head (k + 1) ts → merged ts (k ∷ fs) ≡ Full k ∷ merged ts fs
merged-full k [] fs h = refl
merged-full k (t ∷ ts) fs h = let e : ltb t k ≡ false = le-ltb t k (omega arith) in rw e refl

step : (d r : Bool) (k : ℕ) (ts fs : List ℕ) → Head (k + 1) ts → Head (k + 1) fs → (rest : List Reached) → merged ts fs ≡ rest → merged (cond (d && r) (k ∷ ts) ts) (cond (d && not r) (k ∷ fs) fs) ≡ cond d (cond r (Took k) (Full k) ∷ rest) rest
step true true k ts fs h g rest e = merged-took k ts fs g ∙ ap (λ z. Took k ∷ z) e
step true false k ts fs h g rest e = merged-full k ts fs h ∙ ap (λ z. Full k ∷ z) e
step false r k ts fs h g rest e = e

pub merged-reached : (k : ℕ) (s : Option ℕ) (n : List ℕ) (os : List Object) → merged (taking_from k s n os) (full_from k s n os) ≡ reached_from k s n os
merged-reached k s n [] = refl
merged-reached k s n (o ∷ os) =
    step (is_destination s n k o) (has_room o) k (taking_from (k + 1) s n os) (full_from (k + 1) s n os) (taking-head (k + 1) s n os) (full-head (k + 1) s n os) (reached_from (k + 1) s n os) (merged-reached (k + 1) s n os)
