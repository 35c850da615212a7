-- Lemmas on lists that are encoded one item after another, after some bytes.
use Rattle.std.proofs.Common.{◌≡◌, ℕ, zero, suc, ◌+◌, ◌<◌, ◌≤◌, List, [], ◌∷◌, ◌++◌, length, get_or, take, sym, ap, subst, ◌∙◌, append_assoc, append-nil, arith}
use Rattle.std.specs.List.{flat_map, AllByRecursion}
use Rattle.std.proofs.lemmas.List.{take_more, take_all}
use Rattle.std.proofs.lemmas.List.Concat.{flat_map-append}
use Rattle.wl_grammar.specs.Prefixes.{IsPrefixOf}
use Rattle.wl_grammar.proofs.Prefixes.{IsPrefixOf-trans}

-- Before the first item, nothing is appended.
pub spelled_none : (first out : List ℕ) → out ≡ first → out ≡ first ++ []
spelled_none first out e = e ∙ sym (append-nil first)

-- One more item appends its encoding.
pub spelled_more : {X : Type 0} (spell : X → List ℕ) (xs : List X) (i : ℕ) (d x : X) (first out new : List ℕ) → i < length xs → x ≡ get_or xs i d
    → out ≡ first ++ flat_map spell (take i xs) → new ≡ out ++ spell x → new ≡ first ++ flat_map spell (take (i + 1) xs)
spelled_more {X} spell xs i d x first out new lt is before one =
    let front = flat_map spell (take i xs) in
    let step : take (i + 1) xs ≡ take i xs ++ x ∷ [] = take_more xs i d lt ∙ ap (λ (y : X). take i xs ++ y ∷ []) (sym is) in
    let more : flat_map spell (take (i + 1) xs) ≡ front ++ spell x =
    ap (flat_map spell) step ∙ flat_map-append spell (take i xs) (x ∷ []) ∙ ap (λ (l : List ℕ). front ++ l) (append-nil (spell x)) in
    one ∙ ap (λ (l : List ℕ). l ++ spell x) before ∙ append_assoc first front (spell x) ∙ ap (λ (l : List ℕ). first ++ l) (sym more)

-- At the end, the encodings of all items are appended.
pub spelled_all : {X : Type 0} (spell : X → List ℕ) (xs : List X) (i : ℕ) (old count out : List ℕ) → length xs ≤ i → out ≡ (old ++ count) ++ flat_map spell (take i xs) → out ≡ old ++ (count ++ flat_map spell xs)
spelled_all {X} spell xs i old count out le e =
    e ∙ ap (λ (ys : List X). (old ++ count) ++ flat_map spell ys) (take_all i xs le) ∙ append_assoc old count (flat_map spell xs)

-- The bytes before the list are unchanged.
pub kept_before : (old count rest out : List ℕ) → out ≡ (old ++ count) ++ rest → IsPrefixOf old out
kept_before old count rest out e = (count ++ rest, e ∙ append_assoc old count rest)

pub kept_through : (old count rest out new : List ℕ) → out ≡ (old ++ count) ++ rest → IsPrefixOf out new → IsPrefixOf old new
kept_through old count rest out new e h = IsPrefixOf-trans old out new (kept_before old count rest out e) h

-- A property of all items is a property of each.
pub all_at : {X : Type 0} (P : X → Type 0) (xs : List X) (i : ℕ) (x : X) → AllByRecursion P xs → i < length xs → x ≡ get_or xs i x → P x
all_at P [] i x all lt is = absurd (omega arith)
all_at P (y ∷ ys) zero x all lt is = subst P (sym is) all.0
all_at P (y ∷ ys) (suc i) x all lt is = all_at P ys i x all.1 (omega arith) is
