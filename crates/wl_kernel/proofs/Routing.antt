-- Well-formedness of routed frames: each one is well-formed if the tab's frame was.
use Rattle.std.proofs.Common.{◌≡◌, ◌≢◌, ℕ, Bool, List, [], ◌∷◌, length, map, filter, count_by, refl, sym, ap, ◌∙◌, arith}
use Rattle.std.proofs.lemmas.List.Sums.{length-filter}
use Rattle.std.specs.List.{AllByRecursion}
use Rattle.wl_grammar.specs.declared.frame.Post.{Post}
use Rattle.wl_grammar.specs.declared.frame.Frame.{Frame}
use Rattle.wl_grammar.specs.Grammar.{IsTab, IsPost, IsWellFormed}
use Rattle.wl_kernel.specs.Routes.{heard_of}

-- A well-formed post is well-formed as each receiver gets it.
pub all_heard : (t : ℕ) (p : Post) (xs : List ℕ) → IsTab t → IsPost p → AllByRecursion (λ (h : ℕ × Frame). IsWellFormed h.1) (map (λ n. (n, heard_of t p)) xs)
all_heard t p [] tab post = tt
all_heard t p (x ∷ xs) tab post =
    (record { source = tab; number = post.number; channel = post.channel; bytes = post.bytes }, all_heard t p xs tab post)

-- Whether a post has a receiver

empty : (xs : List ℕ) → length xs ≡ 0 → xs ≡ []
empty [] none = refl
empty (x ∷ xs) none = absurd (omega arith)

pub nobody : (test : ℕ → Bool) (xs : List ℕ) (n : ℕ) → n ≡ count_by test xs → n ≡ 0 → filter test xs ≡ []
nobody test xs n counted none = empty (filter test xs) (length-filter test xs ∙ sym counted ∙ none)

pub somebody : (test : ℕ → Bool) (xs : List ℕ) (n : ℕ) → n ≡ count_by test xs → n ≢ 0 → filter test xs ≢ []
somebody test xs n counted some none = some (counted ∙ sym (length-filter test xs) ∙ ap length none)
