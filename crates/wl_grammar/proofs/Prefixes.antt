-- Lemmas on prefixes of byte strings.
use Rattle.std.proofs.Common.{ℕ, List, ◌++◌, sym, ap, ◌∙◌, append_assoc}
use Rattle.wl_grammar.specs.Prefixes.{IsPrefixOf}

-- Appending to the bytes keeps each prefix.
pub IsPrefixOf-append : (part bytes more : List ℕ) → IsPrefixOf part bytes → IsPrefixOf part (bytes ++ more)
IsPrefixOf-append part bytes more h = (h.0 ++ more, ap (λ l. l ++ more) h.1 ∙ append_assoc part h.0 more)

-- Prepending the same bytes to both keeps the prefix.
pub append-IsPrefixOf : (before part bytes : List ℕ) → IsPrefixOf part bytes → IsPrefixOf (before ++ part) (before ++ bytes)
append-IsPrefixOf before part bytes h = (h.0, ap (λ l. before ++ l) h.1 ∙ sym (append_assoc before part h.0))

-- A prefix of a prefix is a prefix.
pub IsPrefixOf-trans : (a b c : List ℕ) → IsPrefixOf a b → IsPrefixOf b c → IsPrefixOf a c
IsPrefixOf-trans a b c h k = (h.0 ++ k.0, k.1 ∙ ap (λ l. l ++ k.0) h.1 ∙ append_assoc a h.0 k.0)
