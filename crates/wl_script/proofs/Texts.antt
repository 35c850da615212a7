-- Lemmas on reading words and lines.
use Rattle.std.proofs.Common.{◌≡◌, ℕ, ◌+◌, ◌≤◌, ◌<◌, List, [], ◌∷◌, ◌++◌, length, drop, get_or, Option, Some, None, refl, sym, ap, ◌∙◌, append_assoc}
use Rattle.std.specs.Borrow.{Bor}
use Rattle.std.proofs.lemmas.List.{at_drop_more, at_drop_all, append-nil}
use Rattle.wl_script_words.specs.declared.parse_fault.ParseFault.{ParseFault}
use Rattle.wl_script_words.specs.declared.parse_fault.ParseFault.TheVariants as unread
use Rattle.wl_script_words.specs.Words.{Fails}
use Rattle.wl_script_words.specs.WordReading.{◌>>=◌, tab_at, texts}
use Rattle.wl_script.specs.SimLines.{tabs_at}

-- Lists of tabs

-- The tabs read before, followed by those still to read.
abbrev pub with_front : List ℕ → Option (List ℕ) → Option (List ℕ)
with_front front read = read >>= λ ts. Some (front ++ ts)

regroup : (front : List ℕ) (t : ℕ) (read : Option (List ℕ)) → with_front front (read >>= λ ts. Some (t ∷ ts)) ≡ with_front (front ++ t ∷ []) read
regroup front t (Some ts) = ap (λ (xs : List ℕ). Some xs) (simp append_assoc)
regroup front t None = refl

tabs_step : (words : List (Bor (List ℕ))) (i : ℕ) (d : Bor (List ℕ)) (read : Option ℕ) → i < length words → tab_at (get_or words i d).now ≡ read
    → tabs_at (texts (drop i words)) ≡ (read >>= λ t. tabs_at (texts (drop (i + 1) words)) >>= λ ts. Some (t ∷ ts))
unfolding tabs_at
tabs_step words i d read lt e =
    at_drop_more (λ ws. tabs_at (texts ws)) words i d lt
    ∙ ap (λ o. o >>= λ t. tabs_at (texts (drop (i + 1) words)) >>= λ ts. Some (t ∷ ts)) e

pub tabs_go_on : (front : List ℕ) (words : List (Bor (List ℕ))) (i : ℕ) (d : Bor (List ℕ)) (t : ℕ) → i < length words → tab_at (get_or words i d).now ≡ Some t
    → with_front front (tabs_at (texts (drop i words))) ≡ tabs_at (texts words)
    → with_front (front ++ t ∷ []) (tabs_at (texts (drop (i + 1) words))) ≡ tabs_at (texts words)
tabs_go_on front words i d t lt e so_far =
    sym (regroup front t (tabs_at (texts (drop (i + 1) words))))
    ∙ ap (with_front front) (sym (tabs_step words i d (Some t) lt e))
    ∙ so_far

pub tabs_fail : (e : ParseFault) (front : List ℕ) (words : List (Bor (List ℕ))) (i : ℕ) (d : Bor (List ℕ)) → i < length words → Fails e (tab_at (get_or words i d).now)
    → with_front front (tabs_at (texts (drop i words))) ≡ tabs_at (texts words) → Fails e (tabs_at (texts words))
tabs_fail unread.Form front words i d lt h so_far = sym so_far ∙ ap (with_front front) (tabs_step words i d None lt h)
tabs_fail unread.Memory front words i d lt h so_far = tt

pub tabs_are : (front : List ℕ) (words : List (Bor (List ℕ))) (i : ℕ) → length words ≤ i
    → with_front front (tabs_at (texts (drop i words))) ≡ tabs_at (texts words) → tabs_at (texts words) ≡ Some front
unfolding tabs_at
tabs_are front words i le so_far =
    sym so_far ∙ at_drop_all (λ ws. with_front front (tabs_at (texts ws))) words i le ∙ ap (λ (xs : List ℕ). Some xs) (append-nil front)
