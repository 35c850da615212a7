-- Lemmas on the lines of a script that is read in pieces.
use Rattle.std.proofs.Common.{◌≡◌, ℕ, ◌<◌, ◌≤◌, Bool, true, false, List, [], ◌∷◌, ◌++◌, length, length-append, cond, None, refl, sym, ap, ◌∙◌, append_assoc, append-nil, arith}
use Rattle.std.specs.Prelude.{◌==◌, nat_lt}
use Rattle.std.specs.List.{onto_first}
use Rattle.std.proofs.lemmas.Bool.Decides.{nat_tests}
use Rattle.std.proofs.lemmas.List.Splits.{length-slice_split}
use Rattle.wl_script_words.specs.WordReading.{line_words_at}
use Rattle.wl_script.specs.SimLines.{line_at}
use Rattle.wl_script.specs.Sim.{lines_of, whole_lines}
use Rattle.wl_script.specs.SimSteps.{first_after, lines_after}

-- Every script has a line.
some_line : (script : List ℕ) → 0 < length (lines_of script)
some_line script = omega (arith, length-slice_split (λ b. b == 10) script)

first_after-nil : (texts : List (List ℕ)) → 0 < length texts → first_after [] texts ≡ texts
first_after-nil [] some = absurd (omega arith)
first_after-nil (text ∷ texts) some = refl

pub lines_after-nil : (script : List ℕ) → lines_after [] script ≡ lines_of script
lines_after-nil script = first_after-nil (lines_of script) (some_line script)

-- Two lists of lines, joined at the last line of the first and the first line of the second.
abbrev glued : List (List ℕ) → List (List ℕ) → List (List ℕ)
glued [] next = next
glued (text ∷ []) next = first_after text next
glued (text ∷ other ∷ texts) next = text ∷ glued (other ∷ texts) next

onto_glued : (b : ℕ) (text : List ℕ) (next : List (List ℕ)) → onto_first b (first_after text next) ≡ first_after (b ∷ text) next
onto_glued b text [] = refl
onto_glued b text (more ∷ next) = refl

glued_byte : (is_feed : Bool) (b : ℕ) (texts next all : List (List ℕ)) → 0 < length texts → all ≡ glued texts next
    → cond is_feed ([] ∷ all) (onto_first b all) ≡ glued (cond is_feed ([] ∷ texts) (onto_first b texts)) next
glued_byte is_feed b [] next all some e = absurd (omega arith)
glued_byte true b (text ∷ texts) next all some e = ap (λ l. [] ∷ l) e
glued_byte false b (text ∷ []) next all some e = ap (onto_first b) e ∙ onto_glued b text next
glued_byte false b (text ∷ other ∷ texts) next all some e = ap (onto_first b) e

glued_split : (script more : List ℕ) → lines_of (script ++ more) ≡ glued (lines_of script) (lines_of more)
glued_split [] more = sym (lines_after-nil more)
glued_split (b ∷ script) more = glued_byte (b == 10) b (lines_of script) (lines_of more) (lines_of (script ++ more)) (some_line script) (glued_split script more)

glued_last : (texts : List (List ℕ)) (text : List ℕ) (next : List (List ℕ)) → glued (texts ++ text ∷ []) next ≡ texts ++ first_after text next
glued_last [] text next = refl
glued_last (first ∷ []) text next = refl
glued_last (first ∷ second ∷ texts) text next = ap (λ l. first ∷ l) (glued_last (second ∷ texts) text next)

first_first : (front text : List ℕ) (next : List (List ℕ)) → first_after front (first_after text next) ≡ first_after (front ++ text) next
first_first front text [] = refl
first_first front text (more ∷ next) = ap (λ l. l ∷ next) (sym (append_assoc front text more))

first_glued : (front : List ℕ) (texts next : List (List ℕ)) → first_after front (glued texts next) ≡ glued (first_after front texts) next
first_glued front [] next = refl
first_glued front (text ∷ []) next = first_first front text next
first_glued front (text ∷ other ∷ texts) next = refl

-- The last line of a piece continues in the next piece.
pub lines_more : (front piece more : List ℕ) (texts : List (List ℕ)) (text : List ℕ) → lines_after front piece ≡ texts ++ text ∷ []
    → lines_after front (piece ++ more) ≡ texts ++ lines_after text more
lines_more front piece more texts text e =
    ap (first_after front) (glued_split piece more)
    ∙ first_glued front (lines_of piece) (lines_of more)
    ∙ ap (λ l. glued l (lines_of more)) e
    ∙ glued_last texts text (lines_of more)

pub lines_none : (front : List ℕ) → lines_after front [] ≡ front ∷ []
lines_none front = ap (λ l. l ∷ []) (append-nil front)

-- One byte

pub lines_feed : (front : List ℕ) (b : ℕ) (more : List ℕ) → (b == 10) ≡ true → lines_after front (b ∷ more) ≡ front ∷ lines_of more
lines_feed front b more feed =
    ap (λ c. first_after front (cond c ([] ∷ lines_of more) (onto_first b (lines_of more)))) feed ∙ ap (λ l. l ∷ lines_of more) (append-nil front)

lines_byte_more : (front : List ℕ) (b : ℕ) (more : List ℕ) → (b == 10) ≡ false → lines_after front (b ∷ more) ≡ first_after front (onto_first b (lines_of more))
lines_byte_more front b more other = ap (λ c. first_after front (cond c ([] ∷ lines_of more) (onto_first b (lines_of more)))) other

pub lines_byte : (front : List ℕ) (b : ℕ) → (b == 10) ≡ false → lines_after front (b ∷ []) ≡ (front ++ b ∷ []) ∷ []
lines_byte front b other = lines_byte_more front b [] other

-- Helper: the line that starts with this byte after `front`.
pub record GoesOn (front : List ℕ) (b : ℕ) (more : List ℕ) : Type 0 where
  pub text : List ℕ
  pub texts : List (List ℕ)
  pub lines_are : lines_after front (b ∷ more) ≡ (front ++ b ∷ text) ∷ texts

begun : (front : List ℕ) (b : ℕ) (more : List ℕ) (texts : List (List ℕ)) → lines_after front (b ∷ more) ≡ first_after front (onto_first b texts) → GoesOn front b more
begun front b more [] e = record { text = []; texts = []; lines_are = e }
begun front b more (text ∷ texts) e = record { text = text; texts = texts; lines_are = e }

pub lines_go_on : (front : List ℕ) (b : ℕ) (more : List ℕ) → (b == 10) ≡ false → GoesOn front b more
lines_go_on front b more other = begun front b more (lines_of more) (lines_byte_more front b more other)

-- Long lines

too_long : (text : List ℕ) → nat_lt 65536 (length text) ≡ true → line_at text ≡ None
unfolding line_at line_words_at
too_long text e = rw e refl

longer : (front : List ℕ) (b : ℕ) (text : List ℕ) → 65536 ≤ length front → 65536 < length (front ++ b ∷ text)
longer front b text long = omega (arith, length-append front (b ∷ text))

pub long_line : (front : List ℕ) (b : ℕ) (text : List ℕ) → 65536 ≤ length front → line_at (front ++ b ∷ text) ≡ None
long_line front b text long =
    let more = longer front b text long in
    too_long (front ++ b ∷ text) (grind (arith, nat_tests))

-- All lines but the last

pub whole_but_last : (texts : List (List ℕ)) (text : List ℕ) → whole_lines (texts ++ text ∷ []) ≡ texts
whole_but_last [] text = refl
whole_but_last (first ∷ []) text = refl
whole_but_last (first ∷ second ∷ texts) text = ap (λ l. first ∷ l) (whole_but_last (second ∷ texts) text)
