-- Lemmas on the agreement of a seat's fields with its view.
use Rattle.std.proofs.Common.{◌≡◌, ℕ, ◌+◌, ◌<◌, Bool, false, List, [], ◌∷◌, ◌++◌, length, sym, ap, ◌∙◌, subst, ⊎_elim, arith, length-set}
use Rattle.std.specs.Prelude.{slice_index}
use Rattle.std.proofs.lemmas.Bool.{cases_eq}
use mathlib.Core.Bool.{false≢true}
use Rattle.atomic_table.specs.declared.shared.Seat.{Seat}
use Rattle.wl_board.specs.declared.rule.View.{View}
use Rattle.wl_board.specs.BoardRule.{Has}
use Rattle.wl_board.specs.BoardSteps.{draws_number}
use Rattle.wl_board.specs.Seats.{SharedBoard, Sitting, IsCounted}
use Rattle.wl_board.proofs.Views.{at_word, times-push_other}

pub draw_counted : (place new : Seat (Unit {0}) View) (d b : ℕ) (met : Bool) (r : ℕ) → IsCounted place d b met → met ≡ false → new.table_id ≡ place.table_id → new.me ≡ (draws_number place.me.0 r, place.me.1) → 0 < r → r + 1 < place.table_id.words → IsCounted new (d + 1) b met
draw_counted place new d b met r s unmet same is pos near =
    let words : new.table_id.words ≡ place.table_id.words = ap (λ z. z.words) same in
    let l = s.long in
    let word : slice_index new.me.0.seen 1 ≡ r + 1 = ap (λ m. slice_index m.0.seen 1) is ∙ at_word place.me.0.seen 1 (r + 1) (omega arith) in
    record {
      long = ap (λ m. length m.0.seen) is ∙ length-set place.me.0.seen 1 (r + 1) ∙ s.long ∙ sym words;
      drew = ap (λ m. m.0.draws) is ∙ ap (λ n. n + 1) s.drew;
      bumped = ap (λ m. m.0.bumps) is ∙ s.bumped;
      ended = λ t. absurd (false≢true (sym unmet ∙ t));
      open_still = λ _. omega arith;
      range = λ n has. let drawn : new.me.0.drawn ≡ place.me.0.drawn ++ r ∷ [] = ap (λ m. m.0.drawn) is in
          ⊎_elim
          (λ (e : n ≡ r). (omega arith, omega arith))
          (λ (ne : n ≡ r → ⊥). let p = times-push_other n place.me.0.drawn r ne in
          let q : Has n (place.me.0.drawn ++ r ∷ []) = subst (λ (l : List ℕ). Has n l) drawn has in
          let old = s.range n (omega arith) in (omega arith, omega arith))
          (cases_eq n r);
    }

-- A seat of a board is at the board's table.
pub at_table : (s t : Sitting) (b d : SharedBoard) → s ≡ t → b ≡ d → t.table ≡ d.table → s.table ≡ b.table
at_table s t b d seat board same = ap (λ z. z.table) seat ∙ same ∙ sym (ap (λ z. z.table) board)
