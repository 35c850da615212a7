-- The laws follow from the rule.
use Rattle.std.proofs.Common.{◌≡◌, ◌+◌, ⊎_elim, arith}
use Rattle.std.proofs.lemmas.Bool.{cases_eq}
use Rattle.wl_board.specs.BoardRule.{times, Has}
use Rattle.wl_board.specs.BoardLaws.{DrawnOnce, DeadForAll, LivingIsDrawn, GenerationIsCount}
use Rattle.wl_board.proofs.Views.{total_one, total_two}

pub drawn_once : DrawnOnce
drawn_once tabs s i j v w n h at there has too =
    let o = h.once n in
    let one = total_one (λ u. times n u.drawn) s.views i v at in
    ⊎_elim (λ (e : i ≡ j). (e, omega arith)) (λ (ne : i ≡ j → ⊥). absurd (let two = total_two (λ u. times n u.drawn) s.views i j v w at there ne in omega arith)) (cases_eq i j)

pub dead_for_all : DeadForAll
dead_for_all tabs s i v tab h pos at two = let a = h.seen i v at (tab + 1) in let b = h.states tab pos in omega arith

pub living_is_drawn : LivingIsDrawn
living_is_drawn tabs s tab h pos one =
    let b = h.living tab pos one in
    let among = h.born b.0 b.1 b.2 tab in
    let o = h.once tab in
    let t = total_one (λ u. times tab u.drawn) s.views b.0 b.1 b.2 in
    let has : Has tab b.1.born = b.3 in
    (b.0, b.1, b.2, omega arith, omega arith)

pub generation_is_count : GenerationIsCount
generation_is_count tabs s h = (h.generation, λ i v at. h.seen i v at 0)
