-- Lemmas that every call is a step the board's rule allows.
use Rattle.std.proofs.Common.{◌≡◌, ℕ, ◌+◌, ◌-◌, ◌%◌, ◌^◌, ◌<◌, ◌≤◌, max, eqb, List, [], ◌∷◌, ◌++◌, length, inl, inr, sym, refl, ap, subst, ⊎_elim, arith, le_refl, eq-eqb, ne_eqb}
use Rattle.std.specs.Prelude.{slice_index}
use Rattle.std.proofs.lemmas.Bool.{cases_lt}
use mathlib.Core.Logic.{dite}
use mathlib.Core.Option.{none}
use native.Mathlib.Decide.{ℕ_discrete}
use prog.Atomic.{either}
use Rattle.atomic_table.specs.Table.{Me, step, keeps, stepped, Allows, Splits}
use Rattle.wl_board.specs.declared.rule.View.{View}
use Rattle.wl_board.specs.BoardRule.{times, Has, IsOrderly}
use Rattle.wl_board.specs.BoardSteps.{sees, marks as marks_tab, draws_number, draws_none, bears, bumps_to, looked, read, marked, born_or_dead, drew, bumped, stays, splits_off}
use Rattle.wl_board.proofs.Views.{total_one, times-push, times-push_same}
use Rattle.wl_board.proofs.Keeps.{sees_kept, counter_small, generation_small, not_drawn, draw_kept, miss_kept, bump_kept, not_living, birth_kept, split_kept}

abbrev Sat : Type 0
Sat = Me (Unit {0}) View

module _ (tabs slots id : ℕ) (me : Sat) (long : length me.0.seen ≡ tabs + 2) where
  pub looks : (tab : ℕ) → 0 < tab → tab ≤ tabs → Allows (IsOrderly tabs) slots id me (tab + 1) (λ n. n) (looked (step slots (tab + 1) 0 0 none) me)
  looks tab pos lt s h _ at _ =
      let r : ℕ = slice_index s.words (tab + 1) in
      let old = h.seen id me.0 at (tab + 1) in (
        sees me.0 (tab + 1) r,
        keeps,
        tt,
        sees_kept tabs s h id me.0 at me.1 (tab + 1) r r (omega arith) (omega arith) (le_refl r) old (le_refl r) me.0.marked (λ _ p. p) (inl refl),
        (old, h.states tab pos, refl),
      )

  pub reads : Allows (IsOrderly tabs) slots id me 0 (λ n. n) (read (step slots 0 0 0 none) me)
  reads s h _ at _ =
      let r : ℕ = slice_index s.words 0 in
      let old = h.seen id me.0 at 0 in (
        sees me.0 0 r,
        keeps,
        tt,
        sees_kept tabs s h id me.0 at me.1 0 r r (omega arith) (omega arith) (le_refl r) old (le_refl r) me.0.marked (λ _ p. p) (inl refl),
        (old, (let a = total_one (λ u. u.bumps) s.views id me.0 at in let g = h.generation in omega arith), refl),
      )

  pub marks : (tab : ℕ) → 0 < tab → tab ≤ tabs → Allows (IsOrderly tabs) slots id me (tab + 1) (λ n. max n 2) (marked (step slots (tab + 1) 2 0 none) me)
  marks tab pos lt s h _ at _ =
      let r : ℕ = slice_index s.words (tab + 1) in
      let low = h.states tab pos in
      let old = h.seen id me.0 at (tab + 1) in
      let two : max r 2 ≡ 2 = omega arith in
      let list : List ℕ = me.0.marked ++ tab ∷ [] in
      let mine : Has tab list = let p = times-push_same tab me.0.marked in omega arith in
      let back : tab ≡ tab + 1 - 1 = omega arith in (
        marks_tab me.0 tab,
        keeps,
        tt,
        sees_kept tabs s h id me.0 at me.1 (tab + 1) 2 (max r 2) (omega arith) (omega arith) (omega arith) (omega arith) (omega arith) list
            (λ t has. let p = times-push t me.0.marked tab in omega arith)
            (inr (omega arith, two, refl, λ t e. let same : tab ≡ t = omega arith in subst (λ i. Has i list) same mine)),
        ap (λ t. (marks_tab me.0 t, me.1)) back,
      )

  pub draws : me.0.draws < 65535 → Allows (IsOrderly tabs) slots id me 1 (λ n. (n + 1) % 2 ^ 64) (drew (step slots 1 1 0 none) me)
  draws room s h _ at _ =
      let r : ℕ = slice_index s.words 1 in
      let small = counter_small tabs s h id me.0 at in
      let next : (r + 1) % 2 ^ 64 ≡ r + 1 = omega arith in
      let old = h.seen id me.0 at 1 in
      let count = h.counter in
      let new : times r me.0.drawn ≡ 0 = not_drawn tabs s h id me.0 at in
      let unborn = h.born id me.0 at r in
      ⊎_elim
      (λ (is : r + 1 < length me.0.seen). (
        draws_number me.0 r,
        keeps,
        tt,
        subst (λ y. IsOrderly tabs (stepped s 1 y id me.1 (draws_number me.0 r) keeps)) (sym next) (draw_kept tabs s h id me.0 at me.1 room),
        (omega arith, old, (λ _. ((λ b. absurd (omega arith)), (λ b. absurd (omega arith)), refl)), (λ far. absurd (omega arith))),
      ))
      (λ (is : length me.0.seen ≤ r + 1). (
        draws_none me.0 r,
        keeps,
        tt,
        subst (λ y. IsOrderly tabs (stepped s 1 y id me.1 (draws_none me.0 r) keeps)) (sym next) (miss_kept tabs s h id me.0 at me.1 room),
        (omega arith, old, (λ near. absurd (omega arith)), (λ _. refl)),
      ))
      (cases_lt (r + 1) (length me.0.seen))

  pub bumps : me.0.bumps < 65535 → Allows (IsOrderly tabs) slots id me 0 (λ n. (n + 1) % 2 ^ 64) (bumped (step slots 0 1 0 none) me)
  bumps room s h _ at _ =
      let r : ℕ = slice_index s.words 0 in
      let small = generation_small tabs s h id me.0 at in
      let next : (r + 1) % 2 ^ 64 ≡ r + 1 = omega arith in
      let old = h.seen id me.0 at 0 in (
        bumps_to me.0 (r + 1),
        keeps,
        tt,
        subst (λ y. IsOrderly tabs (stepped s 0 y id me.1 (bumps_to me.0 (r + 1)) keeps)) (sym next) (bump_kept tabs s h id me.0 at me.1 room),
        (old, (let a = total_one (λ u. u.bumps) s.views id me.0 at in let g = h.generation in omega arith), omega arith, refl),
      )

  pub births : (tab : ℕ) → 0 < tab → tab ≤ tabs → Has tab me.0.drawn → ¬ (Has tab me.0.born) → Allows (IsOrderly tabs) slots id me (tab + 1) (λ n. either (eqb n 0) 1 n) (born_or_dead (step slots (tab + 1) 0 1 none) me)
  births tab pos lt drawn unborn s h _ at _ =
      let k : ℕ = tab + 1 in
      let r : ℕ = slice_index s.words k in
      let old = h.seen id me.0 at k in
      let low = h.states tab pos in
      let alive = not_living tabs s h id me.0 at tab pos drawn unborn in
      let back : tab ≡ k - 1 = omega arith in
      dite (ℕ_discrete r 0)
      (λ hit. (
        bears me.0 tab,
        keeps,
        tt,
        subst (λ b. IsOrderly tabs (stepped s k (either b 1 r) id me.1 (bears me.0 tab) keeps)) (sym (eq-eqb r 0 hit)) (birth_kept tabs s h id me.0 at me.1 tab pos (omega arith) (omega arith) drawn unborn hit),
        ((λ _. (omega arith, ap (λ t. (bears me.0 t, me.1)) back)), (λ miss. absurd (miss hit))),
      ))
      (λ miss.
      let two : r ≡ 2 = omega (arith, alive, miss) in (
        sees me.0 k 2,
        keeps,
        tt,
        subst (λ b. IsOrderly tabs (stepped s k (either b 1 r) id me.1 (sees me.0 k 2) keeps)) (sym (ne_eqb r 0 miss)) (sees_kept tabs s h id me.0 at me.1 k 2 r (omega arith) (omega arith) (le_refl r) (omega arith) (omega arith) me.0.marked (λ _ p. p) (inl refl)),
        ((λ hit. absurd (miss hit)), (λ _. refl)),
      ))

  -- A look is allowed at a word given by its index.
  pub looks_at : (tab word : ℕ) → word ≡ tab + 1 → 0 < tab → tab ≤ tabs → Allows (IsOrderly tabs) slots id me word (λ n. n) (looked (step slots word 0 0 none) me)
  looks_at tab word is pos lt = subst (λ k. Allows (IsOrderly tabs) slots id me k (λ n. n) (looked (step slots k 0 0 none) me)) (sym is) (looks tab pos lt)

  pub marks_at : (tab word : ℕ) → word ≡ tab + 1 → 0 < tab → tab ≤ tabs → Allows (IsOrderly tabs) slots id me word (λ n. max n 2) (marked (step slots word 2 0 none) me)
  marks_at tab word is pos lt = subst (λ k. Allows (IsOrderly tabs) slots id me k (λ n. max n 2) (marked (step slots k 2 0 none) me)) (sym is) (marks tab pos lt)

  pub births_at : (tab word : ℕ) → word ≡ tab + 1 → 0 < tab → tab ≤ tabs → Has tab me.0.drawn → ¬ (Has tab me.0.born) → Allows (IsOrderly tabs) slots id me word (λ n. either (eqb n 0) 1 n) (born_or_dead (step slots word 0 1 none) me)
  births_at tab word is pos lt drawn unborn = subst (λ k. Allows (IsOrderly tabs) slots id me k (λ n. either (eqb n 0) 1 n) (born_or_dead (step slots k 0 1 none) me)) (sym is) (births tab pos lt drawn unborn)

pub deals : (tabs id : ℕ) (v : View) → 0 < v.to_give → Splits (IsOrderly tabs) id v (stays v) (splits_off v)
deals tabs id v some_left s h at = split_kept tabs s h id v at some_left
