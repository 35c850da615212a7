-- Lemmas that each step keeps the rule.
use Rattle.std.proofs.Common.{◌≡◌, ◌≢◌, ◌⊎◌, ℕ, ◌+◌, ◌<◌, ◌≤◌, List, [], ◌∷◌, ◌++◌, length, set, inl, inr, sym, refl, ap, ◌∙◌, subst, ⊎_elim, arith, length-set, length-append, le_trans}
use Rattle.std.specs.Prelude.{slice_index}
use Rattle.std.proofs.lemmas.Bool.{cases_eq}
use mathlib.Core.Option.{some, some-injective}
use lib.ListN.{get_elem?}
use Rattle.atomic_table.specs.Table.{keeps, stepped}
use Rattle.wl_board.specs.declared.rule.View.{View}
use Rattle.wl_board.specs.BoardRule.{times, Has, EachSeat, SomeSeat, Board, IsOrderly}
use Rattle.wl_board.specs.BoardSteps.{draws_number, draws_none, bears, bumps_to, stays, splits_off}
use Rattle.wl_board.proofs.Views.{times-push, times-push_same, times-push_other, total_set, total-push, total_one, total_two, total_most, each_set, each_push, some_here, some_set, some_push, at_word, at_other, word_up, seen_below}

abbrev Taken : Type 0
Taken = List (ℕ × Unit {0})

-- No word is below the largest value that the view has seen of it.
abbrev Below : List ℕ → View → Type 0
Below ws u = (j : ℕ) → slice_index u.seen j ≤ slice_index ws j

abbrev Knows : ℕ → View → Type 0
Knows tab u = Has tab u.born ⊎ (slice_index u.seen (tab + 1) ≡ 2)

module _ (tabs : ℕ) (s : Board) (h : IsOrderly tabs s) (id : ℕ) (v : View) (at : get_elem? s.views id ≡ some v) where
  -- A step by which the seat sees x in a word that stays as it is or becomes 2.
  module _ (c : Taken) (k x y : ℕ) (lt : k < tabs + 2) (in_sight : k < length v.seen) (up : slice_index s.words k ≤ y) (more : slice_index v.seen k ≤ x) (le : x ≤ y) (m : List ℕ) (grows : (tab : ℕ) → Has tab v.marked → Has tab m)
      (how : (y ≡ slice_index s.words k) ⊎ ((2 ≤ k) × (y ≡ 2) × (x ≡ 2) × ((tab : ℕ) → tab + 1 ≡ k → Has tab m))) where
    abbrev after : List ℕ
    after = set s.words k y

    abbrev w : View
    w = record v { seen = set v.seen k x; marked = m; steps = v.steps + 1 }

    within : k < length s.words
    within = let e = h.wide in omega arith

    abbrev Turned : ℕ → Type 0
    Turned j = (slice_index after j ≡ 2) × (slice_index (set v.seen k x) j ≡ 2) × (2 ≤ j) × ((tab : ℕ) → tab + 1 ≡ j → Has tab m)

    word_is : (j : ℕ) → (slice_index after j ≡ slice_index s.words j) ⊎ Turned j
    word_is j = ⊎_elim
        (λ (is : j ≡ k). ⊎_elim
        (λ (e : y ≡ slice_index s.words k). inl (subst (λ i. slice_index after i ≡ slice_index s.words i) (sym is) (at_word s.words k y within ∙ e)))
        (λ (t : (2 ≤ k) × (y ≡ 2) × (x ≡ 2) × ((tab : ℕ) → tab + 1 ≡ k → Has tab m)). inr (subst Turned (sym is) (at_word s.words k y within ∙ t.1, at_word v.seen k x in_sight ∙ t.2, t.0, t.3)))
        how)
        (λ (not : j ≡ k → ⊥). inl (at_other s.words k j y not))
        (cases_eq j k)

    low : (j : ℕ) → j < 2 → slice_index after j ≡ slice_index s.words j
    low j small = ⊎_elim (λ (e : slice_index after j ≡ slice_index s.words j). e) (λ (t : Turned j). absurd (let g = t.2 in omega arith)) (word_is j)

    below_after : Below after w
    below_after = seen_below v.seen s.words k x y within (h.seen id v at) up le

    states_after : (tab : ℕ) → 0 < tab → slice_index after (tab + 1) ≤ 2
    states_after tab pos = let st = h.states tab pos in ⊎_elim (λ (e : slice_index after (tab + 1) ≡ slice_index s.words (tab + 1)). omega arith) (λ (t : Turned (tab + 1)). let g = t.0 in omega arith) (word_is (tab + 1))

    knows : (tab : ℕ) → 0 < tab → Knows tab v → Knows tab w
    knows tab pos p = ⊎_elim (λ (b : Has tab v.born). inl b)
        (λ (two : slice_index v.seen (tab + 1) ≡ 2). inr (let a = word_up v.seen k x in_sight more (tab + 1) in let b = below_after (tab + 1) in let d = states_after tab pos in omega arith)) p

    pub sees_kept : IsOrderly tabs (stepped s k y id c w keeps)
    sees_kept = record {
      wide = length-set s.words k y ∙ h.wide;
      few = let a = total_set (λ u. u.to_give) s.views id v w at in let b = length-set s.views id w in let f = h.few in omega arith;
      limits = each_set (λ u. (u.draws ≤ 65535) × (u.bumps ≤ 65535)) (λ u. (u.draws ≤ 65535) × (u.bumps ≤ 65535)) s.views id w h.limits (λ u p. p) (h.limits id v at);
      seen = each_set (Below s.words) (Below after) s.views id w h.seen (λ u p j. le_trans (p j) (word_up s.words k y within up j)) below_after;
      once = λ n. let a = total_set (λ u. times n u.drawn) s.views id v w at in let o = h.once n in omega arith;
      below = λ n small. let a = total_set (λ u. times n u.drawn) s.views id v w at in let e = low 1 (omega arith) in let o = h.below n (omega arith) in omega arith;
      born = each_set (λ u. (n : ℕ) → times n u.born ≤ times n u.drawn) (λ u. (n : ℕ) → times n u.born ≤ times n u.drawn) s.views id w h.born (λ u p. p) (h.born id v at);
      counter = let a = total_set (λ u. u.draws) s.views id v w at in let e = low 1 (omega arith) in let o = h.counter in omega arith;
      generation = let a = total_set (λ u. u.bumps) s.views id v w at in let e = low 0 (omega arith) in let o = h.generation in omega arith;
      states = states_after;
      living = λ tab pos one. ⊎_elim
          (λ (e : slice_index after (tab + 1) ≡ slice_index s.words (tab + 1)). some_set (λ u. Has tab u.born) s.views id v w at (λ p. p) (h.living tab pos (sym e ∙ one)))
          (λ (t : Turned (tab + 1)). absurd (let g = t.0 in omega arith))
          (word_is (tab + 1));
      dead = λ tab pos two. ⊎_elim
          (λ (e : slice_index after (tab + 1) ≡ slice_index s.words (tab + 1)). some_set (λ u. Has tab u.marked) s.views id v w at (grows tab) (h.dead tab pos (sym e ∙ two)))
          (λ (t : Turned (tab + 1)). some_here (λ u. Has tab u.marked) s.views id v w at (t.3 tab refl))
          (word_is (tab + 1));
      known = λ tab pos high. ⊎_elim
          (λ (e : slice_index after (tab + 1) ≡ slice_index s.words (tab + 1)). some_set (Knows tab) s.views id v w at (knows tab pos) (h.known tab pos (omega arith)))
          (λ (t : Turned (tab + 1)). some_here (Knows tab) s.views id v w at (inr t.1))
          (word_is (tab + 1));
    }

  -- The tabs' words while the counter or the generation rises.
  module _ (k x y : ℕ) (w : View) (lt : k < 2) (up : slice_index s.words k ≤ y) (le : x ≤ y) (same_seen : w.seen ≡ set v.seen k x) (same_born : w.born ≡ v.born) (same_marked : w.marked ≡ v.marked) where
    apart_from : (tab : ℕ) → 0 < tab → tab + 1 ≢ k
    apart_from tab pos e = absurd (omega arith)

    inside : k < length s.words
    inside = let e = h.wide in omega arith

    pub below_now : Below (set s.words k y) w
    below_now = subst (λ (l : List ℕ). (j : ℕ) → slice_index l j ≤ slice_index (set s.words k y) j) (sym same_seen) (seen_below v.seen s.words k x y inside (h.seen id v at) up le)

    pub seen_now : EachSeat (Below (set s.words k y)) (set s.views id w)
    seen_now = each_set (Below s.words) (Below (set s.words k y)) s.views id w h.seen (λ u p j. le_trans (p j) (word_up s.words k y inside up j)) below_now

    pub states_now : (tab : ℕ) → 0 < tab → slice_index (set s.words k y) (tab + 1) ≤ 2
    states_now tab pos = let a = at_other s.words k (tab + 1) y (apart_from tab pos) in let b = h.states tab pos in omega arith

    pub living_now : (tab : ℕ) → 0 < tab → slice_index (set s.words k y) (tab + 1) ≡ 1 → SomeSeat (λ u. Has tab u.born) (set s.views id w)
    living_now tab pos one = some_set (λ u. Has tab u.born) s.views id v w at (subst (λ (l : List ℕ). Has tab l) (sym same_born)) (h.living tab pos (sym (at_other s.words k (tab + 1) y (apart_from tab pos)) ∙ one))

    pub dead_now : (tab : ℕ) → 0 < tab → slice_index (set s.words k y) (tab + 1) ≡ 2 → SomeSeat (λ u. Has tab u.marked) (set s.views id w)
    dead_now tab pos two = some_set (λ u. Has tab u.marked) s.views id v w at (subst (λ (l : List ℕ). Has tab l) (sym same_marked)) (h.dead tab pos (sym (at_other s.words k (tab + 1) y (apart_from tab pos)) ∙ two))

    pub known_now : (tab : ℕ) → 0 < tab → 0 < slice_index (set s.words k y) (tab + 1) → SomeSeat (Knows tab) (set s.views id w)
    known_now tab pos high = let a = at_other s.words k (tab + 1) y (apart_from tab pos) in
        some_set (Knows tab) s.views id v w at
        (λ p. ⊎_elim (λ (b : Has tab v.born). inl (subst (λ (l : List ℕ). Has tab l) (sym same_born) b))
        (λ (two : slice_index v.seen (tab + 1) ≡ 2). inr (ap (λ (l : List ℕ). slice_index l (tab + 1)) same_seen ∙ at_other v.seen k (tab + 1) x (apart_from tab pos) ∙ two)) p)
        (h.known tab pos (omega arith))

  counter : ℕ
  counter = slice_index s.words 1

  generation : ℕ
  generation = slice_index s.words 0

  pub counter_small : slice_index s.words 1 < 1048577
  counter_small = let a = total_most (λ u. u.draws) s.views (λ i u e. (h.limits i u e).0) in let f = h.few in let o = h.counter in omega arith

  pub generation_small : slice_index s.words 0 < 1048577
  generation_small = let a = total_most (λ u. u.bumps) s.views (λ i u e. (h.limits i u e).1) in let f = h.few in let o = h.generation in omega arith

  -- No seat has drawn the number that the counter holds.
  pub not_drawn : times (slice_index s.words 1) v.drawn ≡ 0
  not_drawn = let a = total_one (λ u. times (slice_index s.words 1) u.drawn) s.views id v at in let o = h.below (slice_index s.words 1) (omega arith) in omega arith

  pub draw_kept : (c : Taken) → v.draws < 65535 → IsOrderly tabs (stepped s 1 (slice_index s.words 1 + 1) id c (draws_number v (slice_index s.words 1)) keeps)
  draw_kept c room =
      let n : ℕ = slice_index s.words 1 in
      let w = draws_number v n in
      let ws : List ℕ = set s.words 1 (n + 1) in
      let word : slice_index ws 1 ≡ n + 1 = at_word s.words 1 (n + 1) (let e = h.wide in omega arith) in
      let zero_word : slice_index ws 0 ≡ slice_index s.words 0 = at_other s.words 1 0 (n + 1) (λ e. absurd (omega arith)) in
      let up : n ≤ n + 1 = omega arith in
      let same_up : n + 1 ≤ n + 1 = omega arith in
      let P : View → Type 0 = λ u. (u.draws ≤ 65535) × (u.bumps ≤ 65535) in
      let Q : View → Type 0 = λ u. (m : ℕ) → times m u.born ≤ times m u.drawn in
      record {
        wide = length-set s.words 1 (n + 1) ∙ h.wide;
        few = let a = total_set (λ u. u.to_give) s.views id v w at in let b = length-set s.views id w in let f = h.few in omega arith;
        limits = each_set P P s.views id w h.limits (λ u p. p) (omega arith, (h.limits id v at).1);
        seen = seen_now 1 (n + 1) (n + 1) w (omega arith) up same_up refl refl refl;
        once = λ m. let a = total_set (λ u. times m u.drawn) s.views id v w at in
            ⊎_elim
            (λ (is : m ≡ n). let p : times m (v.drawn ++ n ∷ []) ≡ times m v.drawn + 1 = subst (λ i. times m (v.drawn ++ i ∷ []) ≡ times m v.drawn + 1) is (times-push_same m v.drawn) in let o = h.below m (omega arith) in omega arith)
            (λ (not : m ≡ n → ⊥). let p = times-push_other m v.drawn n not in let o = h.once m in omega arith)
            (cases_eq m n);
        below = λ m small. let a = total_set (λ u. times m u.drawn) s.views id v w at in
            let p = times-push_other m v.drawn n (λ e. absurd (omega arith)) in let o = h.below m (omega arith) in omega arith;
        born = each_set Q Q s.views id w h.born (λ u p. p) (λ m. let p = times-push m v.drawn n in let o = h.born id v at m in omega arith);
        counter = let a = total_set (λ u. u.draws) s.views id v w at in let o = h.counter in omega arith;
        generation = let a = total_set (λ u. u.bumps) s.views id v w at in let o = h.generation in omega arith;
        states = states_now 1 (n + 1) (n + 1) w (omega arith) up same_up refl refl refl;
        living = living_now 1 (n + 1) (n + 1) w (omega arith) up same_up refl refl refl;
        dead = dead_now 1 (n + 1) (n + 1) w (omega arith) up same_up refl refl refl;
        known = known_now 1 (n + 1) (n + 1) w (omega arith) up same_up refl refl refl;
      }

  pub miss_kept : (c : Taken) → v.draws < 65535 → IsOrderly tabs (stepped s 1 (slice_index s.words 1 + 1) id c (draws_none v (slice_index s.words 1)) keeps)
  miss_kept c room =
      let n : ℕ = slice_index s.words 1 in
      let w = draws_none v n in
      let ws : List ℕ = set s.words 1 (n + 1) in
      let word : slice_index ws 1 ≡ n + 1 = at_word s.words 1 (n + 1) (let e = h.wide in omega arith) in
      let zero_word : slice_index ws 0 ≡ slice_index s.words 0 = at_other s.words 1 0 (n + 1) (λ e. absurd (omega arith)) in
      let up : n ≤ n + 1 = omega arith in
      let same_up : n + 1 ≤ n + 1 = omega arith in
      let P : View → Type 0 = λ u. (u.draws ≤ 65535) × (u.bumps ≤ 65535) in
      let Q : View → Type 0 = λ u. (m : ℕ) → times m u.born ≤ times m u.drawn in
      record {
        wide = length-set s.words 1 (n + 1) ∙ h.wide;
        few = let a = total_set (λ u. u.to_give) s.views id v w at in let b = length-set s.views id w in let f = h.few in omega arith;
        limits = each_set P P s.views id w h.limits (λ u p. p) (omega arith, (h.limits id v at).1);
        seen = seen_now 1 (n + 1) (n + 1) w (omega arith) up same_up refl refl refl;
        once = λ m. let a = total_set (λ u. times m u.drawn) s.views id v w at in let o = h.once m in omega arith;
        below = λ m small. let a = total_set (λ u. times m u.drawn) s.views id v w at in let o = h.below m (omega arith) in omega arith;
        born = each_set Q Q s.views id w h.born (λ u p. p) (h.born id v at);
        counter = let a = total_set (λ u. u.draws) s.views id v w at in let o = h.counter in omega arith;
        generation = let a = total_set (λ u. u.bumps) s.views id v w at in let o = h.generation in omega arith;
        states = states_now 1 (n + 1) (n + 1) w (omega arith) up same_up refl refl refl;
        living = living_now 1 (n + 1) (n + 1) w (omega arith) up same_up refl refl refl;
        dead = dead_now 1 (n + 1) (n + 1) w (omega arith) up same_up refl refl refl;
        known = known_now 1 (n + 1) (n + 1) w (omega arith) up same_up refl refl refl;
      }

  pub bump_kept : (c : Taken) → v.bumps < 65535 → IsOrderly tabs (stepped s 0 (slice_index s.words 0 + 1) id c (bumps_to v (slice_index s.words 0 + 1)) keeps)
  bump_kept c room =
      let n : ℕ = slice_index s.words 0 in
      let w = bumps_to v (n + 1) in
      let ws : List ℕ = set s.words 0 (n + 1) in
      let word : slice_index ws 0 ≡ n + 1 = at_word s.words 0 (n + 1) (let e = h.wide in omega arith) in
      let one_word : slice_index ws 1 ≡ slice_index s.words 1 = at_other s.words 0 1 (n + 1) (λ e. absurd (omega arith)) in
      let up : n ≤ n + 1 = omega arith in
      let same_up : n + 1 ≤ n + 1 = omega arith in
      let P : View → Type 0 = λ u. (u.draws ≤ 65535) × (u.bumps ≤ 65535) in
      let Q : View → Type 0 = λ u. (m : ℕ) → times m u.born ≤ times m u.drawn in
      record {
        wide = length-set s.words 0 (n + 1) ∙ h.wide;
        few = let a = total_set (λ u. u.to_give) s.views id v w at in let b = length-set s.views id w in let f = h.few in omega arith;
        limits = each_set P P s.views id w h.limits (λ u p. p) ((h.limits id v at).0, omega arith);
        seen = seen_now 0 (n + 1) (n + 1) w (omega arith) up same_up refl refl refl;
        once = λ m. let a = total_set (λ u. times m u.drawn) s.views id v w at in let o = h.once m in omega arith;
        below = λ m small. let a = total_set (λ u. times m u.drawn) s.views id v w at in let o = h.below m (omega arith) in omega arith;
        born = each_set Q Q s.views id w h.born (λ u p. p) (h.born id v at);
        counter = let a = total_set (λ u. u.draws) s.views id v w at in let o = h.counter in omega arith;
        generation = let a = total_set (λ u. u.bumps) s.views id v w at in let o = h.generation in omega arith;
        states = states_now 0 (n + 1) (n + 1) w (omega arith) up same_up refl refl refl;
        living = living_now 0 (n + 1) (n + 1) w (omega arith) up same_up refl refl refl;
        dead = dead_now 0 (n + 1) (n + 1) w (omega arith) up same_up refl refl refl;
        known = known_now 0 (n + 1) (n + 1) w (omega arith) up same_up refl refl refl;
      }

  -- A tab that this seat drew but did not bring to life is not living.
  pub not_living : (tab : ℕ) → 0 < tab → Has tab v.drawn → ¬ (Has tab v.born) → slice_index s.words (tab + 1) ≢ 1
  not_living tab pos drawn unborn one =
      let b = h.living tab pos one in
      let among = h.born b.0 b.1 b.2 tab in
      let o = h.once tab in
      let has : Has tab b.1.born = b.3 in
      ⊎_elim
      (λ (is : b.0 ≡ id). unborn (subst (λ (u : View). Has tab u.born) (some-injective b.1 v (sym b.2 ∙ ap (get_elem? s.views) is ∙ at)) has))
      (λ (not : b.0 ≡ id → ⊥). absurd (let two = total_two (λ u. times tab u.drawn) s.views b.0 id b.1 v b.2 at not in omega arith))
      (cases_eq b.0 id)

  pub birth_kept : (c : Taken) (tab : ℕ) → 0 < tab → tab < tabs + 1 → tab + 1 < length v.seen → Has tab v.drawn → ¬ (Has tab v.born) → slice_index s.words (tab + 1) ≡ 0
      → IsOrderly tabs (stepped s (tab + 1) 1 id c (bears v tab) keeps)
  birth_kept c tab pos lt in_sight drawn unborn clean =
      let k : ℕ = tab + 1 in
      let w = bears v tab in
      let ws : List ℕ = set s.words k 1 in
      let room : k < length s.words = let e = h.wide in omega arith in
      let up : slice_index s.words k ≤ 1 = omega arith in
      let word : slice_index ws k ≡ 1 = at_word s.words k 1 room in
      let zero_word : slice_index ws 0 ≡ slice_index s.words 0 = at_other s.words k 0 1 (λ e. absurd (omega arith)) in
      let one_word : slice_index ws 1 ≡ slice_index s.words 1 = at_other s.words k 1 1 (λ e. absurd (omega arith)) in
      let P : View → Type 0 = λ u. (u.draws ≤ 65535) × (u.bumps ≤ 65535) in
      let Q : View → Type 0 = λ u. (m : ℕ) → times m u.born ≤ times m u.drawn in
      let mine : Has tab (v.born ++ tab ∷ []) = let p = times-push_same tab v.born in omega arith in
      record {
        wide = length-set s.words k 1 ∙ h.wide;
        few = let a = total_set (λ u. u.to_give) s.views id v w at in let b = length-set s.views id w in let f = h.few in omega arith;
        limits = each_set P P s.views id w h.limits (λ u p. p) (h.limits id v at);
        seen = each_set (Below s.words) (Below ws) s.views id w h.seen (λ u p j. le_trans (p j) (word_up s.words k 1 room up j)) (seen_below v.seen s.words k 1 1 room (h.seen id v at) up (omega arith));
        once = λ m. let a = total_set (λ u. times m u.drawn) s.views id v w at in let o = h.once m in omega arith;
        below = λ m small. let a = total_set (λ u. times m u.drawn) s.views id v w at in let o = h.below m (omega arith) in omega arith;
        born = each_set Q Q s.views id w h.born (λ u p. p) (λ m. let o = h.born id v at m in ⊎_elim
            (λ (is : m ≡ tab). subst (λ i. times i (v.born ++ tab ∷ []) ≤ times i v.drawn) (sym is) (let p = times-push_same tab v.born in let none_yet : times tab v.born ≤ 0 = omega (arith, unborn) in omega arith))
            (λ (not : m ≡ tab → ⊥). let p = times-push_other m v.born tab not in omega arith)
            (cases_eq m tab));
        counter = let a = total_set (λ u. u.draws) s.views id v w at in let o = h.counter in omega arith;
        generation = let a = total_set (λ u. u.bumps) s.views id v w at in let o = h.generation in omega arith;
        states = λ t p. let o = h.states t p in ⊎_elim (λ (is : t + 1 ≡ k). subst (λ i. slice_index ws i ≤ 2) (sym is) (omega arith)) (λ (not : t + 1 ≡ k → ⊥). let a = at_other s.words k (t + 1) 1 not in omega arith) (cases_eq (t + 1) k);
        living = λ t p one. ⊎_elim
            (λ (is : t ≡ tab). subst (λ i. SomeSeat (λ u. Has i u.born) (set s.views id w)) (sym is) (some_here (λ u. Has tab u.born) s.views id v w at mine))
            (λ (not : t ≡ tab → ⊥). some_set (λ u. Has t u.born) s.views id v w at (λ b. let e = times-push t v.born tab in omega arith)
            (h.living t p (sym (at_other s.words k (t + 1) 1 (λ e. not (omega arith))) ∙ one)))
            (cases_eq t tab);
        dead = λ t p two. ⊎_elim
            (λ (is : t ≡ tab). absurd (let a = subst (λ i. slice_index ws (i + 1) ≡ 2) is two in omega arith))
            (λ (not : t ≡ tab → ⊥). some_set (λ u. Has t u.marked) s.views id v w at (λ b. b) (h.dead t p (sym (at_other s.words k (t + 1) 1 (λ e. not (omega arith))) ∙ two)))
            (cases_eq t tab);
        known = λ t p high. ⊎_elim
            (λ (is : t ≡ tab). subst (λ i. SomeSeat (Knows i) (set s.views id w)) (sym is) (some_here (Knows tab) s.views id v w at (inl mine)))
            (λ (not : t ≡ tab → ⊥). let away : t + 1 ≢ k = λ e. not (omega arith) in let a = at_other s.words k (t + 1) 1 away in
            some_set (Knows t) s.views id v w at
            (λ q. ⊎_elim (λ (b : Has t v.born). inl (let e = times-push t v.born tab in omega arith)) (λ (two : slice_index v.seen (t + 1) ≡ 2). inr (at_other v.seen k (t + 1) 1 away ∙ two)) q)
            (h.known t p (omega arith)))
            (cases_eq t tab);
      }

  pub split_kept : 0 < v.to_give → IsOrderly tabs record { words = s.words; homes = s.homes; views = set s.views id (stays v) ++ splits_off v ∷ [] }
  split_kept some_left =
      let w = stays v in
      let n = splits_off v in
      let vs : List View = set s.views id w in
      let P : View → Type 0 = λ u. (u.draws ≤ 65535) × (u.bumps ≤ 65535) in
      let Q : View → Type 0 = λ u. (m : ℕ) → times m u.born ≤ times m u.drawn in
      record {
        wide = h.wide;
        few = let a = total_set (λ u. u.to_give) s.views id v w at in let b = length-set s.views id w in let d = total-push (λ u. u.to_give) vs n in let e = length-append vs (n ∷ []) in let f = h.few in omega arith;
        limits = each_push P vs n (each_set P P s.views id w h.limits (λ u p. p) (h.limits id v at)) (omega arith, omega arith);
        seen = each_push (Below s.words) vs n (each_set (Below s.words) (Below s.words) s.views id w h.seen (λ u p. p) (h.seen id v at)) (h.seen id v at);
        once = λ m. let a = total_set (λ u. times m u.drawn) s.views id v w at in let d = total-push (λ u. times m u.drawn) vs n in let o = h.once m in omega arith;
        below = λ m small. let a = total_set (λ u. times m u.drawn) s.views id v w at in let d = total-push (λ u. times m u.drawn) vs n in let o = h.below m small in omega arith;
        born = each_push Q vs n (each_set Q Q s.views id w h.born (λ u p. p) (h.born id v at)) (λ m. omega arith);
        counter = let a = total_set (λ u. u.draws) s.views id v w at in let d = total-push (λ u. u.draws) vs n in let o = h.counter in omega arith;
        generation = let a = total_set (λ u. u.bumps) s.views id v w at in let d = total-push (λ u. u.bumps) vs n in let o = h.generation in omega arith;
        states = h.states;
        living = λ t p one. some_push (λ u. Has t u.born) vs (n ∷ []) (some_set (λ u. Has t u.born) s.views id v w at (λ q. q) (h.living t p one));
        dead = λ t p two. some_push (λ u. Has t u.marked) vs (n ∷ []) (some_set (λ u. Has t u.marked) s.views id v w at (λ q. q) (h.dead t p two));
        known = λ t p high. some_push (Knows t) vs (n ∷ []) (some_set (Knows t) s.views id v w at (λ q. q) (h.known t p high));
      }
