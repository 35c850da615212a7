-- The effect of each kind of step on the view of its seat, and the facts that each step reveals.
use Rattle.std.specs.Prelude.{◌≡◌, ◌≢◌, ℕ, ◌+◌, ◌-◌, ◌^◌, ◌<◌, ◌≤◌, [], ◌∷◌, ◌++◌, length, slice_index, slice_set}
use Rattle.atomic_table.specs.Table.{Me, Step}
use Rattle.wl_board.specs.declared.rule.View.{View}
use Rattle.wl_board.specs.BoardRule.{Has}

abbrev pub sees : View → ℕ → ℕ → View
sees v word x = record v { seen = slice_set v.seen word x; steps = v.steps + 1 }

abbrev pub marks : View → ℕ → View
marks v tab = record v { seen = slice_set v.seen (tab + 1) 2; marked = v.marked ++ tab ∷ []; steps = v.steps + 1 }

-- A number was drawn, and the counter is above it.
abbrev pub draws_number : View → ℕ → View
draws_number v n = record v { seen = slice_set v.seen 1 (n + 1); drawn = v.drawn ++ n ∷ []; draws = v.draws + 1; steps = v.steps + 1 }

-- The counter was found at n, above all tab numbers.
abbrev pub draws_none : View → ℕ → View
draws_none v n = record v { seen = slice_set v.seen 1 (n + 1); draws = v.draws + 1; steps = v.steps + 1 }

abbrev pub bears : View → ℕ → View
bears v tab = record v { seen = slice_set v.seen (tab + 1) 1; born = v.born ++ tab ∷ []; steps = v.steps + 1 }

abbrev pub bumps_to : View → ℕ → View
bumps_to v g = record v { seen = slice_set v.seen 0 g; bumps = v.bumps + 1; steps = v.steps + 1 }

abbrev Sat : Type 0
Sat = Me (Unit {0}) View

abbrev Play : Type 1
Play = Step (Unit {0}) → Sat → ℕ → Sat → Type 0

abbrev pub looked : Play
looked st m r n = (slice_index m.0.seen st.word ≤ r) × (r ≤ 2) × (n ≡ (sees m.0 st.word r, m.1))

abbrev pub read : Play
read st m r n = (slice_index m.0.seen st.word ≤ r) × (1 + m.0.bumps ≤ r) × (n ≡ (sees m.0 st.word r, m.1))

abbrev pub marked : Play
marked st m r n = n ≡ (marks m.0 (st.word - 1), m.1)

abbrev pub born_or_dead : Play
born_or_dead st m r n = (r ≡ 0 → (slice_index m.0.seen st.word ≡ 0) × (n ≡ (bears m.0 (st.word - 1), m.1))) × (r ≢ 0 → n ≡ (sees m.0 st.word 2, m.1))

-- A drawn number belongs to a tab if the board has a word for it.
abbrev pub drew : Play
drew st m r n = (0 < r) × (slice_index m.0.seen 1 ≤ r)
    × (r + 1 < length m.0.seen → (¬ Has r m.0.drawn) × (¬ Has r m.0.born) × (n ≡ (draws_number m.0 r, m.1)))
    × (length m.0.seen ≤ r + 1 → n ≡ (draws_none m.0 r, m.1))

abbrev pub bumped : Play
bumped st m r n = (slice_index m.0.seen 0 ≤ r) × (1 + m.0.bumps ≤ r) × (r + 1 < 2 ^ 64) × (n ≡ (bumps_to m.0 (r + 1), m.1))

abbrev pub stays : View → View
stays v = record v { to_give = v.to_give - 1 }

abbrev pub splits_off : View → View
splits_off v = record { seen = v.seen; drawn = []; born = []; marked = []; draws = 0; bumps = 0; steps = 0; to_give = 0 }
