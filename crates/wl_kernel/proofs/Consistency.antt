-- Consistency of the whole table, after an opening, a death and a stop.
use Rattle.std.proofs.Common.{◌≡◌, ℕ, ◌<◌, ◌≤◌, true, false, ◌&&◌, cond, List, [], ◌∷◌, ◌++◌, length, set, slice_get, map, Some, None, option_map, refl, sym, ap, ◌∙◌, subst}
use Rattle.std.proofs.lemmas.List.{length-map, map_push}
use Rattle.wl_origin.specs.Order.{Pair}
use Rattle.wl_draft.specs.Tables.{Table, put}
use Rattle.wl_kernel.specs.declared.rows.TabRow.{TabRow}
use Rattle.wl_kernel.specs.Kernel.{OpenedTab, tab_in, living_in, any_tab, insert_sorted, ended}
use Rattle.wl_kernel.specs.TableIndexes.{HomeTable, home_of, partition_at, SetsHome, KeepsPlaces, seen, all_seen, HaveHomes, place_in, joined, left, AreTabs, IsPlaced, AreHomes, IsConsistent}
use Rattle.wl_kernel.proofs.RisingNumbers.{without}
use Rattle.wl_kernel.proofs.Living.{living_in-push, living_in-ended}
use Rattle.wl_kernel.proofs.OpenedTabs.{tabs-push, tabs-ended, placed-push, place_in-ended, row_placed, has_home_at, have_homes-push, have_homes-set, have_homes-kept, seen-kept, rows_ended_at}
use Rattle.wl_kernel.proofs.KeptHomes.{homes-push, homes-ended}

-- The table is consistent with the opened tabs that its rows stand for.
record IsKept (os : List OpenedTab) (rows : List TabRow) (places : Table ℕ) (homes : HomeTable) (living : List ℕ) : Type 0 where
  tabs : AreTabs os
  placed : IsPlaced os places
  have_homes : HaveHomes homes rows
  housed : AreHomes os homes
  alive : living ≡ living_in any_tab os

consistent : (os : List OpenedTab) (rows : List TabRow) (places : Table ℕ) (homes : HomeTable) (living : List ℕ) (g l : ℕ)
    → all_seen homes rows ≡ os → 1 ≤ g → g ≤ l → IsKept os rows places homes living → IsConsistent rows places homes living g l
consistent os rows places homes living g l is one last k = record {
  tabs = subst AreTabs (sym is) k.tabs;
  placed = subst (λ (xs : List OpenedTab). IsPlaced xs places) (sym is) k.placed;
  have_homes = k.have_homes;
  housed = subst (λ (xs : List OpenedTab). AreHomes xs homes) (sym is) k.housed;
  alive = k.alive ∙ ap (living_in any_tab) (sym is);
  from_one = one;
  up_to_last = last;
}

-- A new tab was appended to the rows, its partition's home and the living tabs.
pub record IsEntered (rows : List TabRow) (homes : HomeTable) (r : TabRow) (p : Pair) (more : HomeTable) : Type 0 where
  pub from_one : 1 ≤ r.tab
  pub new : tab_in (all_seen homes rows) r.tab ≡ None
  pub alive : r.is_living ≡ true
  pub has_home : r.home < length more.homes
  pub own : partition_at more r.home ≡ p
  pub joins : SetsHome homes more p (Some (joined r.tab (home_of homes p)))
  pub kept : KeepsPlaces homes more

pub seen-push : (rows : List TabRow) (homes : HomeTable) (r : TabRow) (more : HomeTable) → HaveHomes homes rows → KeepsPlaces homes more
    → all_seen more (rows ++ r ∷ []) ≡ all_seen homes rows ++ seen more r ∷ []
seen-push rows homes r more have kept = map_push (seen more) rows r ∙ ap (λ os. os ++ seen more r ∷ []) (seen-kept homes more rows kept have)

joins_own : (homes : HomeTable) (r : TabRow) (p : Pair) (more : HomeTable) → partition_at more r.home ≡ p → SetsHome homes more p (Some (joined r.tab (home_of homes p)))
    → SetsHome homes more (partition_at more r.home) (Some (joined r.tab (home_of homes (partition_at more r.home))))
joins_own homes r p more own joins = subst (λ (q : Pair). SetsHome homes more q (Some (joined r.tab (home_of homes q)))) (sym own) joins

one_more : (rows : List TabRow) (places : Table ℕ) (homes : HomeTable) (living : List ℕ) (g l : ℕ) (r : TabRow) (p : Pair) (more : HomeTable)
    → IsConsistent rows places homes living g l → IsEntered rows homes r p more
    → IsKept (all_seen homes rows ++ seen more r ∷ []) (rows ++ r ∷ []) (put r.tab (length rows) places) more (insert_sorted r.tab living)
one_more rows places homes living g l r p more c e =
    let os = all_seen homes rows in
    let o = seen more r in
    record {
      tabs = tabs-push os o e.from_one e.new c.tabs;
      placed = subst (λ n. IsPlaced (os ++ o ∷ []) (put r.tab n places)) (length-map rows (seen homes)) (placed-push os o places e.new c.placed);
      have_homes = have_homes-push more rows r (have_homes-kept homes more rows e.kept c.have_homes) e.has_home;
      housed = homes-push os o homes more e.alive c.housed (joins_own homes r p more e.own e.joins);
      alive = ap (insert_sorted r.tab) c.alive ∙ sym (living_in-push any_tab os o ∙ ap (λ b. cond (b && true) (insert_sorted r.tab (living_in any_tab os)) (living_in any_tab os)) e.alive);
    }

pub consistent-push : (rows : List TabRow) (places : Table ℕ) (homes : HomeTable) (living : List ℕ) (g l : ℕ) (r : TabRow) (p : Pair)
    (after : List TabRow) (at : Table ℕ) (more : HomeTable) (all : List ℕ)
    → IsConsistent rows places homes living g l → IsEntered rows homes r p more
    → after ≡ rows ++ r ∷ [] → at ≡ put r.tab (length rows) places → all ≡ insert_sorted r.tab living
    → IsConsistent after at more all g l
consistent-push rows places homes living g l r p after at more all c e behind there among =
    rw (behind, there, among)
    (consistent (all_seen homes rows ++ seen more r ∷ []) (rows ++ r ∷ []) (put r.tab (length rows) places) more (insert_sorted r.tab living) g l
    (seen-push rows homes r more c.have_homes e.kept) c.from_one c.up_to_last (one_more rows places homes living g l r p more c e))

-- A tab's death was recorded in its row, its partition's home and the living tabs.
pub record IsBuried (rows : List TabRow) (homes : HomeTable) (t i : ℕ) (r : TabRow) (less : HomeTable) : Type 0 where
  pub placed : place_in (all_seen homes rows) t ≡ Some i
  pub there : slice_get rows i ≡ Some r
  pub leaves : SetsHome homes less (partition_at homes r.home) (option_map (left t) (home_of homes (partition_at homes r.home)))
  pub kept : KeepsPlaces homes less

ended_homes : (rows : List TabRow) (homes : HomeTable) (t i : ℕ) (r : TabRow) (less : HomeTable) → HaveHomes homes rows → IsBuried rows homes t i r less
    → HaveHomes homes (set rows i (record r { is_living = false }))
ended_homes rows homes t i r less have b = have_homes-set homes rows i (record r { is_living = false }) (has_home_at homes rows i r b.there have) have

pub seen-ended : (rows : List TabRow) (homes : HomeTable) (t i : ℕ) (r : TabRow) (less : HomeTable) → AreTabs (all_seen homes rows) → HaveHomes homes rows → IsBuried rows homes t i r less
    → all_seen less (set rows i (record r { is_living = false })) ≡ map (ended t) (all_seen homes rows)
seen-ended rows homes t i r less tabs have b =
    seen-kept homes less (set rows i (record r { is_living = false })) b.kept (ended_homes rows homes t i r less have b)
    ∙ rows_ended_at homes t rows i r tabs b.placed b.there

pub consistent-ended : (rows : List TabRow) (places : Table ℕ) (homes : HomeTable) (living : List ℕ) (g l : ℕ) (t i : ℕ) (r : TabRow) (less : HomeTable) (all : List ℕ)
    → IsConsistent rows places homes living g l → IsBuried rows homes t i r less → all ≡ without t living
    → IsConsistent (set rows i (record r { is_living = false })) places less all g l
consistent-ended rows places homes living g l t i r less all c b gone =
    let os = all_seen homes rows in
    let after = set rows i (record r { is_living = false }) in
    consistent (map (ended t) os) after places less all g l (seen-ended rows homes t i r less c.tabs c.have_homes b) c.from_one c.up_to_last
    (record {
      tabs = tabs-ended t os c.tabs;
      placed = λ u. c.placed u ∙ sym (place_in-ended t os u);
      have_homes = have_homes-kept homes less after b.kept (ended_homes rows homes t i r less c.have_homes b);
      housed = homes-ended t os (seen homes r) (partition_at homes r.home) homes less c.tabs (row_placed homes rows t i r b.placed b.there) refl c.housed b.leaves;
      alive = gone ∙ ap (without t) c.alive ∙ sym (living_in-ended any_tab t os (λ o. refl) c.tabs);
    })

-- A table with equal parts is consistent.
pub consistent-same : (rows : List TabRow) (places : Table ℕ) (homes : HomeTable) (living : List ℕ) (g l : ℕ)
    (after : List TabRow) (at : Table ℕ) (same : HomeTable) (all : List ℕ)
    → IsConsistent rows places homes living g l → after ≡ rows → at ≡ places → same ≡ homes → all ≡ living
    → IsConsistent after at same all g l
consistent-same rows places homes living g l after at same all c behind there kept among = rw (behind, there, kept, among) c
