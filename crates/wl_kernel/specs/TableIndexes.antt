-- Helper definitions: the tab table as the code stores it, with its indexes.
use Rattle.std.specs.Prelude.{◌≡◌, ℕ, ◌+◌, ◌^◌, ◌<◌, ◌≤◌, List, [], ◌∷◌, not, ◌==◌, length, map, filter, Option, Some, None, option_map, ⊤, if◌then◌else◌}
use Rattle.std.specs.List.{list_any, slice_get, AllByRecursion}
use Rattle.std.specs.Map.{lookup}
use Rattle.std.specs.BTreeMap.{insert_entry, is_at}
use Rattle.url.specs.declared.host.Host.TheVariants.{Domain}
use Rattle.wl_limits.specs.declared.frames.TheConstants.{LIST_LIMIT}
use Rattle.wl_origin.specs.Order.{Pair, paired, pair_eq, pair_cmp}
use Rattle.wl_draft.specs.Tables.{Table, find}
use Rattle.wl_grammar.specs.Grammar.{IsPlace, TabsRiseFrom}
use Rattle.wl_kernel.specs.declared.rows.TabRow.{TabRow}
use Rattle.wl_kernel.specs.Kernel.{KernelState, OpenedTab, tab_in, tab_of, living_in, any_tab, insert_sorted, is_of, number_or}

-- Homes

-- The homes, each with a partition's number and its living tabs, and the index of each partition's home.
pub record HomeTable : Type 0 where
  pub homes : List (ℕ × List ℕ)
  pub places : List (Pair × ℕ)

abbrev pub no_homes : HomeTable
no_homes = record { homes = []; places = [] }

-- The index of a partition's home.
abbrev pub home_place : List (Pair × ℕ) → Pair → Option ℕ
home_place places p = lookup (is_at (pair_cmp p)) places

abbrev pub home_at : List (ℕ × List ℕ) → Option ℕ → Option (ℕ × List ℕ)
home_at homes None = None
home_at homes (Some i) = slice_get homes i

-- The home of a partition, if a tab was opened in it.
abbrev pub home_of : HomeTable → Pair → Option (ℕ × List ℕ)
home_of h p = home_at h.homes (home_place h.places p)

-- A placeholder for a missing partition.
abbrev pub nowhere : Pair
nowhere = paired ([], Domain [], 0)

-- The partition whose home has this index.
abbrev pub partition_in : List (Pair × ℕ) → ℕ → Pair
partition_in [] i = nowhere
partition_in (e ∷ es) i = if e.1 == i then e.0 else partition_in es i

abbrev pub partition_at : HomeTable → ℕ → Pair
partition_at h i = partition_in h.places i

-- The index of `count` homes: each partition has its own home, and each home belongs to one partition.
pub record AreHomePlaces (places : List (Pair × ℕ)) (count : ℕ) : Type 0 where
  pub below : AllByRecursion (λ e. e.1 < count) places
  pub own : (p : Pair) (i : ℕ) → home_place places p ≡ Some i → partition_in places i ≡ p
  pub there : (i : ℕ) → i < count → home_place places (partition_in places i) ≡ Some i

-- Helper definition: the index after the home of a new partition is appended.
pub record HasOneMore (p : Pair) (n : ℕ) (es more : List (Pair × ℕ)) : Type 0 where
  pub new : home_place es p ≡ None
  pub entries : more ≡ insert_entry pair_cmp es p n
  pub places : (q : Pair) → home_place more q ≡ (if is_at (pair_cmp p) q then Some n else home_place es q)

-- Only the home of one partition is written.
abbrev pub SetsHome : HomeTable → HomeTable → Pair → Option (ℕ × List ℕ) → Type 0
SetsHome h k p w = (q : Pair) → home_of k q ≡ (if pair_eq p q then w else home_of h q)

-- No home changes its index.
abbrev pub KeepsPlaces : HomeTable → HomeTable → Type 0
KeepsPlaces h k = (i : ℕ) → i < length h.homes → (i < length k.homes) × (partition_at k i ≡ partition_at h i)

-- Rows

-- A row as an opened tab of this partition.
abbrev pub seen_in : Pair → TabRow → OpenedTab
seen_in p r = record { tab = r.tab; partition = p; generation = r.generation; living = r.is_living }

-- A row as an opened tab of the partition whose home the row names.
abbrev pub seen : HomeTable → TabRow → OpenedTab
seen h r = seen_in (partition_at h r.home) r

abbrev pub all_seen : HomeTable → List TabRow → List OpenedTab
all_seen h rows = map (seen h) rows

-- Each row names an existing home.
abbrev pub HaveHomes : HomeTable → List TabRow → Type 0
HaveHomes h rows = AllByRecursion (λ r. r.home < length h.homes) rows

-- The index of a tab in the list.
abbrev pub place_in : List OpenedTab → ℕ → Option ℕ
place_in [] t = None
place_in (o ∷ os) t = if o.tab == t then Some 0 else option_map (λ i. i + 1) (place_in os t)

-- The table has the index of each tab.
abbrev pub IsPlaced : List OpenedTab → Table ℕ → Type 0
IsPlaced os places = (t : ℕ) → find places t ≡ place_in os t

-- Tab numbers are at least 1, and each occurs once.
abbrev pub AreTabs : List OpenedTab → Type 0
AreTabs [] = ⊤
AreTabs (o ∷ os) = (1 ≤ o.tab) × (tab_in os o.tab ≡ None) × AreTabs os

-- Partitions

-- The partition of an opened tab.
abbrev pub partition_beside : Option OpenedTab → Pair
partition_beside None = nowhere
partition_beside (Some o) = o.partition

abbrev pub partition_of : KernelState → ℕ → Pair
partition_of k t = partition_beside (tab_of k t)

-- The home of a partition in which a tab was opened.
abbrev pub home_in : List OpenedTab → Pair → Option (ℕ × List ℕ)
home_in os p = if list_any (is_of p) os then Some (number_or 0 os p, living_in (is_of p) os) else None

-- The living tabs of a home.
abbrev pub members : Option (ℕ × List ℕ) → List ℕ
members None = []
members (Some h) = h.1

-- The home after a tab has joined. A new home has the tab's number.
abbrev pub joined : ℕ → Option (ℕ × List ℕ) → ℕ × List ℕ
joined t None = (t, t ∷ [])
joined t (Some h) = (h.0, insert_sorted t h.1)

-- The home after a tab has left.
abbrev pub left : ℕ → ℕ × List ℕ → ℕ × List ℕ
left t h = (h.0, filter (λ n. not (n == t)) h.1)

abbrev pub AreHomes : List OpenedTab → HomeTable → Type 0
AreHomes os homes = (p : Pair) → home_of homes p ≡ home_in os p

-- The whole table

pub record IsConsistent (rows : List TabRow) (places : Table ℕ) (homes : HomeTable) (living : List ℕ) (generation last : ℕ) : Type 0 where
  pub tabs : AreTabs (all_seen homes rows)
  pub placed : IsPlaced (all_seen homes rows) places
  pub have_homes : HaveHomes homes rows
  pub housed : AreHomes (all_seen homes rows) homes
  pub alive : living ≡ living_in any_tab (all_seen homes rows)
  pub from_one : 1 ≤ generation
  pub up_to_last : generation ≤ last

-- A Start frame

-- Both numbers fit into two bytes.
abbrev pub Below : ℕ × ℕ → Type 0
Below p = (p.0 < 2 ^ 16) × (p.1 < 2 ^ 16)

-- The list is well-formed as the list of a Start frame.
pub record IsList (list : List (ℕ × ℕ)) : Type 0 where
  pub count : length list ≤ LIST_LIMIT
  pub places : AllByRecursion IsPlace list
  pub rise : TabsRiseFrom 1 list
