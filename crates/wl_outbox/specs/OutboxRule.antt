-- The rule of an outbox, over the content of its queue and the views of its passes.
use Rattle.std.specs.Prelude.{◌≡◌, ◌≢◌, ◌⊎◌, ℕ, List, [], ◌∷◌, ◌++◌, All}
use mathlib.Core.Option.{Option, none, some}
use lib.ListN.{get_elem?}
use Rattle.wl_outbox.specs.declared.rule.Role.{Role}
use Rattle.wl_outbox.specs.declared.rule.Role.TheVariants.{Opening, Taking, Putting}
use Rattle.wl_outbox.specs.declared.rule.View.{View}
use Rattle.wl_outbox.specs.Merge.{IsMerge}
use Rattle.wl_outbox.specs.Parcels.{Packed}

-- This pass has view v.
abbrev pub Knows : List View → ℕ → View → Type 0
Knows views pass v = get_elem? views pass ≡ some v

-- The parcels that a pass has put.
abbrev pub puts : Role → List Packed → List Packed
puts Opening parcels = []
puts Taking parcels = []
puts Putting parcels = parcels

abbrev pub put_of : Option View → List Packed
put_of none = []
put_of (some v) = puts v.role v.parcels

abbrev pub put_by : List View → ℕ → List Packed
put_by views pass = put_of (get_elem? views pass)

-- The parcel is for the tab that the pass knows and comes from its partition.
abbrev pub IsForTabOf : View → Packed → Type 0
IsForTabOf v p = (p.partition ≡ v.partition) × (p.tab ≡ v.tab)

-- An outbox that is assigned to a tab.
pub record IsMerging (items : List Packed) (views : List View) : Type 0 where
  -- One pass takes.
  pub taker : ℕ
  pub taking : View
  pub knows : Knows views taker taking
  pub takes : taking.role ≡ Taking
  pub alone : (pass : ℕ) (v : View) → Knows views pass v → v.role ≡ Taking → pass ≡ taker
  -- The parcels taken, followed by those in the queue, are a merge of the passes' puts.
  pub merge : IsMerge (taking.parcels ++ items) (put_by views)
  -- All parcels are for one tab.
  pub opened : (pass : ℕ) (v : View) → Knows views pass v → v.role ≢ Opening
  pub same_tab : (pass : ℕ) (v : View) → Knows views pass v → (v.partition ≡ taking.partition) × (v.tab ≡ taking.tab)
  pub for_tab : All (IsForTabOf taking) (taking.parcels ++ items)

-- The only pass of an outbox that is being created.
abbrev pub opening : View
opening = record { role = Opening; partition = 0; tab = 0; parcels = [] }

abbrev pub IsOrderly : List Packed → List View → Type 0
IsOrderly items views = ((views ≡ opening ∷ []) × (items ≡ [])) ⊎ IsMerging items views
