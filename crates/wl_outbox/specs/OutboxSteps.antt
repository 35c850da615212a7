-- The effect of each kind of step on the view of its pass, and the facts that each step reveals.
use Rattle.std.specs.Prelude.{◌≡◌, ℕ, List, [], ◌∷◌, ◌++◌}
use Rattle.wl_outbox.specs.declared.rule.Role.TheVariants.{Taking, Putting}
use Rattle.wl_outbox.specs.declared.rule.View.{View}
use Rattle.wl_outbox.specs.Parcels.{Packed}
use Rattle.wl_outbox.specs.OutboxRule.{Knows, IsForTabOf, IsOrderly}

-- The view of a new pass that takes.
abbrev pub taker_of : ℕ → ℕ → View
taker_of partition tab = record { role = Taking; partition = partition; tab = tab; parcels = [] }

-- The view of a new pass that puts.
abbrev pub putter_of : ℕ → ℕ → View
putter_of partition tab = record { role = Putting; partition = partition; tab = tab; parcels = [] }

-- One more parcel was put or taken.
abbrev pub with_parcel : View → Packed → View
with_parcel v p = record v { parcels = v.parcels ++ p ∷ [] }

abbrev pub put_in : View → Packed → View → Type 0
put_in v p w = w ≡ with_parcel v p

abbrev pub taken_out : View → Packed → View → Type 0
taken_out v p w = (w ≡ with_parcel v p) × IsForTabOf v p

-- At some moment the rule holds, the queue holds these parcels, and a pass has this view.
abbrev pub IsMoment : View → List Packed → Type 0
IsMoment v items = (views : List View) × (pass : ℕ) × IsOrderly items views × Knows views pass v
