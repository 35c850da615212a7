-- The values of outboxes and passes in contracts.
use Rattle.std.specs.Prelude.{◌≡◌, ℕ, Bool, true, false}
use Rattle.atomic_table.specs.Seated.{TableId}
use Rattle.wl_outbox.specs.declared.rule.Role.{Role}
use Rattle.wl_outbox.specs.declared.rule.Role.TheVariants.{Opening, Taking, Putting}
use Rattle.wl_outbox.specs.declared.rule.View.{View}
use Rattle.wl_outbox.specs.Parcels.{Packed}

-- An outbox: its queue and its tab.
pub record Shared : Type 0 where
  pub queue : TableId
  pub partition : ℕ
  pub tab : ℕ

-- A pass: its queue, its number there, and its view.
pub record Handed : Type 0 where
  pub queue : TableId
  pub pass : ℕ
  pub view : View

abbrev pub is_taking : Role → Bool
is_taking Opening = false
is_taking Taking = true
is_taking Putting = false

abbrev pub takes : Handed → Bool
takes p = is_taking p.view.role

-- The role of a pass that takes or puts.
abbrev pub role_of : Bool → Role
role_of true = Taking
role_of false = Putting

abbrev pub IsRole : Role → Bool → Type 0
IsRole role takes = role ≡ role_of takes

-- The pass belongs to this outbox.
pub record IsOf (p : Handed) (o : Shared) : Type 0 where
  pub queue : p.queue ≡ o.queue
  pub partition : p.view.partition ≡ o.partition
  pub tab : p.view.tab ≡ o.tab

-- The two values are of the same pass, with the same role.
pub record IsSamePass (old new : Handed) : Type 0 where
  pub queue : new.queue ≡ old.queue
  pub pass : new.pass ≡ old.pass
  pub role : new.view.role ≡ old.view.role
  pub partition : new.view.partition ≡ old.view.partition
  pub tab : new.view.tab ≡ old.view.tab

-- The parcel is for the outbox's tab and comes from its partition.
abbrev pub IsFor : Packed → Shared → Type 0
IsFor p o = (p.partition ≡ o.partition) × (p.tab ≡ o.tab)
