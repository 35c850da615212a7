-- The value of a parcel in contracts.
use Rattle.std.specs.Prelude.{ℕ}
use Rattle.wl_grammar.specs.declared.frame.Frame.{Frame}

-- A frame for a tab, from a source in the tab's partition.
pub record Packed : Type 0 where
  pub partition : ℕ
  pub tab : ℕ
  pub frame : Frame

abbrev pub packed : ℕ → ℕ → Frame → Packed
packed partition tab frame = record { partition = partition; tab = tab; frame = frame }
