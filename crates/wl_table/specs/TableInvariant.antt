-- Invariant of an indexed table.
use Rattle.std.specs.Prelude.{◌≡◌, []}
use Rattle.wl_table_index.specs.Index.{IsIndexed, IsLean}
use Rattle.wl_table_index.specs.Nexts.{AreCandidates}
use Rattle.wl_table.specs.declared.indexed_table.IndexedTable.TheInside.{Inside}

pub record IsKept (t : Inside) : Type 0 where
  pub index : IsIndexed t.index
  pub lean : IsLean t.index
  pub candidates : AreCandidates t.candidates.items t.index.held.items t.index.waiting.items
  pub granted : t.granted.items ≡ []
