pub use Rattle.wl_draft.specs.Tables
pub use Rattle.wl_draft.specs.Locks
pub mod PlainTables
pub mod TableInvariant
