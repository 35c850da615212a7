pub use Rattle.wl_draft.specs.Tables
pub use Rattle.wl_draft.specs.Locks
pub use Rattle.wl_grammar.specs.Grammar
pub mod Stream
pub mod Reading
pub mod Bodies
pub mod Device
pub mod Faults
