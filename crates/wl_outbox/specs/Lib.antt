pub use Rattle.wl_grammar.specs.Grammar
pub mod Merge
pub mod MergeLaws
pub mod Parcels
pub mod OutboxRule
pub mod OutboxSteps
pub mod Passes
pub mod OutboxLaws
