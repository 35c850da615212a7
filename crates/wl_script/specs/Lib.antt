pub use Rattle.wl_grammar.specs.Grammar
pub mod Forgeries
pub mod SimLines
pub mod Played
pub mod Sim
pub mod SimSteps
pub mod MessageTexts
pub mod ReplyTexts
