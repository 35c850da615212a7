pub mod DeskLemmas
pub mod PieceLemmas
pub mod RunLemmas
pub mod ToldLemmas
pub mod ReaderLemmas
pub mod WriterLemmas
pub mod LaneLemmas
