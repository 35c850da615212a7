pub mod Stuck
pub mod SettleLemmas
pub mod IndexLemmas
mod EntryLemmas
pub mod LeanLemmas
mod UsedLemmas
mod NextLemmas
pub mod RemovalLemmas
pub mod CandidateLemmas
mod RoomLemmas
mod SortLemmas
pub mod ReportLemmas
pub mod OrderLemmas
mod SlotLemmas
mod RowLemmas
mod LineLemmas
pub mod WithoutLemmas
mod QueueLemmas
mod HoldingLemmas
pub mod PlaceLemmas
