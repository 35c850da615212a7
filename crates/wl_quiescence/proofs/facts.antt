-- Facts of all runs: what the broker knows, and what has arrived at the hub.
pub mod Tabs
pub mod Induction
pub mod Issued
pub mod Reported
pub mod Rows
pub mod Releases
pub mod Released
pub mod ReleasedRuns
pub mod ReleasedLater
pub mod Listed
pub mod Arrived
pub mod Untold
pub mod Said
pub mod Locks
