pub mod FaultStatus
pub mod Links
pub mod Paths
