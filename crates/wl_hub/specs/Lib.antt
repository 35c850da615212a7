pub mod Early
pub mod Faults
pub mod Hub
pub mod Sending
pub mod Stored
