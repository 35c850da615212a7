pub mod Client
pub mod Faults
pub mod Sending
