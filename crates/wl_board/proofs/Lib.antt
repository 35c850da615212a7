pub mod Views
pub mod Keeps
pub mod Allowed
pub mod Counted
pub mod FromRule
