pub mod Handle
pub mod Numbers
pub mod Statuses
