pub mod Handle
pub mod Pages
pub mod Statuses
