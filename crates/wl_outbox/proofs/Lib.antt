pub mod Merging
pub mod FromMerge
pub mod Puts
pub mod KeptRule
pub mod FromRule
