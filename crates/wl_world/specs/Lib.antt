pub mod Components
pub mod Merging
