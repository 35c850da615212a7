pub mod Fault
pub mod OriginText
pub mod Order
pub mod Partition
pub mod Ties
