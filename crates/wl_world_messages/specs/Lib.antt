pub mod Messages
pub mod MessageKeys
pub mod BagIndex
pub mod Refused
