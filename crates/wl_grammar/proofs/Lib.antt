pub mod Prefixes
pub mod BodyLength
pub mod Framing
pub mod Lists
pub mod Parts
