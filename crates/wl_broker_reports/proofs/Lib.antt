pub mod Bounds
pub mod KeptParts
pub mod WrittenRows
