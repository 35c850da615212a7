pub mod Decimals
pub mod Numbers
pub mod Texts
pub mod WordLemmas
mod NoFloats
