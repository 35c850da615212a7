pub mod BodyLemmas
pub mod PlayLemmas
pub mod RunLemmas
pub mod SimLemmas
pub mod Splits
pub mod Texts
