pub mod Telling
pub mod Keeping
pub mod Owing
pub mod CountLemmas
pub mod Releasing
pub mod LeavingOrder
