-- Proofs of the law of rest: an invariant that each step keeps, and what it says at rest.
pub mod rest
pub mod calls
pub mod client
pub mod hub
pub mod joins
pub mod facts
pub mod heeds
pub mod Reached
pub mod Known
pub mod OfEach
pub mod Assembly
