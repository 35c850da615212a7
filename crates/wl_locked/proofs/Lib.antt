pub mod Steps
pub mod Replying
pub mod Runs
pub mod Same
pub mod Raising
pub mod Listing
pub mod Gathered
pub mod Greeting
