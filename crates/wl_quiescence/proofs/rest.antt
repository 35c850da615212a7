-- The invariant, what follows from it at rest, and the steps that touch no command: starts, stops, hellos, links, posts.
pub mod Invariant
pub mod Items
pub mod Broker
pub mod Starts
pub mod Restarts
pub mod Hello
pub mod Steps
pub mod Entering
pub mod Hellos
pub mod Posts
pub mod Outputs
pub mod Served
pub mod Nobody
pub mod Law
