-- What comes down to a client agrees with the broker after each step.
pub mod Agrees
pub mod Commands
pub mod Taken
pub mod Advances
pub mod Calls
pub mod Hub
pub mod Law
