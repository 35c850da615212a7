-- A tab joins with its report, and is served afterwards.
pub mod Clients
pub mod Ready
pub mod Calls
pub mod Seats
pub mod Rising
pub mod Stored
pub mod Told
