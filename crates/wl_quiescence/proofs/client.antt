-- A client sends what is unsent, and handles the oldest frame that came.
pub mod Items
pub mod Again
pub mod Sends
pub mod Hears
pub mod Kept
pub mod Answers
pub mod Frames
pub mod Parts
pub mod Others
pub mod Whole
pub mod Posts
pub mod Queries
pub mod Heeds
pub mod Heeding
pub mod HeedsOn
