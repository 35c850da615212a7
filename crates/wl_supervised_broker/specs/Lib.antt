pub mod Changes
pub mod SupervisedStates
pub mod Supervising
