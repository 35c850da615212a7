-- Channel laws: the posts that a channel object takes, and the posts that are read from it.
pub mod ChannelSteps
pub mod PostsRise
pub mod ReadsAndRest
