pub mod Delivering
pub mod Numbered
pub mod Gained
pub mod Rising
pub mod Received
pub mod OldPosts
pub mod Bounds
pub mod ChannelNames
