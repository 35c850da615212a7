pub mod Tabs
pub mod Arrivals
pub mod TabTokens
pub mod TabChannels
pub mod Telling
