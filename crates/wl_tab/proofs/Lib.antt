mod Positions
mod OpenChannels
mod KeptTokens
mod Advancing
mod Arriving
mod Fates
mod Heard
mod Spending
pub mod TabTables
