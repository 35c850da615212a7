-- Laws of brokers in shards.
pub mod Cuts
pub mod Homes
pub mod Orders
pub mod Runs
pub mod Steps
