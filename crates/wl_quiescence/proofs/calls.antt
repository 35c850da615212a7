-- A page's calls, openings and deaths of tabs, and frames that the hub drops; facts of all runs that the calls need.
pub mod Issues
pub mod Steps
pub mod Numbers
pub mod Limits
pub mod Room
pub mod Once
pub mod Reports
pub mod Opens
pub mod Outputs
pub mod Drops
pub mod Draining
