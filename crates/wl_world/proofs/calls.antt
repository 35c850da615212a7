-- Code of the calls: its changes to the tables equal the definition's changes to the world.
pub mod SupervisorParts
pub mod StampedMessages
pub mod OneAfterAnother
pub mod CommandCalls
pub mod LivingRows
pub mod MergedReaches
pub mod PassedPosts
pub mod ChannelCalls
pub mod ChannelRows
pub mod ReportCalls
