-- Separate partitions: events and worlds restricted to one partition.
pub mod Cuts
pub mod CutMail
pub mod CutKernel
pub mod OnePartition
pub mod CutBroker
pub mod ToldApart
pub mod ActsBySight
pub mod CutEvents
pub mod CutOpening
pub mod RunsApart
