pub mod OrderLemmas
pub mod PartitionLemmas
