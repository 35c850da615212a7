pub mod Kernel
pub mod Routes
pub mod TableIndexes
pub mod Lending
pub mod KernelLaws
pub mod SupervisorStates
pub mod Welcome
