pub mod FaultFree
pub mod Forms
pub mod Given
pub mod Grammar
pub mod Lists
pub mod Numbers
