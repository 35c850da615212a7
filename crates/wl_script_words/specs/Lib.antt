pub mod Words
pub mod WordReading
pub mod WordPrinting
pub mod Snapshots
