pub use Rattle.wl_draft.specs.Tables
pub mod PartialReports
pub mod ReportParts
