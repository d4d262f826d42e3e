pub mod ReportRules
pub mod Drafts
pub mod Parts
