pub mod Lines
pub mod Witnesses
pub mod ReportedRuns
pub mod RefusedReports
pub mod Stops
pub mod Returns
