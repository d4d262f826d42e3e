pub mod ReportedRuns
pub mod Workers
pub mod WorkedReport
