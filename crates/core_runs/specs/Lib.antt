pub mod Logged
pub mod Runs
pub mod LogLaws
pub mod Inside
pub mod LoggedReports
