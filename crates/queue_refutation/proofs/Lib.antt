pub mod Dropping
pub mod Leading
pub mod Refuting
pub mod Succeeding
pub mod Entries
pub mod Passing
pub mod Ending
pub mod Clashing
