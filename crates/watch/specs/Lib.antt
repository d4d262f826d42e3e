pub mod Output
pub mod Lines
pub mod Account
pub mod Timely
pub mod Watching
pub mod Ending
