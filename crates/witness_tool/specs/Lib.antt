pub mod Task
pub mod Output
