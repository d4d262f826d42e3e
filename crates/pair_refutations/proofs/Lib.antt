pub mod Moving
pub mod Storing
pub mod Leading
pub mod Making
pub mod Refuting
pub mod Faults
