pub mod Calls
pub mod BookOf
pub mod Sweep
pub mod Causes
pub mod Laws
