pub mod Closed
pub mod Fault
pub mod Impossible
pub mod Counts
pub mod Counting
pub mod Stored
pub mod Laws
