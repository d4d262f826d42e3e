pub mod Going
pub mod Seen
pub mod Ending
pub mod Turning
pub mod AfterScans
pub mod Owning
