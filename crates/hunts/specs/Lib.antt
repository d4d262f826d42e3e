pub mod Passes
pub mod Silence
pub mod Listing
pub mod Hunting
pub mod Watching
pub mod Caught
pub mod Asking
pub mod AskedHunts
