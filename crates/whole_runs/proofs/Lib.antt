pub mod MadeScripts
pub mod Passes
pub mod Seats
