pub mod Ends
pub mod Parts
pub mod FirstErrors
pub mod GivenLemmas
pub mod Judging
