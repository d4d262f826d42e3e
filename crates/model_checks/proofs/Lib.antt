pub mod Counting
pub mod Histories
pub mod Numbers
pub mod Sound
