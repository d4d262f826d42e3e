pub mod Laws
pub mod Line
pub mod Reader
pub mod Refusal
pub mod Source
pub mod Stream
