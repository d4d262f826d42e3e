pub mod Words
pub mod History
pub mod Checks
pub mod Requests
pub mod Laws
