pub mod Listings
pub mod Made
pub mod Heard
pub mod Written
pub mod Changes
