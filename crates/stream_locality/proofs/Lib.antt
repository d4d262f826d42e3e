pub mod Parts
pub mod Growing
pub mod Orders
pub mod Merging
pub mod KindProducts
