pub mod Items
pub mod Description
pub mod Pooled
pub mod Steps
pub mod Closing
pub mod Laws
