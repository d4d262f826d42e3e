pub mod Filling
pub mod Errors
pub mod FirstErrors
pub mod Sizes
pub mod Books
pub mod Orders
pub mod LawfulErrors
