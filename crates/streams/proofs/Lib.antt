pub mod Returning
pub mod Pushing
pub mod Books
pub mod Making
pub mod Sketched
