pub mod Given
pub mod FirstError
pub mod Explaining
pub mod Marking
pub mod Texts
