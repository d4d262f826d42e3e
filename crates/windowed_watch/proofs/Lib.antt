pub mod Further
pub mod Foretelling
pub mod Logs
pub mod Finding
pub mod Refusing
