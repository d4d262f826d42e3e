pub mod Stream
pub mod StreamOrder
pub mod StreamBook
pub mod BookStream
pub mod Laws
