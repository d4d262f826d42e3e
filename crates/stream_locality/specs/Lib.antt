pub mod StreamParts
pub mod KindKeys
