pub mod Reading
pub mod KeyedItems
pub mod SetKeys
pub mod MapKeys
pub mod Narrowing
pub mod LeastFirst
pub mod HoldsLast
pub mod LastFirst
