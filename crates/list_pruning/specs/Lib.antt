pub mod Sights
pub mod LeastFirst
pub mod HoldsLast
pub mod LastFirst
