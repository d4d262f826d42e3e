pub mod TwoCalls
pub mod Lookups
pub mod Lock
pub mod Replies
pub mod Counters
pub mod CrossedParts
pub mod CrossedOrders
