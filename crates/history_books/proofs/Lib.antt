pub mod Growing
pub mod Sweeping
pub mod Ending
pub mod Widening
pub mod KeepingOrders
