pub mod Locks
pub mod Counters
pub mod OpenCalls
pub mod BoundedQueues
