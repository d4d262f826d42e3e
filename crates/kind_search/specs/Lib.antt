pub mod Readings
pub mod Keys
pub mod PqueueReading
pub mod RegisterReading
pub mod Seen
