pub mod Stands
pub mod Calling
pub mod Growth
pub mod Events
pub mod States
pub mod ObjectSteps
pub mod Telling
