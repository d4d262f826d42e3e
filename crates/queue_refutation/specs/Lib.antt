pub mod Closed
pub mod RefutationLaws
pub mod DeadEnds
pub mod Counts
pub mod CountLaws
