pub mod PruningLemmas
pub mod Least
pub mod OneOpen
