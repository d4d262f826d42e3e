pub mod Standing
pub mod Publications
pub mod SeenCuts
pub mod Gathering
pub mod Outcomes
pub mod WholeCalls
pub mod Grown
pub mod Verdicts
