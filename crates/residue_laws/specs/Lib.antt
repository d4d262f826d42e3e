pub mod Residue
pub mod Step
pub mod Continuation
pub mod Late
pub mod Lookahead
pub mod Simulation
pub mod Laws
