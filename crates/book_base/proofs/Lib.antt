pub mod CutLemmas
pub mod PageLemmas
pub mod GrowthLemmas
pub mod ViewLemmas
pub mod RefusalLemmas
pub mod ReachingLemmas
