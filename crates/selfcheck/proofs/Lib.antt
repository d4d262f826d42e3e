pub mod ArgumentLemmas
pub mod CommandLemmas
pub mod CommandLineLemmas
pub mod InputLemmas
pub mod OutputLemmas
mod MonitorLemmas
mod SetLemmas
mod ScriptLemmas
mod SoakLemmas
mod TaskLemmas
pub mod UpgradeLemmas
