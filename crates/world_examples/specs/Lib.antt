pub mod Schedules
pub mod Refusals
pub mod Histories
pub mod SecondCalls
pub mod OneCaller
pub mod Parts
pub mod WrongHistories
pub mod JudgedRuns
