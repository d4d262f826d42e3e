mod Raising
mod SetOrders
mod Weighing
mod Picking
mod Trying
mod Leading
mod Walking
mod Singles
pub mod Joining
mod JoinTexts
pub mod SharpSetBooks
pub mod SetHeads
mod NamedCalls
mod Twins
pub mod WrittenTexts
pub mod FaultTexts
