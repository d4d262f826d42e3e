pub mod Plans
pub mod Grammar
pub mod ScriptRules
pub mod ScriptLayout
pub mod Parts
pub mod Generator
pub mod Draws
pub mod Drawn
