pub mod Effects
pub mod OneWord
pub mod TallyAndCell
pub mod LogWords
pub mod LogProgram
pub mod LogEffects
pub mod LogRules
