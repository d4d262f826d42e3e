pub mod Said
pub mod Grammar
pub mod RefutationRules
pub mod Reading
pub mod Steps
pub mod Verdicts
pub mod Laws
