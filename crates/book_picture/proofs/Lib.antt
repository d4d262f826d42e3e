pub mod DrawingLemmas
pub mod NumberLemmas
pub mod PlainTexts
pub mod RowLemmas
pub mod ValueLemmas
