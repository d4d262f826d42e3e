pub mod WrittenLines
pub mod ReadBack
pub mod StoredSaid
pub mod RightTexts
pub mod Answers
