pub mod Gets
pub mod Indexes
pub mod IndexWords
pub mod Words
pub mod Splits
pub mod PathAnswers
