pub mod Blocks
pub mod Answers
pub mod JsonAnswers
pub mod Codes
pub mod Frames
pub mod Knowing
pub mod EventBlocks
pub mod Events
