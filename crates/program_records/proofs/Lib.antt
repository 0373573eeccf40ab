pub mod Telling
pub mod Reading
pub mod Wording
pub mod Spelled
pub mod AsJson
pub mod CommitTelling
pub mod Either
