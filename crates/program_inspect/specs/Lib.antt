pub mod Rows
pub mod Names
pub mod Counts
pub mod Front
pub mod Facts
pub mod Inspecting
pub mod Words
