pub mod Spans
pub mod Layouts
pub mod Indexed
pub mod Steps
pub mod Finds
pub mod Judged
pub mod Ways
