pub mod Finding
pub mod Numbers
pub mod Causes
pub mod Ending
pub mod Steps
pub mod Surveying
pub mod Rooting
