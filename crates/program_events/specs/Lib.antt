pub mod Lines
pub mod Causes
pub mod Seen
pub mod Frames
pub mod Streams
pub mod Words
pub mod Laws
