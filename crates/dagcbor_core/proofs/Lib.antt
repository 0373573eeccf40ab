pub mod Bytes
pub mod Heads
pub mod HeadForms
pub mod Splitting
pub mod Keeping
