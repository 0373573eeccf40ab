pub mod Saying
pub mod Summing
pub mod Running
pub mod Finding
pub mod RefusedPlaces
pub mod Shown
pub mod TwoBlocks
