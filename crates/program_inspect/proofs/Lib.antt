pub mod Counting
pub mod Fronts
pub mod Joined
pub mod Learning
