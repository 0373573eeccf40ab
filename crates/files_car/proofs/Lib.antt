pub mod Cars
pub mod Spending
pub mod Taking
pub mod Fronts
pub mod Counts
pub mod Headers
pub mod Checking
pub mod Places
pub mod Told
pub mod Pulling
pub mod Pushing
pub mod Starting
pub mod Running
pub mod HeaderShape
pub mod Writing
mod Holding
