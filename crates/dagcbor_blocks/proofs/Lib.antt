pub mod Unique
pub mod Keeping
pub mod Missing
pub mod Members
pub mod Listing
pub mod Reading
pub mod ReadingBack
pub mod Nothing
mod Holding
mod Reaching
