pub mod Sending
pub mod Filtering
pub mod Wording
pub mod Listing
pub mod Merging
pub mod Dividing
pub mod Ending
