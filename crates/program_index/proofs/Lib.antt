mod Spanning
mod Copying
mod Gathering
mod Sending
mod Sought
mod Placed
mod Finding
mod Listing
pub mod Growing
pub mod Settling
pub mod Looking
pub mod Walking
pub mod Binding
