pub mod Fronts
pub mod Steps
pub mod Nodes
pub mod Empties
pub mod Pairing
pub mod Stacks
pub mod Parts
pub mod Entries
