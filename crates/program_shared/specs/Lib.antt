-- What the programs share.
pub mod Writing
