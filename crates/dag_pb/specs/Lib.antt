pub mod Varint
pub mod Node
pub mod Causes
pub mod Reads
pub mod Orders
pub mod Spelling
pub mod Laws
