pub use Rattle.ipld_tree.specs.Cid
pub use Rattle.ipld_tree.specs.CidFault
pub mod Rfc4648
pub mod Base58
pub mod Alphabets
pub mod Reads
pub mod Texts
