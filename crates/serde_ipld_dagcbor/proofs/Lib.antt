pub use Rattle.dagcbor_heads.proofs.Writing
pub use Rattle.dagcbor_write.proofs.Fields as StructFields
pub mod RoundTrips
pub mod Codecs
