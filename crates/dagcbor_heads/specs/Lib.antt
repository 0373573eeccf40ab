-- re-exported from the crate below
pub use Rattle.dagcbor_core.specs.Head
pub use Rattle.dagcbor_core.specs.Laws
pub use Rattle.dagcbor_core.specs.Splits
pub use Rattle.dagcbor_core.specs.Causes
pub use Rattle.dagcbor_core.specs.Names
pub use Rattle.dagcbor_core.specs.Messages
pub use Rattle.dagcbor_core.specs.declared.error.DecodeError
pub use Rattle.dagcbor_core.specs.declared.error.EncodeError
pub mod Reading
pub mod Fronts
pub mod Looking
pub mod Refusals
pub mod Inputs
pub mod IoReading
pub mod Written
