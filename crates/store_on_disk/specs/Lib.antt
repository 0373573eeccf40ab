-- handed on from the crate below
pub use Rattle.store_rows.specs.Rows
pub use Rattle.store_rows.specs.RootRows
pub use Rattle.store_rows.specs.Ends
-- of this crate
pub mod Stored
pub mod Roots
pub mod Opened
pub mod Left
pub mod Leaving
pub mod Cars
pub mod Walking
pub mod Lost
pub mod Values
pub mod Trees
pub mod Collecting
