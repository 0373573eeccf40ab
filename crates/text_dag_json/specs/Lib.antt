pub use Rattle.ipld_tree.specs.Tree
pub mod DagJson
pub mod Reading
