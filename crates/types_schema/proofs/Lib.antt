pub mod PartRows
pub mod KindFronts
pub mod EnvelopeFronts
pub mod VariantFronts
pub mod PairNames
pub mod SchemaRefusals
pub mod ShownTrees
