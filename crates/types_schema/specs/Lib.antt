-- What is written for a schema's tuple, and values that are identified by another value.
pub mod SchemaAnswers
pub mod ToldValues
pub mod Kinds
pub mod Envelopes
pub mod Parts
pub mod Members
pub mod Implicit
pub mod Pairs
pub mod WrittenGroups
