-- The views of the types that the tests write by hand, and what a caller of a codec promises.
pub mod Letter
pub mod NamedLink
pub mod DataEnum
pub mod Second
pub mod One
pub mod MyStruct
pub mod EnumStruct
pub mod Kinded
pub mod Tagged
pub mod ThereAndBack
