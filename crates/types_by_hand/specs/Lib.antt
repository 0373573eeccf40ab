-- The view of each type.
pub mod Note
pub mod Person
pub mod OptionalPerson
pub mod Mascot
pub mod Color
pub mod Album
