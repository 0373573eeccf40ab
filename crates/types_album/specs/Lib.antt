-- What a tree shows to each type, by ./dagcbor-types.
pub mod Album
pub mod Note
