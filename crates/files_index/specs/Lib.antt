pub mod Entries
pub mod Index
pub mod Judging
pub mod Keys
pub mod Leading
pub mod Lookup
pub mod Places
pub mod Rests
