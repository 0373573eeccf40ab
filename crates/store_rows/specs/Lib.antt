pub mod Rows
pub mod RootRows
pub mod Ends
