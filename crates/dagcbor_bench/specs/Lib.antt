pub mod Record
