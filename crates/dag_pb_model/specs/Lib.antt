pub mod Model
pub mod Reading
pub mod Refusals
pub mod Written
pub mod Forms
pub mod Laws
