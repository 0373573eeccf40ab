pub mod Hearing
pub mod Asking
pub mod Serving
