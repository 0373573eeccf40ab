pub mod Written
pub mod Putting
pub mod JsonReading
pub mod EventsWritten
