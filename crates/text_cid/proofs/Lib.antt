pub mod Bits
pub mod Alphabet
pub mod Grouping
pub mod GroupReads
pub mod Numbers58
pub mod Texting
pub mod TextFaults
