pub mod Meaning
pub mod Complemented
pub mod Codes
