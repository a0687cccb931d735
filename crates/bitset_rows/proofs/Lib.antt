pub mod Digits
pub mod Chosen
pub mod Rows
