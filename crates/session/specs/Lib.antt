pub mod States
pub mod Looks
pub mod Histories
