pub mod Calls
pub mod Runs
pub mod Outcomes
pub mod Lines
