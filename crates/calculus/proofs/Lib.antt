pub mod Lists
pub mod Runs
pub mod Keeping
pub mod Worked
