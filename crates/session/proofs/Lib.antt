pub mod Steps
pub mod Same
pub mod Clashing
pub mod Settings
pub mod Continuing
