pub mod Page
pub mod Database
