pub mod Table
pub mod Database
