pub mod Format
pub mod Records
pub mod Reading
pub mod Readers
pub mod Laws
pub mod Lines
