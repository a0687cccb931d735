pub mod Numbers
pub mod Counted
pub mod Complements
pub mod Reading
