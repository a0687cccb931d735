pub mod Entries
pub mod Trails
pub mod Clashes
pub mod Fetches
pub mod Fronts
