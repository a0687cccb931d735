pub mod Fronts
pub mod Rounds
pub mod Tellings
pub mod Turns
