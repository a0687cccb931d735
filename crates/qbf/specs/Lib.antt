pub mod Qbf
pub mod Literals
pub mod Trees
pub mod Theory
pub mod Worked
pub mod Constraints
pub mod Views
pub mod Items
