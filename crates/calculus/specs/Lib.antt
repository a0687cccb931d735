pub mod Answers
pub mod Verdicts
pub mod Blocks
pub mod State
pub mod History
pub mod Worked
