-- Laws for the crates above. Assumes nothing.
pub mod Answers
pub mod Equal
