-- Laws for the proofs here. Assumes nothing.
pub mod ImageRuns
pub mod Owned
