-- Laws for the proofs here. Assumes nothing.
pub mod Block
pub mod Blocks
pub mod Counts
