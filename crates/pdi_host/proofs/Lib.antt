-- Laws for the proofs here. Assumes nothing.
pub mod Buffers
pub mod Rows
