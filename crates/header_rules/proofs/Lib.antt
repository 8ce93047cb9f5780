-- Laws for the proofs here. Assumes nothing.
pub mod Lowest
pub mod Told
