-- Laws for the proofs here. Assumes nothing.
pub mod Stores
pub mod Totals
