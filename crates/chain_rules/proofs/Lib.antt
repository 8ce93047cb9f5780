-- Laws for the proofs here and in the later stages. Assumes nothing.
pub mod Chains
pub mod Counts
pub mod Links
pub mod Verdicts
