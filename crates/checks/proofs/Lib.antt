-- Laws for the proofs here and for the questions. Assumes nothing.
pub mod Outcomes
pub mod Stages
