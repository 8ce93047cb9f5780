-- Laws for the proofs here and in clash_rules. Assumes nothing.
pub mod Arrays
pub mod Following
pub mod Lists
