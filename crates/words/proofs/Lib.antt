-- Laws of pdi_spec's words, checksums, texts and stored numbers, for the proofs here and for those of callers. Assumes nothing.
pub mod Stores
pub mod Sums
pub mod Text
