-- Laws for the proofs here. Assumes nothing.
pub mod Lists
pub mod Meetings
