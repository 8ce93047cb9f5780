pub mod Chain
pub mod File
