-- The three demands, and the theorem that they hold. Assumes nothing.
pub mod Demands
pub mod Owners
pub mod Printing
