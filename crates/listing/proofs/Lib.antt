pub mod Appends
pub mod Claims
pub mod Inputs
pub mod Laws
pub mod Readings
pub mod Stores
