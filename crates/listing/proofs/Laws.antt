pub mod Buffers
pub mod Decimal
pub mod Lines
pub mod Printed
