pub mod Bytes
pub mod Rows
pub mod Cells
pub mod Faults
pub mod Answer
pub mod Layout
pub mod Known
