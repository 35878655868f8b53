pub mod Hex
pub mod Said
