pub mod Writing
pub mod Sheets
pub mod Refusing
pub mod Contents
