pub mod Told
pub mod Known
pub mod Passing
