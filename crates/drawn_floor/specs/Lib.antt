pub mod Lights
pub mod Floor
pub mod Passing
