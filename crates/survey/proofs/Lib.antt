pub mod Olds
pub mod Coursing
pub mod Driving
pub mod Surveying
