pub mod Tables
pub mod Rowing
pub mod Drawn
mod Lying
mod Digits
mod Found
