pub mod Outcomes
pub mod Table
pub mod Calls
