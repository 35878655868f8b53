pub mod Promise
pub mod Journey
pub mod Calls
pub mod Faults
pub mod Single
pub mod Table
