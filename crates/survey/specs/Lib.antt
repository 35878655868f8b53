pub mod Course
pub mod Faults
pub mod Surveys
pub mod Maps
pub mod Logs
