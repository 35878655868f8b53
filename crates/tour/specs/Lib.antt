pub mod History
pub mod Meaning
pub mod Rules
pub mod Ground
pub mod Tour
pub mod Examples
