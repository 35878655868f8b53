pub mod Seen
pub mod Through
