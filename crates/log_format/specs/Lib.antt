pub mod Chain
pub mod Log
pub mod Known
pub mod Meaning
