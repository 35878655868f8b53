pub mod Splicing
pub mod Numbers
pub mod Wording
pub mod Lettering
pub mod Lining
