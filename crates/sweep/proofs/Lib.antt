mod Choosing
mod Following
mod Telling
mod Running
pub mod Gathering
