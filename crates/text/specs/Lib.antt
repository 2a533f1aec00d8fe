pub mod Appends
pub mod Puts
