pub mod Keeps
pub mod Steps
