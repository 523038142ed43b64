pub mod Answered
pub mod Endings
pub mod Known
pub mod Opened
pub mod Skips
