pub mod Lines
pub mod Reasons
pub mod Words
pub mod Fields
pub mod Commands
