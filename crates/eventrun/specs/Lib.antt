pub mod Calls
pub mod Endings
pub mod Files
pub mod Lines
