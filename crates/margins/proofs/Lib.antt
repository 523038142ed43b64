pub mod Worths
pub mod Bounds
pub mod Settles
pub mod Workings
