pub mod Empty
pub mod Resting
