pub mod Owned
pub mod Any
