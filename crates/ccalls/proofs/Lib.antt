pub mod Moved
pub mod Refused
pub mod Premises
