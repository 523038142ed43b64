pub mod Places
pub mod Casts
pub mod Runs
