pub mod Runs
pub mod Views
pub mod Isolation
pub mod Examples
