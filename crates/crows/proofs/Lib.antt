pub mod Back
pub mod Mapped
