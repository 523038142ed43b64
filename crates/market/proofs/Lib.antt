pub mod Changes
pub mod Facts
pub mod Ratios
