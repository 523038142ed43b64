pub mod Maps
pub mod Places
pub mod Kths
pub mod Orders
pub mod Thresholds
