pub mod Columns
pub mod Played
