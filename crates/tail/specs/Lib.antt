pub mod Tail
pub mod Crosses
