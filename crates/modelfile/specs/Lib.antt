pub mod Kinds
pub mod Taken
pub mod Parts
pub mod Texts
pub mod OneAnswer
pub mod Worked
pub mod Default
