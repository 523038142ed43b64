pub mod Groups
pub mod Signs
pub mod Losses
pub mod Initial
pub mod Printing
