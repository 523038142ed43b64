pub mod Appended
pub mod Figures
pub mod Premises
