pub mod Account
pub mod Printing
pub mod Worked
