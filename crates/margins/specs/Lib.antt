pub mod Marks
pub mod Charges
pub mod Figures
pub mod Flags
pub mod Settled
pub mod Worked
pub mod Printing
