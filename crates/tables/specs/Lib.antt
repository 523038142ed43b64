pub mod Books
pub mod Codes
pub mod Collateral
pub mod Limits
pub mod Numbers
