pub mod Calls
pub mod Days
pub mod Lending
pub mod States
pub mod Volatility
