pub mod Behind
pub mod Lefts
pub mod Stands
pub mod Encodes
pub mod Rewrites
pub mod Placed
pub mod Fills
pub mod Premises
