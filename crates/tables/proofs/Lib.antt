pub mod Alls
mod Bits
pub mod Books
pub mod Facts
pub mod Numbers
