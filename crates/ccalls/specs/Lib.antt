pub mod Numbers
pub mod Making
pub mod Opening
pub mod Meanings
pub mod Answers
