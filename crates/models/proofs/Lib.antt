mod Marks
mod Held
