mod Takes
mod Forms
mod Zeros
