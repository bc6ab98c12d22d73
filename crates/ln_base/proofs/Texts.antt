-- Texts of lines: words, numbers, and what is appended.
pub mod Numbers
pub mod Halves
pub mod Words
pub mod Lists
pub mod Plain
pub mod Lines
pub mod Putting
