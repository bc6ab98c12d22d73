pub mod Flow
pub mod Tries
