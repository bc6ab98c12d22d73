pub mod Number
pub mod Record
pub mod Left
pub mod Line
pub mod Plain
pub mod Columns
pub mod Header
