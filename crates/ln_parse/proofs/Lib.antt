pub mod Expressions
pub mod Building
pub mod Texts
pub mod Settling
pub mod ReadBack
pub mod Wholes
