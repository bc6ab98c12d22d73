pub mod Making
pub mod Refusing
pub mod Smallness
pub mod Listing
pub mod Numbers
