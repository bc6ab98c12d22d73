pub mod Text
pub mod Check
pub mod Listing
pub mod Written
pub mod Emit
