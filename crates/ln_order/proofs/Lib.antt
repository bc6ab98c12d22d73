pub mod Listing
pub mod Exchanging
pub mod Signs
