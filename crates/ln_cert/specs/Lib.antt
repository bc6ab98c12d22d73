-- The files of this folder.
pub mod Text
pub mod Listing
pub mod Reading
pub mod Stop
pub mod Unread
pub mod Writing
pub mod Written
