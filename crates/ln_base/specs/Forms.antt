-- The files of this folder.
pub mod Form
pub mod Fault
pub mod Unread
pub mod Judge
pub mod Source
