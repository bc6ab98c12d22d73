-- Declares what contracts and laws speak of.
pub mod Tree
pub mod View
pub mod Meaning
pub mod Words
pub mod Grammar
pub mod Reading
pub mod Keeps
pub mod Seen
pub mod Text
pub mod Sets
pub mod Spelling
pub mod Layout
pub mod Lines
pub mod Laws
