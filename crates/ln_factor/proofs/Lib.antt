-- The files of this folder.
pub mod Places
pub mod Answered
pub mod Sums
pub mod SeveralLemmas
