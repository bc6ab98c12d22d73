-- Lines, subjects and lists of a listing, one after the other.
pub mod Places
pub mod Put
pub mod Wholes
pub mod Subjects
