-- The table as it is built from places.
pub mod Places
pub mod Predicates
pub mod Lists
pub mod Said
pub mod LaidOut
pub mod Arguments
pub mod Readiness
pub mod Kept
pub mod Loops
