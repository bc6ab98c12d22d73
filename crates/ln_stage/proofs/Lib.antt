pub mod Results
pub mod Monomials
pub mod Walks
pub mod Sights
pub mod Degrees
pub mod Testing
pub mod Accepting
pub mod Zipped
