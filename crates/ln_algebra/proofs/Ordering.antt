-- Orders of infinitesimals, and the first vector in one.
pub mod Order
pub mod Ranking
pub mod Unique
pub mod Admissible
pub mod First
pub mod Products
