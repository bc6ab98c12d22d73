-- Lists of terms: coefficients, sums, products.
pub mod Coefficients
pub mod Products
pub mod Bounded
pub mod Leaves
pub mod Vectors
pub mod Counting
pub mod Negating
pub mod Walks
pub mod Turned
pub mod Exponents
pub mod Fewest
