-- The terms of scaled derivatives.
pub mod Lowering
pub mod Combined
pub mod Deriving
pub mod Several
