-- Polynomials in code, compared with those of the rules.
pub mod Closes
pub mod Domain
pub mod Fitting
pub mod Negations
