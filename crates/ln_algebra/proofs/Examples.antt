-- The worked values, and the tests by which they are computed.
pub mod WorkedValues
pub mod Decided
