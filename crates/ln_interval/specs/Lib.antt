-- The files define the powers of an integer, then ranges with their operations, and then the range of a pair of the program.
pub mod Number
pub mod Range
pub mod View
