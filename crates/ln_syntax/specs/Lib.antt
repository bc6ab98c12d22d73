pub mod Raw
pub mod Expression
pub mod File
pub mod Place
pub mod Reading
pub mod Within
pub mod Automaton
pub mod Stops
