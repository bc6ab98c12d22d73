-- The lemmas of this crate are in four folders: on the reader, the writer, the side conditions and the scanner.
pub mod Reading
pub mod Writing
pub mod Keeping
pub mod Lexing
