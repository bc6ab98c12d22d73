-- The listing of programs, and its lines, appended one after the other.
pub mod Rules
pub mod Wrote
pub mod Forms
pub mod Programmed
