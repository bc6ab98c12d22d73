-- Canonical text: how it is written, and its tokens and items.
pub mod Putting
pub mod LexBack
pub mod WordTokens
pub mod DeriveBack
pub mod ItemsBack
pub mod ClearText
pub mod Names
pub mod Nested
