-- What is guaranteed from the bytes of the source on follows from what is said of its table: bytes that are words are tokens, words that are items
-- are those that the tokens spell, and what they declare is what the table has.
pub mod Lex
pub mod Expr
pub mod Items
pub mod Glue
pub mod Rows
pub mod Range
pub mod Names
pub mod News
pub mod Lets
pub mod Tabled
pub mod Signs
pub mod Walk
pub mod ByTable
pub mod ByTableLaws
pub mod Run
pub mod Emit
pub mod Listing
pub mod Tokens
pub mod LexBack
pub mod Spoken
pub mod Declared
pub mod SourcesLaws
pub mod Worked
