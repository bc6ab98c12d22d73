-- What the scanner may say of some bytes.
use Rattle.std.specs.Prelude.{ℕ, ◌≤◌, List, length}
use Rattle.ln_base.specs.Limits.{most_tokens}
use Rattle.ln_lex.specs.declared.token.Token.{Token}
use Rattle.ln_lex.specs.Tokens.{Lexed, IsLexFault, IsLexLimit}

-- the bytes are tokens, at most 65,536; or a byte is the first that begins none; or token 65,537 begins at a byte
pub data IsAnswered (bytes : List ℕ) : Type 0 where
  tokens : (ts : List Token) → Lexed bytes ts → length ts ≤ most_tokens → IsAnswered bytes
  fault : (at : ℕ) → IsLexFault bytes at → IsAnswered bytes
  limit : (at : ℕ) → IsLexLimit bytes at → IsAnswered bytes
