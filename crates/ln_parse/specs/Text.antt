-- The table of a text.
use Rattle.std.specs.Prelude.{ℕ, ◌≤◌, List, length}
use Rattle.ln_base.specs.Limits.{most_tokens}
use Rattle.ln_syntax.specs.Raw.{Token, Item}
use Rattle.ln_lex.specs.Tokens.{Lexed}
use Rattle.ln_syntax.specs.File.{Spelt}
use Rattle.ln_syntax.specs.Place.{IsShallow}
use Rattle.ln_names.specs.First.{NoFault}
use Rattle.ln_parse.specs.Says.{TableOf, ItemsSay}

-- the bytes are tokens, at most 65,536, with no parenthesis nested too deep; the tokens spell items; no rule of names and limits
-- has a fault; the items say the table
pub record TextOf (bytes : List ℕ) (t : TableOf) : Type 0 where
  pub tokens : List Token
  pub lexed : Lexed bytes tokens
  pub few : length tokens ≤ most_tokens
  pub shallow : IsShallow tokens
  pub items : List Item
  pub spelt : Spelt tokens items
  pub clean : NoFault bytes tokens items
  pub says : ItemsSay bytes tokens items t
