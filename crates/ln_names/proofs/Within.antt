-- An expression doesn't end before it begins.
use Rattle.std.proofs.Common.{ℕ, ◌≤◌, List, arith}
use Rattle.ln_lex.specs.declared.token.Token.{Token}
use Rattle.ln_syntax.specs.Expression.{Derives, Sort, Tree}
use Rattle.ln_syntax.proofs.Spellings.PlacesWithin.{grows}

-- what is derived from tokens doesn't end before it begins
pub within : {ts : List Token} {s : Sort} {i j : ℕ} {e : Tree} → Derives ts s i j e → i ≤ j
within d = let a = grows d in omega arith
