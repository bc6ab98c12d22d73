-- The tokens of the code, as the grammar has them.
use Rattle.std.specs.Prelude.{List, [], ◌==◌, length, if◌then◌else◌}
use Rattle.ln_csyn.specs.declared.tokens.Tokens.{Tokens}
use Rattle.ln_csyn.specs.Grammar.{Token}
use Rattle.ln_csyn.specs.Text.{tokens_by}

-- the tokens of the code, in order
abbrev pub tokens_of : Tokens → List Token
tokens_of t = if length t.bytes.now == 0 then [] else tokens_by t.len t.line t.bytes.now
