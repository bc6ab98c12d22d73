-- Text as tokens with blanks between them.
use Rattle.std.specs.Prelude.{ℕ, ◌==◌, ℤ, pos, Bool, true, false, if◌then◌else◌, List, [], ◌∷◌, ◌++◌, codes, decimal, int_lt, unsigned_abs, unwrap_or}
use Rattle.ln_lex.specs.declared.token.Kind.{Kind}
use Rattle.ln_lex.specs.declared.token.Kind.TheVariants.{Name, Number, Minus, ParL, ParR}
use Rattle.ln_lex.specs.Tokens.{kind_of}

-- a space, a line feed, or a token of this kind with its text
pub data Lexeme : Type 0 where
  gap : Lexeme
  line : Lexeme
  word : Kind → List ℕ → Lexeme

-- the bytes of lexemes
abbrev pub text_of : List Lexeme → List ℕ
text_of [] = []
text_of (gap ∷ xs) = 32 ∷ text_of xs
text_of (line ∷ xs) = 10 ∷ text_of xs
text_of (word k t ∷ xs) = t ++ text_of xs

-- The lexemes of a part of a text are prepended to those that follow it.

-- a name
abbrev pub name : List ℕ → List Lexeme → List Lexeme
name t rest = word Name t ∷ rest

-- a number in decimal digits, without a leading zero
abbrev pub number : ℕ → List Lexeme → List Lexeme
number n rest = word Number (decimal n) ∷ rest

-- a minus sign where the test holds, and else nothing
abbrev pub minus_if : Bool → List Lexeme → List Lexeme
minus_if false rest = rest
minus_if true rest = word Minus (codes "-") ∷ rest

-- an integer: a minus sign where it is below 0, and its digits
abbrev pub signed : ℤ → List Lexeme → List Lexeme
signed z rest = minus_if (int_lt z (pos 0)) (number (unsigned_abs z) rest)

-- one element after the other
abbrev pub each : {A : Type 0} → (A → List Lexeme → List Lexeme) → List A → List Lexeme → List Lexeme
each f [] rest = rest
each f (x ∷ xs) rest = f x (each f xs rest)

-- the token with this text, a name where no token has it; nothing for no text
abbrev pub token : List ℕ → List Lexeme → List Lexeme
token [] rest = rest
token (b ∷ bs) rest = word (unwrap_or (kind_of (b ∷ bs)) Name) (b ∷ bs) ∷ rest

-- the lexemes of a text that parts its tokens by blanks, where these bytes of the first one were read already
abbrev pub lexemes_in : List ℕ → List ℕ → List Lexeme → List Lexeme
lexemes_in w [] rest = token w rest
lexemes_in w (c ∷ cs) rest =
    if c == 32 then token w (gap ∷ lexemes_in [] cs rest)
    else if c == 10 then token w (line ∷ lexemes_in [] cs rest)
    else lexemes_in (w ++ c ∷ []) cs rest

-- the parenthesis before an expression that needs one
abbrev pub opening : Bool → List Lexeme → List Lexeme
opening true rest = rest
opening false rest = word ParL (codes "(") ∷ rest

-- the parenthesis after it
abbrev pub closing : Bool → List Lexeme → List Lexeme
closing true rest = rest
closing false rest = word ParR (codes ")") ∷ rest
