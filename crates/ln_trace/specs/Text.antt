-- Defines the text of each line of a trace.
use Rattle.std.specs.Prelude.{ℕ, ◌^◌, ◌<◌, ◌≤◌, List, [], ◌∷◌, ◌++◌, map, codes, decimal, unsigned_abs}
use Rattle.std.specs.Fmt.{signed_decimal}
use Rattle.ln_base.specs.Exponents.{Each, IsExponent, exponent_word}
use Rattle.ln_base.specs.Lines.{joined, parted}
use Rattle.ln_base.specs.declared.sign.Sign.{Sign}
use Rattle.ln_base.specs.declared.sign.Sign.TheVariants.{Minus, Zero, Plus}
use Rattle.ln_trace.specs.declared.line.TraceLine.{TraceLine}
use Rattle.ln_trace.specs.declared.line.TraceLine.TheVariants as line

-- the first line of a trace
abbrev pub first_line : List ℕ
first_line = codes "trace 1" ++ 10 ∷ []

-- the sign as a word
abbrev pub sign_word : Sign → List ℕ
sign_word Minus = codes "-"
sign_word Zero = codes "0"
sign_word Plus = codes "+"

-- the words of a line: `refused N`; `row N`; `at`, a word V^E for each exponent, a colon and the value; `sign S`
abbrev pub words_of : TraceLine → List (List ℕ)
words_of (line.Refused n) = codes "refused" ∷ decimal n ∷ []
words_of (line.Row n) = codes "row" ∷ decimal n ∷ []
words_of (line.At exps z) = codes "at" ∷ map exponent_word exps ++ codes ":" ∷ signed_decimal z ∷ []
words_of (line.Sign t) = codes "sign" ∷ sign_word t ∷ []

-- the text of a line: its words, parted by one space, and a line feed
abbrev pub text_of_line : TraceLine → List ℕ
text_of_line l = parted (words_of l) ++ 10 ∷ []

-- the text of lines, one after the other
abbrev pub text_of_lines : List TraceLine → List ℕ
text_of_lines ls = joined (map text_of_line ls)

-- what a line says is within the ranges: a number of a record is from 1 to 2^32 - 1, V of an exponent is at most 167 and E from 1 to
-- 127, a value is within 2^127 - 1
abbrev pub IsLine : TraceLine → Type 0
IsLine (line.Refused n) = (1 ≤ n) × (n < 2 ^ 32)
IsLine (line.Row n) = (1 ≤ n) × (n < 2 ^ 32)
IsLine (line.At exps z) = Each IsExponent exps × (unsigned_abs z < 2 ^ 127)
IsLine (line.Sign t) = Unit {0}
