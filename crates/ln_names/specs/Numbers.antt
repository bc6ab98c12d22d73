-- The value of a NUMBER, and of an end of a range.
use Rattle.std.specs.Prelude.{ℕ, ℤ, pos, neg_ℤ, List, Bool, true, false}
use Rattle.ln_base.specs.Decimal.{decimal_value}
use Rattle.ln_syntax.specs.Raw.{Span, text}
use Rattle.ln_syntax.specs.declared.raw.RawEnd.{RawEnd}

-- the number that the bytes of a NUMBER are
abbrev pub number : List ℕ → Span → ℕ
number bytes s = decimal_value (text bytes s)

-- a number, or minus it
abbrev pub signed : Bool → ℕ → ℤ
signed false n = pos n
signed true n = neg_ℤ (pos n)

-- the integer that an end of a range is
abbrev pub end_value : List ℕ → RawEnd → ℤ
end_value bytes e = signed e.negative (number bytes e.at)

-- the largest end of a range, 2^63 - 1
abbrev pub most_end : ℕ
most_end = 9223372036854775807
