-- The decimal numbers of the source, the rows, the listing, the C text and the traces, from text to number and back.
use Rattle.std.specs.Prelude.{◌≡◌, ℕ, ◌+◌, ◌-◌, ◌*◌, ◌^◌, Bool, true, ◌&&◌, ◌==◌, nat_lt, int_le, if◌then◌else◌}
use Rattle.std.specs.Prelude.{List, [], ◌∷◌, length, slice_index, ℤ, pos, neg_ℤ, Option, Some, None, option_map}
use Rattle.std.specs.List.{list_all}
use Rattle.std.specs.Char.{is_ascii_digit}
use Rattle.ln_base.specs.declared.decimal.Reading.{Reading}
use Rattle.ln_base.specs.declared.decimal.Reading.TheVariants.{NotANumber, Outside, Value}

-- all of them digits from 0 to 9, and at least one
abbrev pub is_digits : List ℕ → Bool
is_digits ds = list_all is_ascii_digit ds && nat_lt 0 (length ds)

-- the number that digits write: each counts by the power of ten of its place; leading zeros count for nothing
abbrev pub decimal_value : List ℕ → ℕ
decimal_value [] = 0
decimal_value (d ∷ ds) = (d - 48) * 10 ^ length ds + decimal_value ds

-- the number that a text of one or more digits is
abbrev pub natural_value : List ℕ → Option ℕ
natural_value ds = if is_digits ds then Some (decimal_value ds) else None

-- the number that a text is: an optional '-' and one or more digits
abbrev pub integer_value : List ℕ → Option ℤ
integer_value [] = None
integer_value (b ∷ bs) = if b == 45 then option_map (λ n. neg_ℤ (pos n)) (natural_value bs) else option_map pos (natural_value (b ∷ bs))

-- digits without a leading zero, or a zero alone
abbrev pub IsPlain : List ℕ → Type 0
IsPlain ds = (is_digits ds ≡ true) × (slice_index ds 0 ≡ 48 → length ds ≡ 1)

-- the ends of what a signed field may say
abbrev pub most_integer : ℕ
most_integer = 9223372036854775807

-- whether a number is from -(2^63 - 1) to 2^63 - 1
abbrev pub is_within : ℤ → Bool
is_within z = int_le (neg_ℤ (pos most_integer)) z && int_le z (pos most_integer)

-- the reading of a field whose number is this, if it is a number
abbrev pub reading_of : Option ℤ → Reading
reading_of None = NotANumber
reading_of (Some z) = if is_within z then Value z else Outside
