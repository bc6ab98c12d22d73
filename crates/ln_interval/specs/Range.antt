-- Ranges: pairs of integers, low and high, with the values between them; and the operations on them.
-- The operations are those of interval arithmetic (Moore 1966), on integers, with no rounding.
use Rattle.std.specs.Prelude.{ℕ, zero, suc, max, ℤ, pos, ◌+ℤ◌, ◌-ℤ◌, ◌*ℤ◌, neg_ℤ, ◌≤ℤ◌, ◌<ℤ◌, ◌<◌, ◌⊎◌, unsigned_abs}
use Rattle.std.specs.Int.{int_min, int_max}

-- from low to high
pub record Range : Type 0 where
  pub low : ℤ
  pub high : ℤ

-- the value is in the range
abbrev pub Holds : Range → ℤ → Type 0
Holds p z = (p.low ≤ℤ z) × (z ≤ℤ p.high)

-- the first range covers the second
abbrev pub Covers : Range → Range → Type 0
Covers p q = (p.low ≤ℤ q.low) × (q.high ≤ℤ p.high)

-- the range of one number
abbrev pub point : ℤ → Range
point c = record { low = c; high = c }

-- the range of a sum of values in two ranges
abbrev pub sum : Range → Range → Range
sum p q = record { low = p.low +ℤ q.low; high = p.high +ℤ q.high }

-- of a difference
abbrev pub difference : Range → Range → Range
difference p q = record { low = p.low -ℤ q.high; high = p.high -ℤ q.low }

-- of the opposite
abbrev pub opposite : Range → Range
opposite p = record { low = neg_ℤ p.high; high = neg_ℤ p.low }

-- the least of four
abbrev pub least_of : ℤ → ℤ → ℤ → ℤ → ℤ
least_of a b c d = int_min (int_min a b) (int_min c d)

-- the greatest of four
abbrev pub greatest_of : ℤ → ℤ → ℤ → ℤ → ℤ
greatest_of a b c d = int_max (int_max a b) (int_max c d)

-- of a product: the least and the greatest of the four products of ends
abbrev pub product : Range → Range → Range
product p q = record {
  low = least_of (p.low *ℤ q.low) (p.low *ℤ q.high) (p.high *ℤ q.low) (p.high *ℤ q.high);
  high = greatest_of (p.low *ℤ q.low) (p.low *ℤ q.high) (p.high *ℤ q.low) (p.high *ℤ q.high);
}

-- of a power: 1 for the power of 0, and from there the product of the power before it and the base
abbrev pub power : Range → ℕ → Range
power p zero = point (pos 1)
power p (suc n) = product (power p n) p

-- the magnitude of a range: the largest absolute value of its ends, and so of its values
abbrev pub magnitude : Range → ℕ
magnitude p = max (unsigned_abs p.low) (unsigned_abs p.high)

-- low is not above high
abbrev pub IsOrdered : Range → Type 0
IsOrdered p = p.low ≤ℤ p.high

-- the largest absolute value of 128 bits: 2^127 - 1
abbrev pub most : ℕ
most = 170141183460469231731687303715884105727

-- the two aren't the ends of a pair: low is above high, or one is past the limit
abbrev pub IsNoPair : ℤ → ℤ → Type 0
IsNoPair low high = (high <ℤ low) ⊎ (most < max (unsigned_abs low) (unsigned_abs high))
