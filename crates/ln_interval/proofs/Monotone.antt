-- Operations on covered ranges are covered; no lower power of a range reaches beyond the power, or beyond 1.
use Rattle.std.proofs.Common.{ℕ, ℤ, ◌^◌, ◌≤◌, zero, suc, arith, pos, ◌*ℤ◌}
use Rattle.std.proofs.lemmas.Int.{ints, clamps}
use Rattle.std.proofs.Math.Nat.{pow-suc, pow-zero, pow-le-pow_right}
use Rattle.ln_interval.specs.Range.{Range, Holds, Covers, IsOrdered, point, sum, difference, opposite, product, power, magnitude, least_of, greatest_of}
use Rattle.ln_interval.proofs.Magnitudes.{power_magnitude, covers_magnitude, power_ordered}
use Rattle.ln_interval.proofs.Pairs.{product_holds}

-- a range covers itself
pub covers_self : (p : Range) → Covers p p
covers_self p = (omega (arith, ints), omega (arith, ints))

-- a range covers what is covered by a range that it covers
pub covers_then : (p q r : Range) → Covers p q → Covers q r → Covers p r
covers_then p q r h g = (omega (arith, ints, h.0, g.0), omega (arith, ints, h.1, g.1))

-- the sum of two ranges covers the sum of two that they cover
pub sum_covers : (p q r s : Range) → Covers p r → Covers q s → Covers (sum p q) (sum r s)
sum_covers p q r s h g = (omega (arith, ints, h.0, g.0), omega (arith, ints, h.1, g.1))

-- the difference of two ranges covers the difference of two that they cover
pub difference_covers : (p q r s : Range) → Covers p r → Covers q s → Covers (difference p q) (difference r s)
difference_covers p q r s h g = (omega (arith, ints, h.0, g.1), omega (arith, ints, h.1, g.0))

-- the opposite of a range covers the opposite of one that it covers
pub opposite_covers : (p r : Range) → Covers p r → Covers (opposite p) (opposite r)
opposite_covers p r h = (omega (arith, ints, h.1), omega (arith, ints, h.0))

-- the ends of a covered range are in the range
low_held : (p r : Range) → IsOrdered r → Covers p r → Holds p r.low
low_held p r o h = (h.0, omega (arith, ints, o, h.1))

high_held : (p r : Range) → IsOrdered r → Covers p r → Holds p r.high
high_held p r o h = (omega (arith, ints, o, h.0), h.1)

-- four numbers in a range
four_in : (p : Range) (a b c d : ℤ) → Holds p a → Holds p b → Holds p c → Holds p d → Covers p (record { low = least_of a b c d; high = greatest_of a b c d })
four_in p a b c d h i j k = (omega (arith, ints, clamps, h.0, i.0, j.0, k.0), omega (arith, ints, clamps, h.1, i.1, j.1, k.1))

-- the product of two ranges covers the product of two that they cover
pub product_covers : (p q r s : Range) → IsOrdered r → IsOrdered s → Covers p r → Covers q s → Covers (product p q) (product r s)
product_covers p q r s o n h g =
    four_in (product p q) (r.low *ℤ s.low) (r.low *ℤ s.high) (r.high *ℤ s.low) (r.high *ℤ s.high)
    (product_holds p q r.low s.low (low_held p r o h) (low_held q s n g))
    (product_holds p q r.low s.high (low_held p r o h) (high_held q s n g))
    (product_holds p q r.high s.low (high_held p r o h) (low_held q s n g))
    (product_holds p q r.high s.high (high_held p r o h) (high_held q s n g))

-- a power of a range covers the same power of one that it covers
pub power_covers : (p r : Range) (n : ℕ) → IsOrdered r → Covers p r → Covers (power p n) (power r n)
power_covers p r zero o h = covers_self (point (pos 1))
power_covers p r (suc n) o h = product_covers (power p n) p (power r n) r (power_ordered r n) o (power_covers p r n o h) h

-- ---- lower powers
-- a lower power is at most the largest of 1 and the power
lower : (b k n m : ℕ) → 1 ≤ m → k ≤ n → b ^ n ≤ m → b ^ k ≤ m
lower zero zero n m o h l = rw pow-zero (omega (arith, o))
lower zero (suc k) n m o h l = rw pow-suc (omega arith)
lower (suc b) k n m o h l = let g = pow-le-pow_right {n = suc b} (omega arith) {i = k} {j = n} h in omega (arith, l, g)

-- where a range covers a power and its magnitude is within a limit of at least 1, that of each lower power is within it too
pub lower_power : (p q : Range) (m k n : ℕ) → 1 ≤ m → k ≤ n → Covers q (power p n) → magnitude q ≤ m → magnitude (power p k) ≤ m
lower_power p q m k n o h c l =
    let a = covers_magnitude q (power p n) (power_ordered p n) c in
    let e = power_magnitude p n in
    let f = power_magnitude p k in
    let g = lower (magnitude p) k n m o h (omega (arith, a, e, l)) in
    omega (arith, f, g)
