-- The value of an operation on values in ranges is in the operation's range.
use Rattle.std.proofs.Common.{ℕ, ℤ, zero, suc, arith, ◌+ℤ◌, ◌-ℤ◌, ◌*ℤ◌, neg_ℤ}
use Rattle.std.specs.Prelude.{◌≤ℤ◌}
use Rattle.std.specs.Int.{int_min, int_max}
use Rattle.std.proofs.lemmas.Int.{ints, clamps}
use Rattle.std.proofs.Math.IntN.{*ℤ_comm}
use Rattle.ln_interval.specs.Number.{power as power_of}
use Rattle.ln_interval.specs.Range.{Range, Holds, sum, difference, opposite, product, power}
use Rattle.ln_interval.proofs.Signs.{between}

-- the sum of values in two ranges is in the sum of the ranges
pub sum_holds : (p q : Range) (x y : ℤ) → Holds p x → Holds q y → Holds (sum p q) (x +ℤ y)
sum_holds p q x y h g = (omega (arith, ints, h.0, g.0), omega (arith, ints, h.1, g.1))

-- the difference of values in two ranges is in the difference of the ranges
pub difference_holds : (p q : Range) (x y : ℤ) → Holds p x → Holds q y → Holds (difference p q) (x -ℤ y)
difference_holds p q x y h g = (omega (arith, ints, h.0, g.1), omega (arith, ints, h.1, g.0))

-- the opposite of a value in a range is in the opposite of the range
pub opposite_holds : (p : Range) (x : ℤ) → Holds p x → Holds (opposite p) (neg_ℤ x)
opposite_holds p x h = (omega (arith, ints, h.1), omega (arith, ints, h.0))

-- a product with a number on the left
between_left : (a c y d : ℤ) → c ≤ℤ y → y ≤ℤ d → (int_min (a *ℤ c) (a *ℤ d) ≤ℤ (a *ℤ y)) × ((a *ℤ y) ≤ℤ int_max (a *ℤ c) (a *ℤ d))
between_left a c y d l h = rw (*ℤ_comm a c, *ℤ_comm a d, *ℤ_comm a y) (between c y d a l h)

-- numbers between numbers that are between others
join : (z r s a b c d : ℤ) → int_min r s ≤ℤ z → z ≤ℤ int_max r s → int_min a b ≤ℤ r → r ≤ℤ int_max a b → int_min c d ≤ℤ s → s ≤ℤ int_max c d
    → (int_min (int_min a b) (int_min c d) ≤ℤ z) × (z ≤ℤ int_max (int_max a b) (int_max c d))
join z r s a b c d h1 h2 h3 h4 h5 h6 = (omega (arith, ints, clamps, h1, h3, h5), omega (arith, ints, clamps, h2, h4, h6))

-- the product of values in two ranges is in the product of the ranges
pub product_holds : (p q : Range) (x y : ℤ) → Holds p x → Holds q y → Holds (product p q) (x *ℤ y)
product_holds p q x y h g =
    let m = between p.low x p.high y h.0 h.1 in
    let l = between_left p.low q.low y q.high g.0 g.1 in
    let r = between_left p.high q.low y q.high g.0 g.1 in
    join (x *ℤ y) (p.low *ℤ y) (p.high *ℤ y) (p.low *ℤ q.low) (p.low *ℤ q.high) (p.high *ℤ q.low) (p.high *ℤ q.high) m.0 m.1 l.0 l.1 r.0 r.1

-- a power of a value in a range is in the same power of the range
pub power_holds : (p : Range) (n : ℕ) (x : ℤ) → Holds p x → Holds (power p n) (power_of x n)
power_holds p zero x h = (omega (arith, ints), omega (arith, ints))
power_holds p (suc n) x h = product_holds (power p n) p (power_of x n) x (power_holds p n x h) h
