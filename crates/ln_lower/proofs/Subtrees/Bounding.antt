-- Widths and ranges, and what the rules know of a value.
use Rattle.std.proofs.Common.{◌≡◌, ℕ, ◌*◌, ◌^◌, ◌≤◌, Bool, true, false, refl, ap, ap₂, arith, ℤ, pos, ◌*ℤ◌}
use Rattle.std.specs.Prelude.{Some, if◌then◌else◌, nat_le, ◌≤ℤ◌}
use Rattle.std.proofs.lemmas.Int.{ints, clamps}
use Rattle.std.proofs.lemmas.Bool.{leb-true, le-leb}
use Rattle.std.proofs.Math.Nat.{pow-suc, pow-zero}
use Rattle.ln_algebra.specs.Tree.{Tree}
use Rattle.ln_interval.specs.Range.{Range, Covers, IsOrdered, power, magnitude, most, least_of, greatest_of}
use Rattle.ln_interval.proofs.Monotone.{difference_covers, product_covers, sum_covers}
use Rattle.ln_bound.specs.declared.fitted.Width.{Width}
use Rattle.ln_bound.specs.declared.fitted.Width.TheVariants.{W64, W128}
use Rattle.ln_bound.specs.declared.fitted.Two.{Two}
use Rattle.ln_bound.specs.declared.fitted.Two.TheVariants.{Plus, Minus, Times}
use Rattle.ln_bound.specs.Widths.{limit, least, wider, no_wider}
use Rattle.ln_bound.specs.Sound.{IsIn, is_in}
use Rattle.ln_bound.specs.Typed.{range_of}
use Rattle.ln_code.specs.Rules.{known}
use Rattle.ln_code.proofs.Following.Known.{le_test, both, covers_test}

-- ---- widths

-- a width is no wider than a third where it is no wider than a second that is no wider than the third
pub no_wider_trans : (u v w : Width) → no_wider u v ≡ true → no_wider v w ≡ true → no_wider u w ≡ true
no_wider_trans W64 v w h k = refl
no_wider_trans W128 W64 w h k = cc
no_wider_trans W128 W128 w h k = k

-- a width is no wider than itself
pub no_wider_self : (w : Width) → no_wider w w ≡ true
no_wider_self W64 = refl
no_wider_self W128 = refl

-- the wider of two widths is no wider than a third where neither of them is wider
pub wider_narrow : (u v w : Width) → no_wider u w ≡ true → no_wider v w ≡ true → no_wider (wider u v) w ≡ true
wider_narrow W64 v w h k = k
wider_narrow W128 v w h k = h

-- the least width that fits a bound is no wider than any that fits it
pub least_narrow : (b : ℕ) (w : Width) → b ≤ limit w → no_wider (least b) w ≡ true
least_narrow b W64 h = rw (le-leb b (limit W64) h) refl
least_narrow b W128 h = by_case (nat_le b (limit W64))
  where
    by_case : (c : Bool) → no_wider (if c then W64 else W128) W128 ≡ true
    by_case true = refl
    by_case false = refl

-- what fits some width fits its least width
pub least_limit : (b : ℕ) (w : Width) → b ≤ limit w → b ≤ limit (least b)
least_limit b w h = by_case (nat_le b (limit W64)) refl
  where
    wide : (w : Width) → b ≤ limit w → b ≤ limit W128
    wide W64 h = omega arith
    wide W128 h = h

    by_case : (c : Bool) → nat_le b (limit W64) ≡ c → b ≤ limit (if c then W64 else W128)
    by_case true e = leb-true _ _ e
    by_case false e = wide w h

-- what fits a width fits the wider of another and it
pub wider_limit : (b : ℕ) (u v : Width) → b ≤ limit v → b ≤ limit (wider u v)
wider_limit b W64 v h = h
wider_limit b W128 W64 h = omega arith
wider_limit b W128 W128 h = h

-- 1 fits each width
pub some_limit : (w : Width) → 1 ≤ limit w
some_limit W64 = omega arith
some_limit W128 = omega arith

-- what fits a width is at most 2^127 - 1
pub limit_most : (w : Width) → limit w ≤ most
limit_most W64 = omega arith
limit_most W128 = omega arith

-- ---- ranges

-- an operation on covered ranges is covered
pub two_covers : (t : Two) (p q r s : Range) → IsOrdered r → IsOrdered s → Covers p r → Covers q s → Covers (range_of t p q) (range_of t r s)
two_covers Plus p q r s o n h g = sum_covers p q r s h g
two_covers Minus p q r s o n h g = difference_covers p q r s h g
two_covers Times p q r s o n h g = product_covers p q r s o n h g

is_in_test : (p : Range) (w : Width) → IsIn p w → is_in p w ≡ true
is_in_test p w i = both _ _ (le_test _ _ i.0) (le-leb (magnitude p) (limit w) i.1)

-- the rules know a value whose range covers what it has to cover and fits its width, and whose size is within 2^127 - 1
pub known_is : (enough p : Range) (w : Width) (s : ℕ) (t : Tree) → Covers p enough → IsIn p w → s ≤ most
    → known enough p w s t ≡ Some (record { range = p; width = w; tree = t; size = s })
known_is enough p w s t c i l =
    let n : nat_le s most ≡ true = le-leb s most l in
    rw (covers_test p enough c, is_in_test p w i, n) refl

-- a range that fits some width fits the least width of its magnitude
pub least_in : (p : Range) (w : Width) → IsIn p w → IsIn p (least (magnitude p))
least_in p w i = (i.0, least_limit (magnitude p) w i.1)

-- a range that fits some width fits the wider of any width and the least width of its magnitude
pub wider_in : (p : Range) (u w : Width) → IsIn p w → IsIn p (wider u (least (magnitude p)))
wider_in p u w i = (i.0, wider_limit (magnitude p) u (least (magnitude p)) (least_limit (magnitude p) w i.1))

-- ---- powers

-- the first power of a range in order is the range
first_ends : (a b : ℤ) → a ≤ℤ b
    → (least_of (pos 1 *ℤ a) (pos 1 *ℤ b) (pos 1 *ℤ a) (pos 1 *ℤ b) ≡ a) × (greatest_of (pos 1 *ℤ a) (pos 1 *ℤ b) (pos 1 *ℤ a) (pos 1 *ℤ b) ≡ b)
first_ends a b h =
    let e : pos 1 *ℤ a ≡ a = omega (arith, ints) in
    let f : pos 1 *ℤ b ≡ b = omega (arith, ints) in
    rw (e, f) (ends a b h)
  where
    ends : (a b : ℤ) → a ≤ℤ b → (least_of a b a b ≡ a) × (greatest_of a b a b ≡ b)
    ends a b h = (omega (arith, ints, clamps, h), omega (arith, ints, clamps, h))

-- the first power of a range in order is the range
pub power_one : (p : Range) → IsOrdered p → power p 1 ≡ p
power_one p o = let e = first_ends p.low p.high o in ap₂ (λ l h. record { low = l; high = h }) e.0 e.1

-- a size is its first power
pub size_one : (s : ℕ) → s ^ 1 ≡ s
size_one s = let a = pow-suc s 0 in let b = pow-zero s in let k : s ^ 0 * s ≡ 1 * s = ap (λ m. m * s) b in omega (arith, a, k)
