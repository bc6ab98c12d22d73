-- Proves that a bound fits its least width, and that what fits a width fits each that is no narrower.
use Rattle.std.proofs.Common.{◌≡◌, ℕ, ◌≤◌, ◌<◌, Bool, true, false, refl, arith}
use Rattle.std.specs.Prelude.{nat_le, nat_lt, ◌&&◌}
use Rattle.std.proofs.lemmas.Bool.{leb-true, le-leb}
use Rattle.std.proofs.lemmas.Bool.Decides.{nat_tests}
use Rattle.ln_bound.specs.declared.fitted.Width.{Width}
use Rattle.ln_bound.specs.declared.fitted.Width.TheVariants.{W64, W128}
use Rattle.ln_bound.specs.Light.{most}
use Rattle.ln_bound.specs.Widths.{limit, least, wider, no_wider}

-- the test of `≤` is true where it holds
pub test_le : (a b : ℕ) → a ≤ b → nat_le a b ≡ true
test_le a b h = le-leb a b h

-- `≤` holds where its test is true
pub le_test : (a b : ℕ) → nat_le a b ≡ true → a ≤ b
le_test a b h = leb-true a b h

-- the test of `<` is true where it holds
pub test_lt : (a b : ℕ) → a < b → nat_lt a b ≡ true
test_lt a b h = grind (arith, nat_tests)

-- `<` holds where its test is true
pub lt_test : (a b : ℕ) → nat_lt a b ≡ true → a < b
lt_test a b h = grind (arith, nat_tests)

-- two tests that hold
pub both_true : (p q : Bool) → p ≡ true → q ≡ true → (p && q) ≡ true
both_true p q h g = rw (h, g) refl

-- no width is wider than 128 bits
pub limit_most : (w : Width) → limit w ≤ most
limit_most W64 = omega arith
limit_most W128 = omega arith

-- a bound up to 2^127 - 1 fits the least width, also where that is made wider
pub least_fits : (b : ℕ) → b ≤ most → b ≤ limit (least b)
least_fits b h = by_case (nat_le b (limit W64)) refl
  where
    by_case : (v : Bool) → nat_le b (limit W64) ≡ v → b ≤ limit (least b)
    by_case true e = rw e (le_test _ _ e)
    by_case false e = rw e h

-- a bound up to 2^127 - 1 fits the wider of any width and its least width
pub wider_fits : (u : Width) (b : ℕ) → b ≤ most → b ≤ limit (wider u (least b))
wider_fits W64 b h = least_fits b h
wider_fits W128 b h = h

-- a width is no wider than the wider of it and another
pub left_no_wider : (u w : Width) → no_wider u (wider u w) ≡ true
left_no_wider W64 w = refl
left_no_wider W128 w = refl

-- the first of three widths is no wider than the widest of them
pub first_no_wider : (u v w : Width) → no_wider u (wider (wider u v) w) ≡ true
first_no_wider W64 v w = refl
first_no_wider W128 v w = refl

-- the second of three widths is no wider than the widest of them
pub second_no_wider : (u v w : Width) → no_wider v (wider (wider u v) w) ≡ true
second_no_wider W64 v w = left_no_wider v w
second_no_wider W128 W64 w = refl
second_no_wider W128 W128 w = refl
