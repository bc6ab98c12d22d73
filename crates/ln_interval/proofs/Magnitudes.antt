-- The magnitudes of operations on ranges: sums and differences have at most the sum, products exactly the product, powers exactly the power.
use Rattle.std.proofs.Common.{◌≡◌, ℕ, ℤ, ◌+◌, ◌*◌, ◌^◌, ◌≤◌, ◌<◌, ◌⊎◌, inl, inr, max, refl, zero, suc, ap, arith, ◌*ℤ◌, unsigned_abs, ◌∙◌, sym}
use Rattle.std.specs.Prelude.{◌≤ℤ◌, Bool, true, false, cond, int_lt}
use Rattle.std.specs.Int.{int_min, int_max}
use Rattle.std.proofs.lemmas.Int.{ints, clamps, unsigned_abs-mul}
use Rattle.std.proofs.lemmas.Bool.{cases_lt}
use Rattle.std.proofs.lemmas.Nat.{mul-le}
use Rattle.std.proofs.Math.Nat.{pow-suc, pow-zero}
use Rattle.ln_interval.specs.Range.{Range, Holds, Covers, IsOrdered, sum, difference, opposite, product, power, magnitude, least_of, greatest_of}

-- no value of a range is above its magnitude
pub holds_magnitude : (p : Range) (z : ℤ) → Holds p z → unsigned_abs z ≤ magnitude p
holds_magnitude p z h = omega (arith, ints, h.0, h.1)

-- a range that another covers has no larger magnitude
pub covers_magnitude : (p q : Range) → IsOrdered q → Covers p q → magnitude q ≤ magnitude p
covers_magnitude p q o c = omega (arith, ints, o, c.0, c.1)

-- what a covered range holds the other holds
pub covers_holds : (p q : Range) (z : ℤ) → Covers p q → Holds q z → Holds p z
covers_holds p q z c h = (omega (arith, ints, c.0, h.0), omega (arith, ints, c.1, h.1))

-- a sum's magnitude is at most the sum of the magnitudes
pub sum_magnitude : (p q : Range) → magnitude (sum p q) ≤ magnitude p + magnitude q
sum_magnitude p q = omega (arith, ints)

-- a difference's magnitude is at most the sum of the magnitudes
pub difference_magnitude : (p q : Range) → magnitude (difference p q) ≤ magnitude p + magnitude q
difference_magnitude p q = omega (arith, ints)

-- the opposite has the same magnitude
pub opposite_magnitude : (p : Range) → magnitude (opposite p) ≡ magnitude p
opposite_magnitude p = omega (arith, ints)

-- the larger absolute value of the smaller and the larger of two
two_abs : (a b : ℤ) → max (unsigned_abs (int_min a b)) (unsigned_abs (int_max a b)) ≡ max (unsigned_abs a) (unsigned_abs b)
two_abs a b = omega (arith, ints, clamps)

-- the smaller of two is one of them, and so is the larger
min_which : (a b : ℤ) → (int_min a b ≡ a) ⊎ (int_min a b ≡ b)
min_which a b = by_case (int_lt b a)
  where
    by_case : (t : Bool) → (cond t b a ≡ a) ⊎ (cond t b a ≡ b)
    by_case true = inr refl
    by_case false = inl refl

max_which : (a b : ℤ) → (int_max a b ≡ a) ⊎ (int_max a b ≡ b)
max_which a b = by_case (int_lt b a)
  where
    by_case : (t : Bool) → (cond t a b ≡ a) ⊎ (cond t a b ≡ b)
    by_case true = inl refl
    by_case false = inr refl

le_then : (a b c : ℤ) → a ≤ℤ b → b ≤ℤ c → a ≤ℤ c
le_then a b c h g = omega (arith, ints, h, g)

-- a number between two has no larger absolute value than both
between : (l u z : ℤ) → l ≤ℤ z → z ≤ℤ u → unsigned_abs z ≤ max (unsigned_abs l) (unsigned_abs u)
between l u z h g = omega (arith, ints, h, g)

-- the largest of four
all_below : (w x y z m : ℕ) → w ≤ m → x ≤ m → y ≤ m → z ≤ m → max (max w x) (max y z) ≤ m
all_below w x y z m a b c d = omega (arith, a, b, c, d)

one_below : (w x y z : ℕ) → (w ≤ max (max w x) (max y z)) × (x ≤ max (max w x) (max y z)) × (y ≤ max (max w x) (max y z)) × (z ≤ max (max w x) (max y z))
one_below w x y z = (omega arith, omega arith, omega arith, omega arith)

both_ways : (m n r : ℕ) → m ≤ r → n ≤ r → r ≤ max m n → max m n ≡ r
both_ways m n r a b c = omega (arith, a, b, c)

-- a number that is one of two has an absolute value that is one of theirs
one_abs : (l a c : ℤ) (r : ℕ) → (l ≡ a) ⊎ (l ≡ c) → unsigned_abs a ≤ r → unsigned_abs c ≤ r → unsigned_abs l ≤ r
one_abs l a c r (inl e) h g = rw e h
one_abs l a c r (inr e) h g = rw e g

-- of two ranges one after the other
joined_abs : (a b c d : ℤ) → a ≤ℤ b → c ≤ℤ d
    → max (unsigned_abs (int_min a c)) (unsigned_abs (int_max b d)) ≡ max (max (unsigned_abs a) (unsigned_abs b)) (max (unsigned_abs c) (unsigned_abs d))
joined_abs a b c d h g = by_ends (int_min a c) (int_max b d) (omega (arith, ints, clamps)) (omega (arith, ints, clamps))
    (omega (arith, ints, clamps)) (omega (arith, ints, clamps)) (min_which a c) (max_which b d)
  where
    by_ends : (l u : ℤ) → l ≤ℤ a → l ≤ℤ c → b ≤ℤ u → d ≤ℤ u → (l ≡ a) ⊎ (l ≡ c) → (u ≡ b) ⊎ (u ≡ d)
        → max (unsigned_abs l) (unsigned_abs u) ≡ max (max (unsigned_abs a) (unsigned_abs b)) (max (unsigned_abs c) (unsigned_abs d))
    by_ends l u la lc bu du e f =
        let o = one_below (unsigned_abs a) (unsigned_abs b) (unsigned_abs c) (unsigned_abs d) in
        both_ways (unsigned_abs l) (unsigned_abs u) _ (one_abs l a c _ e o.0 o.2) (one_abs u b d _ f o.1 o.3)
        (all_below (unsigned_abs a) (unsigned_abs b) (unsigned_abs c) (unsigned_abs d) _ (between l u a la (le_then a b u h bu))
        (between l u b (le_then l a b la h) bu) (between l u c lc (le_then c d u g du)) (between l u d (le_then l c d lc g) du))

min_left : (a b : ℤ) → int_min a b ≤ℤ a
min_left a b = omega (arith, ints, clamps)

max_left : (a b : ℤ) → a ≤ℤ int_max a b
max_left a b = omega (arith, ints, clamps)

min_max : (a b : ℤ) → int_min a b ≤ℤ int_max a b
min_max a b = omega (arith, ints, clamps)

-- the larger absolute value of the least and the greatest of four is the largest absolute value of the four
four_abs : (a b c d : ℤ) → max (unsigned_abs (least_of a b c d)) (unsigned_abs (greatest_of a b c d))
    ≡ max (max (unsigned_abs a) (unsigned_abs b)) (max (unsigned_abs c) (unsigned_abs d))
four_abs a b c d = joined_abs (int_min a b) (int_max a b) (int_min c d) (int_max c d) (min_max a b) (min_max c d) ∙ rw (two_abs a b, two_abs c d) refl

-- the larger of two is one of them
which : (a b : ℕ) → (max a b ≡ a) ⊎ (max a b ≡ b)
which a b = by_case (cases_lt a b)
  where
    by_case : (a < b) ⊎ (b ≤ a) → (max a b ≡ a) ⊎ (max a b ≡ b)
    by_case (inl h) = inr (omega (arith, h))
    by_case (inr h) = inl (omega (arith, h))

-- the largest of four products
four_max : (a b c d : ℕ) → max (max (a * c) (a * d)) (max (b * c) (b * d)) ≡ max a b * max c d
four_max a b c d =
    let ac : a * c ≤ max a b * max c d = mul-le _ _ _ _ (omega arith) (omega arith) in
    let ad : a * d ≤ max a b * max c d = mul-le _ _ _ _ (omega arith) (omega arith) in
    let bc : b * c ≤ max a b * max c d = mul-le _ _ _ _ (omega arith) (omega arith) in
    let bd : b * d ≤ max a b * max c d = mul-le _ _ _ _ (omega arith) (omega arith) in
    let r = reached (max a b) (max c d) (which a b) (which c d) in
    omega (arith, ac, ad, bc, bd, r)
  where
    reached : (m n : ℕ) → (m ≡ a) ⊎ (m ≡ b) → (n ≡ c) ⊎ (n ≡ d) → m * n ≤ max (max (a * c) (a * d)) (max (b * c) (b * d))
    reached m n (inl e) (inl f) = rw (e, f) (omega arith)
    reached m n (inl e) (inr f) = rw (e, f) (omega arith)
    reached m n (inr e) (inl f) = rw (e, f) (omega arith)
    reached m n (inr e) (inr f) = rw (e, f) (omega arith)

-- a product's magnitude is the product of the magnitudes
pub product_magnitude : (p q : Range) → magnitude (product p q) ≡ magnitude p * magnitude q
product_magnitude p q =
    four_abs (p.low *ℤ q.low) (p.low *ℤ q.high) (p.high *ℤ q.low) (p.high *ℤ q.high)
    ∙ rw (unsigned_abs-mul p.low q.low, unsigned_abs-mul p.low q.high, unsigned_abs-mul p.high q.low, unsigned_abs-mul p.high q.high)
    (four_max (unsigned_abs p.low) (unsigned_abs p.high) (unsigned_abs q.low) (unsigned_abs q.high))

-- a power's magnitude is the power of the magnitude
pub power_magnitude : (p : Range) (n : ℕ) → magnitude (power p n) ≡ magnitude p ^ n
power_magnitude p zero = rw pow-zero (omega (arith, ints))
power_magnitude p (suc n) = product_magnitude (power p n) p ∙ ap (λ m. m * magnitude p) (power_magnitude p n) ∙ sym (pow-suc (magnitude p) n)

-- ---- operations on ranges are ranges: low is not above high
-- a sum of ordered ranges is ordered
pub sum_ordered : (p q : Range) → IsOrdered p → IsOrdered q → IsOrdered (sum p q)
sum_ordered p q h g = omega (arith, ints, h, g)

-- a difference of ordered ranges is ordered
pub difference_ordered : (p q : Range) → IsOrdered p → IsOrdered q → IsOrdered (difference p q)
difference_ordered p q h g = omega (arith, ints, h, g)

-- the opposite of an ordered range is ordered
pub opposite_ordered : (p : Range) → IsOrdered p → IsOrdered (opposite p)
opposite_ordered p h = omega (arith, ints, h)

-- a product is ordered, whatever the two ranges are
pub product_ordered : (p q : Range) → IsOrdered (product p q)
product_ordered p q = four (p.low *ℤ q.low) (p.low *ℤ q.high) (p.high *ℤ q.low) (p.high *ℤ q.high)
  where
    four : (a b c d : ℤ) → least_of a b c d ≤ℤ greatest_of a b c d
    four a b c d =
        le_then (least_of a b c d) (int_max a b) (greatest_of a b c d)
        (le_then (least_of a b c d) (int_min a b) (int_max a b) (min_left (int_min a b) (int_min c d)) (min_max a b))
        (max_left (int_max a b) (int_max c d))

-- a power is ordered, whatever the range is
pub power_ordered : (p : Range) (n : ℕ) → IsOrdered (power p n)
power_ordered p zero = omega (arith, ints)
power_ordered p (suc n) = product_ordered (power p n) p
