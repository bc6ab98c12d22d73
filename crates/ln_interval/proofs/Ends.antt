-- What the operations on pairs in code need.
use Rattle.std.proofs.Common.{◌≡◌, ℕ, ℤ, ◌*◌, ◌^◌, ◌≤◌, ◌<◌, refl, zero, suc, ap, arith, ◌*ℤ◌, unsigned_abs, ◌∙◌}
use Rattle.std.specs.Prelude.{◌≤ℤ◌, FitsSigned}
use mir.Syntax.{w128}
use mir.Val.{to_z, of_z}
use Rattle.std.proofs.lemmas.Int.{fits_signed_from_abs, unsigned_abs-mul, to_z-of_z}
use Rattle.std.proofs.lemmas.Nat.{mul-le}
use Rattle.std.proofs.Math.Nat.{pow-suc, pow-zero}
use Rattle.ln_interval.specs.Range.{Range, most, product, power, magnitude, least_of, greatest_of}
use Rattle.ln_interval.proofs.Magnitudes.{product_magnitude, power_magnitude, product_ordered}

-- a product of two ends is within the product of the magnitudes
pub corner : (a b m n : ℕ) → a ≤ m → b ≤ n → m * n ≤ most → a * b ≤ most
corner a b m n h g l = let k : a * b ≤ m * n = mul-le _ _ _ _ h g in omega (arith, k, l)

-- the ends of a product whose magnitude is within the limit
pub product_ends : (p q : Range) → magnitude p * magnitude q ≤ most → (l u : ℤ) → l ≡ (product p q).low → u ≡ (product p q).high
    → (l ≤ℤ u) × (unsigned_abs l ≤ most) × (unsigned_abs u ≤ most)
product_ends p q h l u e f =
    let m = product_magnitude p q in
    let o = product_ordered p q in
    rw (e, f) (o, omega (arith, m, h), omega (arith, m, h))

-- the same of the numbers that the code has, which went through 128 bits
pub fit : (z : ℤ) → unsigned_abs z ≤ most → FitsSigned w128 z
fit z h = fits_signed_from_abs w128 z (omega (arith, h))

-- a product past the limit has an end past it
pub product_past : (p q : Range) (m n : ℕ) → m ≡ magnitude p → n ≡ magnitude q → most < m * n → most < magnitude (product p q)
product_past p q m n e f h =
    let k = product_magnitude p q in
    let l : m * n ≡ magnitude p * magnitude q = rw (e, f) refl in
    omega (arith, k, l, h)

-- a power is past the limit where the one before it is
pub power_past : (p : Range) (n k : ℕ) → n ≡ suc k → most < magnitude (power p k) → most < magnitude (power p n)
power_past p n k e h =
    let a = power_magnitude p k in
    let b = power_magnitude p n in
    let c : magnitude p ^ n ≡ magnitude p ^ k * magnitude p = ap (λ i. magnitude p ^ i) e ∙ pow-suc (magnitude p) k in
    let d = grown (magnitude p) k (omega (arith, a, h)) in
    omega (arith, a, b, c, d, h)
  where
    grown : (m k : ℕ) → most < m ^ k → m ^ k ≤ m ^ k * m
    grown zero zero g = let z : 0 ^ 0 ≡ 1 = pow-zero 0 in absurd (omega (arith, z, g))
    grown zero (suc k) g = let z : 0 ^ suc k ≡ 0 ^ k * 0 = pow-suc 0 k in absurd (omega (arith, z, g))
    grown (suc m) k g = omega arith

-- the range of a power, from that of the power before it
pub power_step : (p : Range) (n k : ℕ) → n ≡ suc k → power p n ≡ product (power p k) p
power_step p n k e = ap (power p) e

-- a number of a pair is what the code reads of it
pub plain : (z : ℤ) → unsigned_abs z ≤ most → to_z w128 (of_z w128 z) ≡ z
plain z h = to_z-of_z w128 z (fit z h)

-- the same number, as the code has it
abbrev pub kept : ℤ → ℤ
kept z = to_z w128 (of_z w128 z)

-- the product of two ends, as the code has it
one_corner : (x y a : ℤ) → unsigned_abs x ≤ most → unsigned_abs y ≤ most → unsigned_abs x * unsigned_abs y ≤ most → a ≡ kept x *ℤ kept y → kept a ≡ x *ℤ y
one_corner x y a h g l e =
    let f : kept x ≡ x = plain x h in
    let k : kept y ≡ y = plain y g in
    let q : a ≡ x *ℤ y = rw (f, k) at e in
    let s : unsigned_abs a ≤ most = let u = unsigned_abs-mul x y in
    let v : unsigned_abs a ≡ unsigned_abs (x *ℤ y) = ap unsigned_abs q in
    omega (arith, u, v, l) in
    plain a s ∙ q

-- the ends of a product, as the code finds them
pub record Corners (p q : Range) (l u : ℤ) : Type 0 where
  pub low : l ≡ (product p q).low
  pub high : u ≡ (product p q).high
  pub same_low : kept l ≡ l
  pub same_high : kept u ≡ u
  pub ordered : kept l ≤ℤ kept u
  pub low_small : unsigned_abs (kept l) ≤ most
  pub high_small : unsigned_abs (kept u) ≤ most

-- where no magnitude exceeds the limit, the least and the greatest of the four products that the code forms are the product's ends
pub corners : (p q : Range) (a b c d l u : ℤ) → magnitude p ≤ most → magnitude q ≤ most → magnitude p * magnitude q ≤ most
    → a ≡ kept p.low *ℤ kept q.low → b ≡ kept p.low *ℤ kept q.high → c ≡ kept p.high *ℤ kept q.low → d ≡ kept p.high *ℤ kept q.high
    → l ≡ least_of (kept a) (kept b) (kept c) (kept d) → u ≡ greatest_of (kept a) (kept b) (kept c) (kept d) → Corners p q l u
corners p q a b c d l u sp sq m ea eb ec ed el eu =
    let fa = one_corner p.low q.low a (omega (arith, sp)) (omega (arith, sq)) (corner _ _ _ _ (omega arith) (omega arith) m) ea in
    let fb = one_corner p.low q.high b (omega (arith, sp)) (omega (arith, sq)) (corner _ _ _ _ (omega arith) (omega arith) m) eb in
    let fc = one_corner p.high q.low c (omega (arith, sp)) (omega (arith, sq)) (corner _ _ _ _ (omega arith) (omega arith) m) ec in
    let fd = one_corner p.high q.high d (omega (arith, sp)) (omega (arith, sq)) (corner _ _ _ _ (omega arith) (omega arith) m) ed in
    let low : l ≡ (product p q).low = el ∙ rw (fa, fb, fc, fd) refl in
    let high : u ≡ (product p q).high = eu ∙ rw (fa, fb, fc, fd) refl in
    let e = product_ends p q m l u low high in
    let kl : kept l ≡ l = plain l e.1 in
    let ku : kept u ≡ u = plain u e.2 in
    record { low = low; high = high; same_low = kl; same_high = ku; ordered = rw (kl, ku) e.0; low_small = rw kl e.1; high_small = rw ku e.2 }

-- two small ends are a small range
pub small : (l h : ℤ) → unsigned_abs l ≤ most → unsigned_abs h ≤ most → magnitude (record { low = l; high = h }) ≤ most
small l h a b = omega (arith, a, b)

-- the range of a product, from its ends
pub of_both : (p q : Range) (l u x y : ℤ) → Corners p q l u → x ≡ kept l → y ≡ kept u → record { low = x; high = y } ≡ product p q
of_both p q l u x y c e f =
    let a : x ≡ (product p q).low = e ∙ c.same_low ∙ c.low in
    let b : y ≡ (product p q).high = f ∙ c.same_high ∙ c.high in
    rw (a, b) refl
