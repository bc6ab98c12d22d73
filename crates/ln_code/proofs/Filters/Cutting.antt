-- The processor's division by a power of 2.
use Rattle.std.proofs.Common.{◌≡◌, ◌≢◌, ℕ, ℤ, ◌*◌, ◌/◌, ◌^◌, ◌≤◌, ◌<◌, refl, zero, suc, ap, arith, pos, negsuc, ◌-ℤ◌, neg_ℤ, unsigned_abs, FitsSigned, ◌∙◌}
use Rattle.std.proofs.lemmas.Int.{ints}
use Rattle.std.proofs.Math.Nat.{div-eq_of_lt, pow-zero, div-one, mul-le-mul_left, div-mul-le_self}
use Rattle.std.proofs.Math.Pow.{pow_mono}
use mir.Syntax.{w128}
use Rattle.ln_code.specs.Numbers.{cut_by}

-- the absolute value of a quotient by 2^n is that of the number, divided by 2^n
pub cut_abs : (n : ℕ) (z : ℤ) → unsigned_abs (cut_by n z) ≡ unsigned_abs z / 2 ^ n
cut_abs n (pos a) = refl
cut_abs n (negsuc a) = abs_of (suc a / 2 ^ n)
  where
    abs_of : (m : ℕ) → unsigned_abs (neg_ℤ (pos m)) ≡ m
    abs_of zero = refl
    abs_of (suc m) = refl

-- what is divided by 1 stays
pub cut_none : (z : ℤ) → cut_by 0 z ≡ z
cut_none (pos a) = ap pos (rw pow-zero (div-one a))
cut_none (negsuc a) = let e : suc a / 2 ^ 0 ≡ suc a = rw pow-zero (div-one (suc a)) in rw e refl

-- a division by 2^128 or more leaves nothing
pub cut_far : (n : ℕ) (z : ℤ) → 128 ≤ n → unsigned_abs z ≤ 2 ^ 127 → pos 0 ≡ cut_by n z
cut_far n z h s =
    let p : 2 ^ 128 ≤ 2 ^ n = pow_mono h in
    let q : unsigned_abs z / 2 ^ n ≡ 0 = div-eq_of_lt (let l : unsigned_abs z < 2 ^ n = omega (arith, p, s) in l) in
    let e : unsigned_abs (cut_by n z) ≡ 0 = cut_abs n z ∙ q in
    omega (arith, ints, e)

-- a division by 2 or more leaves at most 2^126
pub halved : (n a : ℕ) → n ≢ 0 → a ≤ 2 ^ 127 → a / 2 ^ n ≤ 2 ^ 126
halved n a h s =
    let q : ℕ = a / 2 ^ n in
    let p : 2 ^ 1 ≤ 2 ^ n = pow_mono (let g : 1 ≤ n = omega arith in g) in
    let m : q * 2 ^ n ≤ a = div-mul-le_self a (2 ^ n) in
    let l : q * 2 ^ 1 ≤ q * 2 ^ n = mul-le-mul_left q p in
    omega (arith, m, l, s)

-- minus a natural number of at most 2^126 fits 128 bits
pub negated_fits : (x : ℕ) → x ≤ 2 ^ 126 → FitsSigned w128 (pos 0 -ℤ pos x)
negated_fits zero h = record { sfits = omega arith }
negated_fits (suc n) h =
    let e : pos 0 -ℤ pos (suc n) ≡ negsuc n = omega (arith, ints) in
    rw e (record { sfits = omega (arith, h) })
