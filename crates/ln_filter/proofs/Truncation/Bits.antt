-- The number of binary digits.
use Rattle.std.proofs.Common.{◌≡◌, ℕ, ◌+◌, ◌-◌, ◌*◌, ◌/◌, ◌^◌, ◌≤◌, ◌<◌, Bool, true, false, refl, zero, suc, ap, arith, ◌∙◌, ◌⊎◌, inl, inr}
use Rattle.std.specs.Prelude.{eqb, if◌then◌else◌}
use Rattle.std.proofs.lemmas.Nat.{pow-add, pow_pos}
use Rattle.std.proofs.Math.Nat.{pow-suc, pow-zero, div-lt_iff_lt-mul, div-le_self}
use Rattle.std.proofs.lemmas.Bool.Decides.{nat_tests}
use Rattle.std.proofs.lemmas.Bool.{eqb-true, cases_eq, cases_lt}
use Rattle.std.specs.Int.Count.{count_leading_zeros, leading_unique, leading_of_zero}
use Rattle.std.proofs.Math.Pow.{pow_mono}
use Rattle.ln_filter.specs.Triples.{digits, bits, excess}

below_half : (n most : ℕ) → n ≤ suc most → eqb n 0 ≡ false → n / 2 ≤ most
below_half n most h e = grind (arith, nat_tests)

twice : (n d : ℕ) → n / 2 < 2 ^ d → n < 2 ^ suc d
twice n d h = rw pow-suc (omega (arith, h))

digits_step : (most n : ℕ) (b : Bool) → eqb n 0 ≡ b → n ≤ suc most → (n / 2 ≤ most → n / 2 < 2 ^ digits most (n / 2))
    → n < 2 ^ (if b then 0 else suc (digits most (n / 2)))
digits_step most n true e h ih = let f : n ≡ 0 = eqb-true n 0 e in rw (pow-zero, f) (omega arith)
digits_step most n false e h ih = twice n (digits most (n / 2)) (ih (below_half n most h e))

digits_hold : (most n : ℕ) → n ≤ most → n < 2 ^ digits most n
digits_hold zero n h = rw pow-zero (omega (arith, h))
digits_hold (suc most) n h =
    let ih = λ (k : n / 2 ≤ most). digits_hold most (n / 2) k in
    digits_step most n (eqb n 0) refl h ih

-- a number with b binary digits is below 2^b
pub bits_hold : (n : ℕ) → n < 2 ^ bits n
unfolding bits
bits_hold n = digits_hold n n (omega arith)

-- at most twice the number, where it isn't 0
digits_nought : (most : ℕ) → digits most 0 ≡ 0
digits_nought zero = refl
digits_nought (suc most) = refl

tight_step : (n d : ℕ) → 0 < n → (n / 2 ≡ 0 → d ≡ 1) → (0 < n / 2 → d ≤ 2 * (n / 2)) → d * 2 ≤ 2 * n
tight_step n d h p q = by_case (cases_eq (n / 2) 0)
  where
    by_case : (n / 2 ≡ 0) ⊎ (n / 2 ≡ 0 → ⊥) → d * 2 ≤ 2 * n
    by_case (inl e) = let f = p e in omega (arith, f)
    by_case (inr e) = let f = q (omega (arith, e)) in omega (arith, f)

tight_by : (most n : ℕ) (b : Bool) → eqb n 0 ≡ b → 0 < n → n ≤ suc most → (n / 2 ≤ most → 0 < n / 2 → 2 ^ digits most (n / 2) ≤ 2 * (n / 2))
    → 2 ^ (if b then 0 else suc (digits most (n / 2))) ≤ 2 * n
tight_by most n true e p h ih = let f : n ≡ 0 = eqb-true n 0 e in absurd (omega arith)
tight_by most n false e p h ih =
    rw pow-suc (tight_step n (2 ^ digits most (n / 2)) p (λ q. rw (q, digits_nought most, pow-zero) refl) (λ q. ih (below_half n most h e) q))

digits_tight : (most n : ℕ) → 0 < n → n ≤ most → 2 ^ digits most n ≤ 2 * n
digits_tight zero n p h = absurd (omega arith)
digits_tight (suc most) n p h =
    let ih = λ (k : n / 2 ≤ most) (q : 0 < n / 2). digits_tight most (n / 2) q k in
    tight_by most n (eqb n 0) refl p h ih

-- a number with b binary digits is at least half of 2^b, where it isn't 0
pub bits_tight : (n : ℕ) → 0 < n → 2 ^ bits n ≤ 2 * n
unfolding bits
bits_tight n p = digits_tight n n p (omega arith)

-- 0 has no binary digits
pub bits_nought : bits 0 ≡ 0
unfolding bits
bits_nought = refl

-- a number of w bits has as many binary digits as there are bits after its leading zeros
pub bits_by_zeros : (w n : ℕ) → n < 2 ^ w → w - count_leading_zeros w n ≡ bits n
bits_by_zeros w n h = by_case (cases_lt 0 n)
  where
    fits : (n b : ℕ) → 2 ^ b ≤ 2 * n → n < 2 ^ w → b ≤ w
    fits n b h k = by_lt (cases_lt w b)
      where
        by_lt : (w < b) ⊎ (b ≤ w) → b ≤ w
        by_lt (inl p) =
            let q : 2 ^ suc w ≤ 2 ^ b = pow_mono (let l : suc w ≤ b = omega arith in l) in
            let r : 2 ^ suc w ≡ 2 ^ w * 2 = pow-suc 2 w in
            absurd (omega (arith, q, r))
        by_lt (inr p) = p

    by_case : (0 < n) ⊎ (n ≤ 0) → w - count_leading_zeros w n ≡ bits n
    by_case (inl p) =
        let t : 2 ^ bits n ≤ 2 * n = bits_tight n p in
        let f : bits n ≤ w = fits n (bits n) t h in
        let u : w - bits n ≡ count_leading_zeros w n = leading_unique w n (w - bits n) (bits n) (omega arith) (bits_hold n) (omega (arith, t)) in
        omega (arith, u, f)
    by_case (inr p) = let z : n ≡ 0 = omega arith in rw (z, bits_nought, leading_of_zero) (omega arith)

-- a number divided by 2 to the power of its excess has at most 31 binary digits
pub excess_leaves : (r : ℕ) → r / 2 ^ excess r < 2 ^ 31
excess_leaves r = below_by r (bits r) (bits_hold r) (cases_lt (bits r) 31)
  where
    below_by : (r b : ℕ) → r < 2 ^ b → (b < 31) ⊎ (31 ≤ b) → r / 2 ^ (b - 31) < 2 ^ 31
    below_by r b h (inl p) =
        let q : 2 ^ b ≤ 2 ^ 31 = let g : b ≤ 31 = omega arith in pow_mono g in
        let d = div-le_self r (2 ^ (b - 31)) in
        omega (arith, q, d)
    below_by r b h (inr p) =
        let e : b ≡ 31 + (b - 31) = omega arith in
        let f : 2 ^ b ≡ 2 ^ 31 * 2 ^ (b - 31) = ap (λ t. 2 ^ t) e ∙ pow-add 2 31 (b - 31) in
        (div-lt_iff_lt-mul (pow_pos (b - 31))).1 (rw f at h)
