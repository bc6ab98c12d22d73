-- Quotients by powers of 2 that fit a word.
use Rattle.std.proofs.Common.{◌≡◌, ◌≢◌, ℕ, ◌+◌, ◌-◌, ◌*◌, ◌/◌, ◌%◌, ◌^◌, ◌≤◌, ◌<◌, zero, suc, arith, ◌⊎◌, inl, inr}
use Rattle.std.proofs.lemmas.Bool.{cases_lt}
use Rattle.std.proofs.lemmas.Nat.{pow_pos, pow_below}
use Rattle.std.proofs.lemmas.Grind.{div_ceil_times}
use Rattle.std.proofs.Math.Nat.{pow-suc, div-eq_of_lt, mod-eq_of_lt, mul-le-mul_left}
use Rattle.std.proofs.Math.Pow.{pow_mono}
use Rattle.std.specs.Int.{div_ceil}
use Rattle.ln_code.specs.FilterRules.{error_after}

-- a quotient by 2 or more, rounded up, is at most one more than half
pub ceil_small : (e n : ℕ) → 0 < n → div_ceil e n * n < e + n
ceil_small e n h = (div_ceil_times e n h).1

halved : (c e p : ℕ) → 2 ≤ p → c * p < e + p → e < 2 ^ 64 → c + 1 < 2 ^ 64
halved c e p h k l = by_cases (cases_lt c 2)
  where
    by_cases : (c < 2) ⊎ (2 ≤ c) → c + 1 < 2 ^ 64
    by_cases (inl q) = omega arith
    by_cases (inr q) =
        let d : ℕ = c - 1 in
        let f : c ≡ d + 1 = omega arith in
        let g : (d + 1) * p < e + p = rw (← f) k in
        let m : d * 2 ≤ d * p = mul-le-mul_left d h in
        omega (arith, g, m, f)

-- the error after a division by 2 or more of one that fits 64 bits fits 64 bits
pub ceil_fits : (e n : ℕ) → 0 < n → e < 2 ^ 64 → div_ceil e (2 ^ n) + 1 < 2 ^ 64
ceil_fits e zero h l = absurd (omega arith)
ceil_fits e (suc n) h l =
    let p : 2 ≤ 2 ^ suc n = rw pow-suc (let q : 0 < 2 ^ n = pow_pos n in omega arith) in
    halved (div_ceil e (2 ^ suc n)) e (2 ^ suc n) p (ceil_small e (2 ^ suc n) (pow_pos (suc n))) l

-- a number of w bits divided by 2^w or more leaves 0
pub far : (w n h : ℕ) → h < 2 ^ w → w ≤ n → h / 2 ^ n ≡ 0
far w n h f l = let p : 2 ^ w ≤ 2 ^ n = pow_mono l in div-eq_of_lt (let q : h < 2 ^ n = omega (arith, p, f) in q)

far_rest : (w n h : ℕ) → h < 2 ^ w → w ≤ n → h % 2 ^ n ≡ h
far_rest w n h f l = let p : 2 ^ w ≤ 2 ^ n = pow_mono l in mod-eq_of_lt (let q : h < 2 ^ n = omega (arith, p, f) in q)

-- an error of w bits that isn't 0 becomes 2 in a division by 2^w or more
pub far_error : (w n e : ℕ) → 0 < n → e < 2 ^ w → w ≤ n → e ≢ 0 → 2 ≡ error_after n e
far_error w zero e p f l h = absurd (omega arith)
far_error w (suc n) e p f l h =
    let a : e / 2 ^ suc n ≡ 0 = far w (suc n) e f l in
    let b : e % 2 ^ suc n ≡ e = far_rest w (suc n) e f l in
    rw (a, b) (omega arith)

-- 1 shifted by fewer than 64 bits, in a word of 64 bits, is that power of 2
pub unit_is : (n : ℕ) → n < 64 → (1 * 2 ^ n) % 18446744073709551616 ≡ 2 ^ n
unit_is n h =
    let p : 2 ^ n < 2 ^ 64 = pow_below n 64 h in
    let e : 1 * 2 ^ n ≡ 2 ^ n = omega arith in
    rw e (mod-eq_of_lt p)
