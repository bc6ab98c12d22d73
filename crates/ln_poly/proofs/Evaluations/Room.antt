-- No number on the way to a value exceeds 127 bits.
use Rattle.std.proofs.Common.{◌≡◌, ℕ, ◌+◌, ◌-◌, ◌*◌, ◌^◌, ◌<◌, ◌≤◌, zero, suc, sym, ◌∙◌, ap, arith, List, [], ◌∷◌, length, max, unsigned_abs}
use Rattle.std.proofs.Math.IntN.{ℤ, pos, ◌*ℤ◌}
use Rattle.std.specs.Prelude.{◌≤ℤ◌}
use Rattle.std.proofs.Math.Nat.{le-mul_of_pos_right, mul-le-mul_left, mul-le-mul_right, pow-suc, mul_assoc as nat_mul_assoc}
use Rattle.std.proofs.lemmas.Int.{ints, unsigned_abs-mul}
use Rattle.ln_algebra.proofs.Bounding.Bounds.{binomial-power}
use Rattle.ln_algebra.proofs.Expanded.Ring.{mul_assoc}
use Rattle.ln_algebra.specs.Terms.{binomial, power_of}
use Rattle.ln_bound.specs.Light.{most}
use Rattle.ln_bound.specs.Value.{weights}
use Rattle.ln_tree.specs.declared.shape.VarInfo.{VarInfo}
use Rattle.ln_tree.specs.Row.{AreWithin, values}
use Rattle.ln_poly.proofs.Loads.Weighing.{abs-some, pow-some}

-- ---- a power
-- M of a number: its absolute value, and at least 1
abbrev pub size : ℤ → ℕ
size x = max 1 (unsigned_abs x)

-- a number that has been multiplied by x some times, and n times remain
pub record IsRaised (z y x : ℤ) (n k : ℕ) : Type 0 where
  pub value : y *ℤ power_of x (n - k) ≡ z *ℤ power_of x n
  pub room : unsigned_abs y * size x ^ (n - k) ≤ most

raised-left : (n k : ℕ) → k < n → n - k ≡ suc (n - (k + 1))
raised-left n k h = omega arith

-- in `raised` the product with one more factor is within the limit
pub raised-fits : (z y x : ℤ) (n k : ℕ) → k < n → IsRaised z y x n k → unsigned_abs (y *ℤ x) ≤ most
raised-fits z y x n k h r =
    let m : ℕ = size x in
    let P : ℕ = m ^ (n - (k + 1)) in
    let p : m ^ (n - k) ≡ P * m = ap (λ j. m ^ j) (raised-left n k h) ∙ pow-suc m (n - (k + 1)) in
    let s : 0 < P = pow-some m (n - (k + 1)) (omega arith) in
    let l : unsigned_abs x ≤ P * m = omega (arith, le-mul_of_pos_right m s, (let c : P * m ≡ m * P = omega arith in c)) in
    omega (arith, unsigned_abs-mul y x, mul-le-mul_left (unsigned_abs y) l, ap (λ j. unsigned_abs y * j) p, r.room)

-- the step of `raised`: one factor more
pub raised-on : (z y x : ℤ) (n k : ℕ) → k < n → IsRaised z y x n k → IsRaised z (y *ℤ x) x n (k + 1)
raised-on z y x n k h r =
    let m : ℕ = size x in
    let P : ℕ = m ^ (n - (k + 1)) in
    let e = raised-left n k h in
    let p : m ^ (n - k) ≡ P * m = ap (λ j. m ^ j) e ∙ pow-suc m (n - (k + 1)) in
    let v : (y *ℤ x) *ℤ power_of x (n - (k + 1)) ≡ y *ℤ power_of x (n - k) = mul_assoc y x (power_of x (n - (k + 1))) ∙ ap (λ j. y *ℤ power_of x j) (sym e) in
    let q : unsigned_abs (y *ℤ x) * P ≤ (unsigned_abs y * m) * P = mul-le-mul_right P (let i : unsigned_abs (y *ℤ x) ≤ unsigned_abs y * m =
    omega (arith, unsigned_abs-mul y x, mul-le-mul_left (unsigned_abs y) (let j : unsigned_abs x ≤ m = omega arith in j)) in i) in
    let c : (unsigned_abs y * m) * P ≡ unsigned_abs y * (P * m) = omega arith in
    record { value = v ∙ r.value; room = omega (arith, q, c, ap (λ j. unsigned_abs y * j) p, r.room) }

-- the end of the loop in `raised`: the number is multiplied by the n-th power of x
pub raised-end : (z y x : ℤ) (n k : ℕ) → n ≤ k → IsRaised z y x n k → y ≡ z *ℤ power_of x n
raised-end z y x n k h r = let e : n - k ≡ 0 = omega arith in times-one y ∙ ap (λ j. y *ℤ power_of x j) (sym e) ∙ r.value where
  times-one : (a : ℤ) → a ≡ a *ℤ pos 1
  times-one a = omega (arith, ints)

-- ---- a pair
-- there is room for the binomial and the power of a pair
pub pair-room : (z x : ℤ) (e k : ℕ) → k ≤ e → unsigned_abs z * (size x + 1) ^ e ≤ most → unsigned_abs (z *ℤ pos (binomial e k)) * size x ^ (e - k) ≤ most
pair-room z x e k h r =
    let m : ℕ = size x in
    let B : ℕ = binomial e k in
    let l : unsigned_abs z * (B * m ^ (e - k)) ≤ unsigned_abs z * (m + 1) ^ e = mul-le-mul_left (unsigned_abs z) (binomial-power m e k h) in
    let c : (unsigned_abs z * B) * m ^ (e - k) ≡ unsigned_abs z * (B * m ^ (e - k)) = nat_mul_assoc (unsigned_abs z) B (m ^ (e - k)) in
    omega (arith, l, c, ap (λ j. j * m ^ (e - k)) (unsigned_abs-mul z (pos B)), r)

-- in `with_pair` the number times the binomial is within the limit
pub pair-fits : (z x : ℤ) (e k : ℕ) → k ≤ e → unsigned_abs z * (size x + 1) ^ e ≤ most → unsigned_abs (z *ℤ pos (binomial e k)) ≤ most
pair-fits z x e k h r =
    let m : ℕ = size x in
    omega (arith, le-mul_of_pos_right (unsigned_abs (z *ℤ pos (binomial e k))) (pow-some m (e - k) (omega arith)), pair-room z x e k h r)

-- in `with_pair` the binomial is within the limit, where the number isn't 0
pub ways-fit : (z x : ℤ) (e k : ℕ) → k ≤ e → (z ≡ pos 0 → ⊥) → unsigned_abs z * (size x + 1) ^ e ≤ most → binomial e k ≤ most
ways-fit z x e k h n r =
    omega (arith, pair-fits z x e k h r, unsigned_abs-mul z (pos (binomial e k)), le-mul_of_pos_right (binomial e k) (abs-some z n))

-- the result of `with_pair`: the number times the binomial times the power that remains
pub pair-value : (z y x : ℤ) (e k w : ℕ) → w ≡ binomial e k → y ≡ (z *ℤ pos w) *ℤ power_of x (e - k) → y ≡ z *ℤ (pos (binomial e k) *ℤ power_of x (e - k))
pair-value z y x e k w q h = h ∙ ap (λ j. (z *ℤ pos j) *ℤ power_of x (e - k)) q ∙ mul_assoc z (pos (binomial e k)) (power_of x (e - k))

-- ---- rows
-- the absolute value of a variable in its declared range is below the variable's weight
pub row-size : (vars : List VarInfo) (zs : List ℤ) (v : ℕ) → AreWithin vars zs → v < length vars → size (values zs v) + 1 ≤ weights vars v
row-size [] zs v h l = absurd (omega arith)
row-size (i ∷ is) [] v h l = absurd h
row-size (i ∷ is) (z ∷ zs) zero h l = omega (arith, within i.lo z i.hi h.0 h.1) where
  within : (a b c : ℤ) → a ≤ℤ b → b ≤ℤ c → unsigned_abs b ≤ max (unsigned_abs a) (unsigned_abs c)
  within a b c l r = omega (arith, ints)
row-size (i ∷ is) (z ∷ zs) (suc v) h l = row-size is zs v h.2 (omega (arith, l))
