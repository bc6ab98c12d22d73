-- The numbers of monomials add, rise, and give the exponents back.
use Rattle.std.proofs.Common.{◌≡◌, ◌⊎◌, inl, inr, ℕ, ◌+◌, ◌-◌, ◌*◌, ◌/◌, ◌<◌, ◌≤◌, zero, suc, List, [], ◌∷◌, length, refl, sym, ap, arith, subst}
use Rattle.std.proofs.Math.Nat.{mul-le-mul_right}
use Rattle.std.proofs.lemmas.Bool.{cases_eq}
use Rattle.std.proofs.lemmas.Nat.{div-mul-add}
use Rattle.ln_poly.specs.Packed.{AreFields, number, taken}

-- the number of a sum of exponents is the sum of both numbers
pub number-adds : (ws : List ℕ) (v : ℕ) (m n k : ℕ → ℕ) → ((u : ℕ) → k u ≡ m u + n u) → number ws v k ≡ number ws v m + number ws v n
number-adds [] v m n k h = refl
number-adds (w ∷ ws) v m n k h = omega (arith, ap (λ z. z * w) (h v), number-adds ws (suc v) m n k h)

-- equal exponents have equal numbers
pub number-same : (ws : List ℕ) (v : ℕ) (m n : ℕ → ℕ) → ((u : ℕ) → v ≤ u → u < v + length ws → m u ≡ n u) → number ws v m ≡ number ws v n
number-same [] v m n h = refl
number-same (w ∷ ws) v m n h =
    omega (arith, ap (λ z. z * w) (h v (omega arith) (omega arith)), number-same ws (suc v) m n (λ u l g. h u (omega arith) (omega arith)))

-- no number of exponents up to the largest comes to `left`
pub number-below : (top : ℕ → ℕ) (left v : ℕ) (ws : List ℕ) (m : ℕ → ℕ) → AreFields top left v ws → 0 < left → ((u : ℕ) → m u ≤ top u)
    → number ws v m < left
number-below top left v [] m f p h = p
number-below top left v (w ∷ ws) m f p h =
    let q : m v * w ≤ top v * w = mul-le-mul_right w (h v) in omega (arith, q, number-below top w (suc v) ws m f.2 f.0 h, f.1)

-- where m has the smaller exponent at the first variable in which m and n differ, it has the smaller number
pub number-rises : (top : ℕ → ℕ) (left v u : ℕ) (ws : List ℕ) (m n : ℕ → ℕ) → AreFields top left v ws → ((k : ℕ) → m k ≤ top k) → ((k : ℕ) → n k ≤ top k)
    → ((k : ℕ) → k < u → m k ≡ n k) → m u < n u → v ≤ u → u < v + length ws → number ws v m < number ws v n
number-rises top left v u [] m n f a b s l x y = absurd (omega arith)
number-rises top left v u (w ∷ ws) m n f a b s l x y =
    by_case (cases_eq v u) (λ g. number-rises top w (suc v) u ws m n f.2 a b s l (omega (arith, x, g)) (omega (arith, y))) where
      by_case : (v ≡ u) ⊎ (v ≡ u → ⊥) → ((v ≡ u → ⊥) → number ws (suc v) m < number ws (suc v) n) → number (w ∷ ws) v m < number (w ∷ ws) v n
      by_case (inl e) r =
          let k : m v + 1 ≤ n v = subst (λ z. m z + 1 ≤ n z) (sym e) (omega (arith, l)) in
          let p : (m v + 1) * w ≤ n v * w = mul-le-mul_right w k in
          omega (arith, p, number-below top w (suc v) ws m f.2 f.0 a)
      by_case (inr d) r =
          let k : m v ≡ n v = s v (omega (arith, x, d)) in
          omega (arith, ap (λ z. z * w) k, r d)

-- the exponents from variable v on, as a list
abbrev pub values_from : ℕ → ℕ → (ℕ → ℕ) → List ℕ
values_from v zero m = []
values_from v (suc n) m = m v ∷ values_from (suc v) n m

-- the exponents of a number are those that it was made of
pub number-taken : (top : ℕ → ℕ) (left v : ℕ) (ws : List ℕ) (m : ℕ → ℕ) → AreFields top left v ws → ((u : ℕ) → m u ≤ top u)
    → taken ws (number ws v m) ≡ values_from v (length ws) m
number-taken top left v [] m f h = refl
number-taken top left v (w ∷ ws) m f h =
    let small : number ws (suc v) m < w = number-below top w (suc v) ws m f.2 f.0 h in
    let d : (m v * w + number ws (suc v) m) / w ≡ m v = div-mul-add (m v) w (number ws (suc v) m) small in
    let k : m v * w + number ws (suc v) m - m v * w ≡ number ws (suc v) m = omega arith in
    let r : taken ws (number ws (suc v) m) ≡ values_from (suc v) (length ws) m = number-taken top w (suc v) ws m f.2 h in
    rw (d, k, r) refl
