-- The pairs of an exponent vector.
use Rattle.std.proofs.Common.{◌≡◌, ℕ, ◌+◌, ◌<◌, ◌≤◌, zero, suc, refl, arith, ap, List, [], ◌∷◌, length, eqb, eq-eqb, false, true}
use Rattle.std.proofs.lemmas.Bool.{ne_eqb}
use Rattle.ln_algebra.specs.Vector.{total_degree}
use Rattle.ln_tree.specs.Exps.{AllAbove, IsAbove, IsRising, Pairs, exponent, exponents_from}
use Rattle.ln_poly.specs.Packed.{pairs_from}

-- all variables are above those before
pub pairs-all-above : (u v : ℕ) (m : List ℕ) → u < v → AllAbove u (pairs_from v m)
pairs-all-above u v [] h = tt
pairs-all-above u v (zero ∷ m) h = pairs-all-above u (suc v) m (omega arith)
pairs-all-above u v (suc k ∷ m) h = (h, pairs-all-above u (suc v) m (omega arith))

-- they rise where no exponent exceeds 127
pub pairs-rising : (v : ℕ) (m : List ℕ) → total_degree m < 128 → IsRising (pairs_from v m)
pairs-rising v [] h = tt
pairs-rising v (zero ∷ m) h = pairs-rising (suc v) m (omega (arith, h))
pairs-rising v (suc k ∷ m) h = (omega arith, omega (arith, h), pairs-all-above v (suc v) m (omega arith), pairs-rising (suc v) m (omega (arith, h)))

-- all variables are below the last
pub pairs-above : (v n : ℕ) (m : List ℕ) → v + length m ≤ n → IsAbove (pairs_from v m) n
pairs-above v n [] h = tt
pairs-above v n (zero ∷ m) h = pairs-above (suc v) n m (omega (arith, h))
pairs-above v n (suc k ∷ m) h = (omega (arith, h), pairs-above (suc v) n m (omega (arith, h)))

-- ---- their exponents
exponent-before : (u v : ℕ) (m : List ℕ) → u < v → exponent u (pairs_from v m) ≡ 0
exponent-before u v [] h = refl
exponent-before u v (zero ∷ m) h = exponent-before u (suc v) m (omega arith)
exponent-before u v (suc k ∷ m) h =
    rw (ne_eqb v u (λ e. absurd (omega (arith, e)))) (omega (arith, exponent-before u (suc v) m (omega arith)))

-- a pair of an earlier variable changes nothing
pub exponents-after : (v n u k : ℕ) (ps : Pairs) → u < v → exponents_from v n ((u, k) ∷ ps) ≡ exponents_from v n ps
exponents-after v zero u k ps h = refl
exponents-after v (suc n) u k ps h =
    let e : eqb u v ≡ false = ne_eqb u v (λ q. absurd (omega (arith, q))) in
    let z : 0 + exponent v ps ≡ exponent v ps = omega arith in
    let ih : exponents_from (suc v) n ((u, k) ∷ ps) ≡ exponents_from (suc v) n ps = exponents-after (suc v) n u k ps (omega arith) in
    rw (e, z, ih) refl

-- the exponents of the pairs are the vector
pub pairs-vector : (v : ℕ) (m : List ℕ) → exponents_from v (length m) (pairs_from v m) ≡ m
pairs-vector v [] = refl
pairs-vector v (zero ∷ m) =
    let e : exponent v (pairs_from (suc v) m) ≡ 0 = exponent-before v (suc v) m (omega arith) in
    let t : exponents_from (suc v) (length m) (pairs_from (suc v) m) ≡ m = pairs-vector (suc v) m in
    rw (e, t) refl
pairs-vector v (suc k ∷ m) =
    let s : eqb v v ≡ true = eq-eqb v v refl in
    let e : exponent v (pairs_from (suc v) m) ≡ 0 = exponent-before v (suc v) m (omega arith) in
    let b : exponents_from (suc v) (length m) ((v, suc k) ∷ pairs_from (suc v) m) ≡ exponents_from (suc v) (length m) (pairs_from (suc v) m) =
    exponents-after (suc v) (length m) v (suc k) (pairs_from (suc v) m) (omega arith) in
    let t : exponents_from (suc v) (length m) (pairs_from (suc v) m) ≡ m = pairs-vector (suc v) m in
    rw (s, e, b, t) (ap (λ (j : ℕ). j ∷ m) (plain (suc k))) where
      plain : (i : ℕ) → i + 0 ≡ i
      plain i = omega arith
