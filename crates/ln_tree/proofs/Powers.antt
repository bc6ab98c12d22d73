-- Exponents of pairs, one by one and as a vector.
use Rattle.std.proofs.Common.{◌≡◌, ℕ, ◌+◌, ◌<◌, zero, suc, refl, ◌∙◌, ap, subst, arith, [], ◌∷◌, length, take, get_or, true, false, eqb}
use Rattle.std.proofs.Common.{eq-eqb, add-one, if◌then◌else◌}
use Rattle.std.proofs.lemmas.Bool.Decides.{nat_tests}
use Rattle.ln_tree.specs.Exps.{AllAbove, IsRising, Pairs, exponent, exponents_from, vector, IsAbove}

-- what one pair adds to the exponent of v
abbrev pub power : ℕ → ℕ × ℕ → ℕ
power v p = if eqb p.0 v then p.1 else 0

apart : (x y : ℕ) → (x ≡ y → ⊥) → eqb x y ≡ false
apart x y h = grind (arith, nat_tests)

-- a pair of v adds its exponent to that of v
pub power-here : (v : ℕ) (p : ℕ × ℕ) → p.0 ≡ v → power v p ≡ p.1
power-here v p e = let t : eqb p.0 v ≡ true = eq-eqb p.0 v e in rw t refl

-- a pair of another variable adds nothing to the exponent of v
pub power-apart : (v : ℕ) (p : ℕ × ℕ) → (p.0 ≡ v → ⊥) → power v p ≡ 0
power-apart v p h = let t : eqb p.0 v ≡ false = apart p.0 v h in rw t refl

-- a pair more
pub exponent-more : (v : ℕ) (ps : Pairs) (i : ℕ) → i < length ps → exponent v (take (i + 1) ps) ≡ exponent v (take i ps) + power v (get_or ps i (0, 0))
exponent-more v [] i h = absurd (omega arith)
exponent-more v (p ∷ ps) zero h = omega arith
exponent-more v (p ∷ ps) (suc i) h =
    let ih : exponent v (take (suc i) ps) ≡ exponent v (take i ps) + power v (get_or ps i (0, 0)) = rw add-one at (exponent-more v ps i (omega arith)) in
    rw add-one (omega (arith, ih))

-- where all pairs are above w, so is the variable of the pair at each place
pub above-at : (w : ℕ) (ps : Pairs) (i : ℕ) → i < length ps → AllAbove w ps → w < (get_or ps i (0, 0)).0
above-at w [] i h a = absurd (omega arith)
above-at w (p ∷ ps) zero h a = a.0
above-at w (p ∷ ps) (suc i) h a = above-at w ps i (omega arith) a.1

-- the variables before a place are below the one at the place, where the pairs rise
pub above-take : (ps : Pairs) (i : ℕ) → IsRising ps → i < length ps → IsAbove (take i ps) (get_or ps i (0, 0)).0
above-take [] i r h = absurd (omega arith)
above-take (p ∷ ps) zero r h = tt
above-take (p ∷ ps) (suc i) r h = (above-at p.0 ps i (omega arith) r.2, above-take ps i r.3 (omega arith))

-- a variable below all pairs has none
pub all_above-none : (v : ℕ) (ps : Pairs) → AllAbove v ps → exponent v ps ≡ 0
all_above-none v [] a = refl
all_above-none v (p ∷ ps) a = omega (arith, power-apart v p (λ e. absurd (omega (arith, a.0))), all_above-none v ps a.1)

-- the exponent of a variable is that of its pair
pub found : (v : ℕ) (ps : Pairs) (i : ℕ) → IsRising ps → i < length ps → (get_or ps i (0, 0)).0 ≡ v → exponent v ps ≡ (get_or ps i (0, 0)).1
found v [] i r h e = absurd (omega arith)
found v (p ∷ ps) zero r h e = omega (arith, power-here v p e, all_above-none v ps (subst (λ z. AllAbove z ps) e r.2))
found v (p ∷ ps) (suc i) r h e =
    omega (arith, power-apart v p (λ q. absurd (omega (arith, above-at p.0 ps i (omega arith) r.2))), found v ps i r.3 (omega arith) e)

-- the exponent of each of rising pairs is below 128
pub small-at : (ps : Pairs) (i : ℕ) → IsRising ps → i < length ps → (get_or ps i (0, 0)).1 < 128
small-at [] i r h = absurd (omega arith)
small-at (p ∷ ps) zero r h = r.1
small-at (p ∷ ps) (suc i) r h = small-at ps i r.3 (omega arith)

-- ---- the vector
from-get : (n v w : ℕ) (ps : Pairs) → w < n → get_or (exponents_from v n ps) w 0 ≡ exponent (v + w) ps
from-get zero v w ps h = absurd (omega arith)
from-get (suc n) v zero ps h = ap (λ z. exponent z ps) (omega arith)
from-get (suc n) v (suc w) ps h = from-get n (suc v) w ps (omega arith) ∙ ap (λ z. exponent z ps) (omega arith)

-- its entries are the exponents
pub vector-get : (n w : ℕ) (ps : Pairs) → w < n → get_or (vector n ps) w 0 ≡ exponent w ps
vector-get n w ps h = from-get n 0 w ps h ∙ ap (λ z. exponent z ps) (omega arith)

from-length : (n v : ℕ) (ps : Pairs) → length (exponents_from v n ps) ≡ n
from-length zero v ps = refl
from-length (suc n) v ps = omega (arith, from-length n (suc v) ps)

-- the vector of pairs over n variables has n entries
pub vector-length : (n : ℕ) (ps : Pairs) → length (vector n ps) ≡ n
vector-length n ps = from-length n 0 ps
