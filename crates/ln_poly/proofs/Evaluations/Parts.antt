-- What the pairs of a monomial add to a scaled derivative.
use Rattle.std.proofs.Common.{◌≡◌, ℕ, ◌+◌, ◌-◌, ◌*◌, ◌<◌, ◌≤◌, zero, suc, refl, sym, ◌∙◌, ap, subst, arith, List, [], ◌∷◌, length, get_or}
use Rattle.std.proofs.Common.{Bool, true, false, leb, ◌⊎◌, inl, inr}
use Rattle.std.proofs.Math.IntN.{ℤ, pos, ◌+ℤ◌, ◌*ℤ◌}
use Rattle.std.proofs.lemmas.Bool.{and_parts, and_right, cases_eq, le-leb, leb-true, lt-leb}
use Rattle.std.proofs.lemmas.Int.{ints}
use Rattle.ln_algebra.proofs.Expanded.Ring.{four, mul_assoc, mul_one, one_mul}
use Rattle.ln_algebra.specs.Terms.{Term, binomial, binomials, covers, derived, minus, monomial, power_of, value}
use Rattle.ln_tree.specs.Exps.{AllAbove, IsAbove, IsRising, Pairs, exponent, exponents_from, vector}
use Rattle.ln_tree.proofs.Powers.{all_above-none, power-apart, power-here}
use Rattle.ln_poly.specs.Values.{part, parts, term_value}
use Rattle.ln_poly.proofs.TermLists.Vectors.{exponents-after}

-- the pairs begin at v or after it
abbrev From : ℕ → Pairs → Type 0
From v [] = Unit {0}
From v (p ∷ ps) = v ≤ p.0

from-above : (v w : ℕ) (ps : Pairs) → v ≤ suc w → AllAbove w ps → From v ps
from-above v w [] h a = tt
from-above v w (p ∷ ps) h a = omega (arith, a.0)

-- no exponent is needed where none is there
nothing : (y : ℤ) (e k : ℕ) → e ≡ 0 → leb k e ≡ true → pos (binomial e k) *ℤ power_of y (e - k) ≡ pos 1
nothing y e zero h c = rw h refl
nothing y zero (suc k) h c = absurd (omega (arith, leb-true (suc k) zero c))
nothing y (suc e) (suc k) h c = absurd (omega (arith, h))

step : (y : ℤ) (e k B : ℕ) (M R : ℤ) → pos B *ℤ M ≡ R → pos (binomial e k * B) *ℤ (power_of y (e - k) *ℤ M) ≡ (pos (binomial e k) *ℤ power_of y (e - k)) *ℤ R
step y e k B M R h = four (pos (binomial e k)) (pos B) (power_of y (e - k)) M ∙ ap (λ z. (pos (binomial e k) *ℤ power_of y (e - k)) *ℤ z) h

-- what the other variables of a monomial add
abbrev SaysRest : (ℕ → ℤ) → (ℕ → ℤ) → Pairs → List ℕ → Pairs → List ℕ → Type 0
SaysRest x y a below qs m = pos (binomials m below) *ℤ monomial (λ u. y (suc u)) (minus m below) ≡ parts x a qs

-- where a monomial covers a, its binomials times the monomial that remains are the product of its pairs' parts
pub vector-parts : (x y : ℕ → ℤ) (a : Pairs) (v n : ℕ) (ps : Pairs) → ((u : ℕ) → y u ≡ x (v + u)) → From v ps → IsRising ps → IsAbove ps (v + n) →
    covers (exponents_from v n ps) (exponents_from v n a) ≡ true →
    pos (binomials (exponents_from v n ps) (exponents_from v n a)) *ℤ monomial y (minus (exponents_from v n ps) (exponents_from v n a)) ≡ parts x a ps
vector-parts x y a v zero [] s f r b c = refl
vector-parts x y a v zero (p ∷ ps) s f r b c = absurd (omega (arith, f, b.0))
vector-parts x y a v (suc n) [] s f r b c =
    let k : ℕ = exponent v a in
    let q = and_parts (leb k 0) (covers (exponents_from (suc v) n []) (exponents_from (suc v) n a)) c in
    let ih : pos (binomials (exponents_from (suc v) n []) (exponents_from (suc v) n a))
    *ℤ monomial (λ u. y (suc u)) (minus (exponents_from (suc v) n []) (exponents_from (suc v) n a)) ≡ pos 1 =
    vector-parts x (λ u. y (suc u)) a (suc v) n [] (λ u. s (suc u) ∙ ap x (omega arith)) tt tt tt q.1 in
    step (y 0) 0 k _ _ (pos 1) ih ∙ mul_one _ ∙ nothing (y 0) 0 k refl q.0
vector-parts x y a v (suc n) (p ∷ ps) s f r b c = by_case (cases_eq p.0 v)
    (λ o. vector-parts x (λ u. y (suc u)) a (suc v) n ps (λ u. s (suc u) ∙ ap x (omega arith))
    (from-above (suc v) p.0 ps (omega arith) r.2) r.3 (subst (IsAbove ps) (omega arith) b.1))
    (λ g h. vector-parts x (λ u. y (suc u)) a (suc v) n (p ∷ ps) (λ u. s (suc u) ∙ ap x (omega arith)) g r (subst (IsAbove (p ∷ ps)) (omega arith) b) h)
  where
    E : ℕ
    E = exponent v (p ∷ ps)

    k : ℕ
    k = exponent v a

    rest : List ℕ
    rest = exponents_from (suc v) n (p ∷ ps)

    below : List ℕ
    below = exponents_from (suc v) n a

    q : (leb k E ≡ true) × (covers rest below ≡ true)
    q = and_parts (leb k E) (covers rest below) c

    by_case : (p.0 ≡ v) ⊎ (p.0 ≡ v → ⊥) → (Unit {0} → covers (exponents_from (suc v) n ps) below ≡ true → SaysRest x y a below ps (exponents_from (suc v) n ps))
        → (suc v ≤ p.0 → covers rest below ≡ true → SaysRest x y a below (p ∷ ps) rest)
        → pos (binomials (E ∷ rest) (k ∷ below)) *ℤ monomial y (minus (E ∷ rest) (k ∷ below)) ≡ parts x a (p ∷ ps)
    by_case (inl o) ih other =
        let t : rest ≡ exponents_from (suc v) n ps = exponents-after (suc v) n p.0 p.1 ps (omega (arith, o)) in
        let j : covers (exponents_from (suc v) n ps) below ≡ true = ap (λ m. covers m below) (sym t) ∙ q.1 in
        let i : SaysRest x y a below ps rest = subst (SaysRest x y a below ps) (sym t) (ih tt j) in
        let e : E ≡ p.1 = omega (arith, power-here v p o, all_above-none v ps (subst (λ z. AllAbove z ps) o r.2)) in
        let w : k ≡ exponent p.0 a = ap (λ z. exponent z a) (sym o) in
        let z : y 0 ≡ x p.0 = s 0 ∙ ap x (omega (arith, o)) in
        let d : pos (binomial E k) *ℤ power_of (y 0) (E - k) ≡ part x a p = ap (λ u. pos (binomial u k) *ℤ power_of (y 0) (u - k)) e
        ∙ ap (λ u. pos (binomial p.1 u) *ℤ power_of (y 0) (p.1 - u)) w ∙ ap (λ u. pos (binomial p.1 (exponent p.0 a)) *ℤ power_of u (p.1 - exponent p.0 a)) z in
        step (y 0) E k (binomials rest below) (monomial (λ u. y (suc u)) (minus rest below)) (parts x a ps) i ∙ ap (λ u. u *ℤ parts x a ps) d
    by_case (inr o) ih other =
        let g : suc v ≤ p.0 = omega (arith, o, f) in
        let i : SaysRest x y a below (p ∷ ps) rest = other g q.1 in
        let e : E ≡ 0 = omega (arith, power-apart v p o, all_above-none v ps (above-more v p.0 ps (omega arith) r.2)) in
        step (y 0) E k (binomials rest below) (monomial (λ u. y (suc u)) (minus rest below)) (parts x a (p ∷ ps)) i
        ∙ ap (λ u. u *ℤ parts x a (p ∷ ps)) (nothing (y 0) E k e q.0) ∙ one_mul (parts x a (p ∷ ps))
      where
        above-more : (v w : ℕ) (ps : Pairs) → v ≤ w → AllAbove w ps → AllAbove v ps
        above-more v w [] h a = tt
        above-more v w (p ∷ ps) h a = (omega (arith, a.0), above-more v w ps h a.1)

-- ---- covering, pair by pair
covers-more : (v n : ℕ) (m a : Pairs) → ((u : ℕ) → exponent u a ≤ exponent u m) → covers (exponents_from v n m) (exponents_from v n a) ≡ true
covers-more v zero m a h = refl
covers-more v (suc n) m a h =
    rw (le-leb (exponent v a) (exponent v m) (h v), covers-more (suc v) n m a h) refl

covers-less : (v n u : ℕ) (m a : Pairs) → v ≤ u → u < v + n → exponent u m < exponent u a → covers (exponents_from v n m) (exponents_from v n a) ≡ false
covers-less v zero u m a h l d = absurd (omega arith)
covers-less v (suc n) u m a h l d = by_case (cases_eq v u) (λ g. covers-less (suc v) n u m a g (omega arith) d) where
  by_case : (v ≡ u) ⊎ (v ≡ u → ⊥) → (suc v ≤ u → covers (exponents_from (suc v) n m) (exponents_from (suc v) n a) ≡ false)
      → covers (exponents_from v (suc n) m) (exponents_from v (suc n) a) ≡ false
  by_case (inl o) ih =
      let t : leb (exponent v a) (exponent v m) ≡ false = lt-leb (exponent v a) (exponent v m) (subst (λ z. exponent z m < exponent z a) (sym o) d) in
      rw t refl
  by_case (inr o) ih = rw (ih (omega (arith, o))) (and_right (leb (exponent v a) (exponent v m)) false refl)

-- what is covered has no larger exponent
pub covered-at : (v n u : ℕ) (m a : Pairs) → v ≤ u → u < v + n → covers (exponents_from v n m) (exponents_from v n a) ≡ true → exponent u a ≤ exponent u m
covered-at v zero u m a h l c = absurd (omega arith)
covered-at v (suc n) u m a h l c = by_case (cases_eq v u) (λ g. covered-at (suc v) n u m a g (omega arith)) where
  q : (leb (exponent v a) (exponent v m) ≡ true) × (covers (exponents_from (suc v) n m) (exponents_from (suc v) n a) ≡ true)
  q = and_parts (leb (exponent v a) (exponent v m)) (covers (exponents_from (suc v) n m) (exponents_from (suc v) n a)) c

  by_case : (v ≡ u) ⊎ (v ≡ u → ⊥) → (suc v ≤ u → covers (exponents_from (suc v) n m) (exponents_from (suc v) n a) ≡ true → exponent u a ≤ exponent u m)
      → exponent u a ≤ exponent u m
  by_case (inl o) ih = subst (λ z. exponent z a ≤ exponent z m) o (leb-true (exponent v a) (exponent v m) q.0)
  by_case (inr o) ih = ih (omega (arith, o)) q.1

-- the first i pairs of a pass
abbrev pub Pass : Pairs → Pairs → ℕ → Type 0
Pass m a i = (j : ℕ) → j < i → (get_or a j (0, 0)).1 ≤ exponent (get_or a j (0, 0)).0 m

all-pass : (m a : Pairs) → IsRising a → Pass m a (length a) → (v : ℕ) → exponent v a ≤ exponent v m
all-pass m [] r h v = omega arith
all-pass m (q ∷ a) r h v = by_case (cases_eq q.0 v) (all-pass m a r.3 (λ j l. h (suc j) (omega (arith, l))) v) where
  by_case : (q.0 ≡ v) ⊎ (q.0 ≡ v → ⊥) → exponent v a ≤ exponent v m → exponent v (q ∷ a) ≤ exponent v m
  by_case (inl o) ih =
      let i : q.1 ≤ exponent v m = subst (λ z. q.1 ≤ exponent z m) o (h 0 (omega arith)) in
      omega (arith, i, power-here v q o, all_above-none v a (subst (λ z. AllAbove z a) o r.2))
  by_case (inr o) ih = omega (arith, ih, power-apart v q o)

-- where each pair of a passes, the monomial covers a
pub passed : (n : ℕ) (m a : Pairs) → IsRising a → Pass m a (length a) → covers (vector n m) (vector n a) ≡ true
passed n m a r h = covers-more 0 n m a (all-pass m a r h)

-- where the exponent of one variable is below that in a, the monomial doesn't cover a
pub failed : (n : ℕ) (m a : Pairs) (q : ℕ × ℕ) → q.0 < n → exponent q.0 a ≡ q.1 → exponent q.0 m < q.1 → covers (vector n m) (vector n a) ≡ false
failed n m a q l e h = covers-less 0 n q.0 m a (omega arith) (omega arith) (omega (arith, e, h))

-- ---- a term
-- with one term more, that term's own part is added to the value of the derivative
pub term-adds : (n : ℕ) (x : ℕ → ℤ) (a : Pairs) (t : Pairs × ℤ) (f : List Term) → IsRising t.0 → IsAbove t.0 n →
    value x (derived (vector n a) (record { exponents = vector n t.0; factor = t.1 } ∷ f)) ≡ term_value n x a t +ℤ value x (derived (vector n a) f)
term-adds n x a t f r b = by_case (covers (vector n t.0) (vector n a)) refl where
  by_case : (c : Bool) → covers (vector n t.0) (vector n a) ≡ c →
      value x (derived (vector n a) (record { exponents = vector n t.0; factor = t.1 } ∷ f)) ≡ term_value n x a t +ℤ value x (derived (vector n a) f)
  by_case false c = rw c (omega (arith, ints))
  by_case true c =
      let m : List ℕ = minus (vector n t.0) (vector n a) in
      let B : ℤ = pos (binomials (vector n t.0) (vector n a)) in
      let q : (t.1 *ℤ B) *ℤ monomial x m ≡ t.1 *ℤ parts x a t.0 = mul_assoc t.1 B (monomial x m) ∙ ap (λ z. t.1 *ℤ z)
      (vector-parts x x a 0 n t.0 (λ u. ap x (omega arith)) (from-zero t.0) r (subst (IsAbove t.0) (let z : n ≡ 0 + n = omega arith in z) b) c) in
      rw c (omega (arith, ints, q)) where
        from-zero : (ps : Pairs) → From 0 ps
        from-zero [] = tt
        from-zero (p ∷ ps) = omega arith
