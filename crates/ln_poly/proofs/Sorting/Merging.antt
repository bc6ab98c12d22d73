-- The pairs of two lists, merged.
use Rattle.std.proofs.Common.{◌≡◌, ℕ, ◌+◌, ◌<◌, ◌≤◌, zero, suc, refl, sym, ap, arith, [], ◌∷◌, ◌++◌, length, get_or, Bool, true}
use Rattle.std.proofs.Common.{false, if◌then◌else◌, eqb, eq-eqb, subst, take}
use Rattle.std.proofs.lemmas.Bool.{cases_lt, ne_eqb}
use Rattle.std.proofs.lemmas.List.{take_all}
use mathlib.Core.Logic.{◌⊎◌, inl, inr}
use Rattle.ln_tree.specs.Exps.{IsAbove, IsRising, Pairs, exponent}
use Rattle.ln_tree.proofs.Powers.{above-at, exponent-more, power-here}
use Rattle.ln_poly.specs.Times.{IsLowest, IsMerged, IsPassed, IsTimes, power_at, variable_at}

-- ---- one list
-- a variable comes before those behind it
rises-at : (ps : Pairs) (i j : ℕ) → IsRising ps → i < j → j < length ps → variable_at ps i < variable_at ps j
rises-at [] i j r h l = absurd (omega (arith, l))
rises-at (p ∷ ps) i zero r h l = absurd (omega (arith, h))
rises-at (p ∷ ps) zero (suc j) r h l = above-at p.0 ps j (omega (arith, l)) r.2
rises-at (p ∷ ps) (suc i) (suc j) r h l = rises-at ps i j r.3 (omega (arith, h)) (omega (arith, l))

-- each exponent of rising pairs is above 0
pub positive-at : (ps : Pairs) (i : ℕ) → IsRising ps → i < length ps → 0 < (get_or ps i (0, 0)).1
positive-at [] i r h = absurd (omega arith)
positive-at (p ∷ ps) zero r h = r.0
positive-at (p ∷ ps) (suc i) r h = positive-at ps i r.3 (omega arith)

module _ (ps : Pairs) (i v : ℕ) where
  -- nothing is passed where another variable is at the place
  pub none-passed : i ≤ length ps → (i < length ps → v ≤ variable_at ps i) → (i < length ps → variable_at ps i ≡ v → ⊥) → IsPassed ps i v 0 i
  none-passed l h n = record {
    within = l;
    exponents = λ w. omega (arith, nothing (eqb v w));
    above = λ k. omega (arith, h k, n k);
    some = λ k e. absurd (n k e);
    further = omega arith;
  } where
    nothing : (z : Bool) → ◌≡◌ {A = ℕ} (if z then 0 else 0) 0
    nothing true = refl
    nothing false = refl

  -- the pair at the place is passed
  pub one-passed : IsRising ps → i < length ps → variable_at ps i ≡ v → IsPassed ps i v (get_or ps i (0, 0)).1 (i + 1)
  one-passed r h e = subst (λ z. IsPassed ps i z (get_or ps i (0, 0)).1 (i + 1)) e (record {
    within = omega (arith, h);
    exponents = λ w. exponent-more w ps i h;
    above = rises-at ps i (i + 1) r (omega arith);
    some = λ k q. (positive-at ps i r h, omega arith);
    further = omega arith;
  })

-- the first pairs have no larger exponent than all
exponent-take : (v k : ℕ) (ps : Pairs) → exponent v (take k ps) ≤ exponent v ps
exponent-take v zero ps = omega arith
exponent-take v (suc k) [] = omega arith
exponent-take v (suc k) (p ∷ ps) = omega (arith, exponent-take v k ps)

passed-small : (ps : Pairs) (i v e j : ℕ) → IsPassed ps i v e j → e ≤ exponent v ps
passed-small ps i v e j p = omega (arith, p.exponents v, power-here v (v, e) refl, exponent-take v j ps)

-- ---- out
above-push : (out : Pairs) (v e u : ℕ) → v < u → IsAbove out v → IsAbove (out ++ (v, e) ∷ []) u
above-push [] v e u h a = (h, tt)
above-push (p ∷ out) v e u h a = (omega (arith, h, a.0), above-push out v e u h a.1)

-- an appended pair adds its exponent to that of its variable
pub exponent-push : (w : ℕ) (xs : Pairs) (p : ℕ × ℕ) → exponent w (xs ++ (p ∷ [])) ≡ exponent w xs + power_at w p
exponent-push w [] p = omega arith
exponent-push w (x ∷ xs) p = omega (arith, exponent-push w xs p)

-- ---- both lists
module _ (out a b : Pairs) (i j v : ℕ) (m : IsMerged out a b i j) (l : IsLowest a b i j v) where
  -- the lowest variable is above what is out
  pub lowest-above : IsAbove out v
  lowest-above = by_case l.one where
    by_case : ((i < length a) × (variable_at a i ≡ v)) ⊎ ((j < length b) × (variable_at b j ≡ v)) → IsAbove out v
    by_case (inl h) = subst (IsAbove out) h.1 (m.low_left h.0)
    by_case (inr h) = subst (IsAbove out) h.1 (m.low_right h.0)

  module _ (d e k n : ℕ) (p : IsPassed a i v d k) (q : IsPassed b j v e n) where
    -- it has an exponent
    pub sum-some : (0 < d + e) × (i + j < k + n)
    sum-some = by_case l.one where
      by_case : ((i < length a) × (variable_at a i ≡ v)) ⊎ ((j < length b) × (variable_at b j ≡ v)) → (0 < d + e) × (i + j < k + n)
      by_case (inl h) = let s = p.some h.0 h.1 in (omega (arith, s.0), omega (arith, s.1, q.further))
      by_case (inr h) = let s = q.some h.0 h.1 in (omega (arith, s.0), omega (arith, s.1, p.further))

    -- which isn't too large
    pub sum-small : exponent v a + exponent v b < 128 → d + e < 128
    sum-small h = omega (arith, passed-small a i v d k p, passed-small b j v e n q, h)

    -- it is appended
    pub merged-step : IsMerged (out ++ (v, d + e) ∷ []) a b k n
    merged-step = record {
      left = p.within;
      right = q.within;
      exponents = λ w. omega (arith, m.exponents w, p.exponents w, q.exponents w, exponent-push w out (v, d + e), add (eqb v w));
      low_left = λ h. above-push out v (d + e) (variable_at a k) (p.above h) lowest-above;
      low_right = λ h. above-push out v (d + e) (variable_at b n) (q.above h) lowest-above;
    } where
      add : (z : Bool) → (if z then d + e else 0) ≡ (if z then d else 0) + (if z then e else 0)
      add true = refl
      add false = refl

-- at the ends of both lists it is the product
pub merged-all : (out a b : Pairs) (i j : ℕ) → IsMerged out a b i j → length a ≤ i → length b ≤ j → IsRising out → IsTimes out a b
merged-all out a b i j m h k r = (λ w. omega (arith, m.exponents w, ap (exponent w) (take_all i a h), ap (exponent w) (take_all j b k)), r)

-- ---- variables
-- where all variables of the pairs are below k, each variable from k on has the exponent 0
pub above-none : (k v : ℕ) (ps : Pairs) → IsAbove ps k → k ≤ v → exponent v ps ≡ 0
above-none k v [] a h = refl
above-none k v (p ∷ ps) a h = rw (ne_eqb p.0 v (λ e. absurd (omega (arith, a.0, e)))) (omega (arith, above-none k v ps a.1 h))

-- where no variable from k on has an exponent, all variables of rising pairs are below k
pub none-above : (k : ℕ) (ps : Pairs) → IsRising ps → ((v : ℕ) → k ≤ v → exponent v ps ≡ 0) → IsAbove ps k
none-above k [] r h = tt
none-above k (p ∷ ps) r h = (first, none-above k ps r.3 (λ v l. omega (arith, h v l))) where
  first : p.0 < k
  first = let t : eqb p.0 p.0 ≡ true = eq-eqb p.0 p.0 refl in cases_lt' (cases_lt p.0 k) t where
    cases_lt' : (p.0 < k) ⊎ (k ≤ p.0) → eqb p.0 p.0 ≡ true → p.0 < k
    cases_lt' (inl l) t = l
    cases_lt' (inr g) t = let z : (if eqb p.0 p.0 then p.1 else 0) + exponent p.0 ps ≡ 0 = h p.0 g in absurd (omega (arith, rw t at z, r.0))
