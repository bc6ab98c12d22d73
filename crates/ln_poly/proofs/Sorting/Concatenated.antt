-- Pairs after others, all of whose variables are lower.
use Rattle.std.proofs.Common.{◌≡◌, ℕ, ◌+◌, ◌-◌, ◌<◌, zero, suc, sym, ◌∙◌, ap, subst, arith, [], ◌∷◌, ◌++◌, length, take, get_or}
use Rattle.std.proofs.Common.{true, nat_lt}
use Rattle.std.proofs.lemmas.Bool.{ltb-true}
use Rattle.ln_tree.specs.Exps.{IsAbove, IsRising, Pairs, exponent}
use Rattle.ln_tree.proofs.Powers.{above-at, above-take}
use Rattle.ln_tree.proofs.Monomials.{above-lower}
use Rattle.ln_poly.specs.Times.{AreLow, IsTimes}

-- where one has no pair
pub low-none : (a b : Pairs) → length b ≡ 0 → AreLow a b
low-none [] b e = tt
low-none (p ∷ a) [] e = (tt, low-none a [] e)
low-none (p ∷ a) (q ∷ b) e = absurd (omega (arith, e))

-- a first list without a pair is below any second one
pub none-low : (a b : Pairs) → length a ≡ 0 → AreLow a b
none-low [] b e = tt
none-low (p ∷ a) b e = absurd (omega (arith, e))

-- the last of the first is below the first of the second
low-last : (a b : Pairs) (i : ℕ) → IsRising a → IsRising b → length a ≡ i + 1 → 0 < length b → (get_or a i (0, 0)).0 < (get_or b 0 (0, 0)).0 → AreLow a b
low-last [] b i r s h k l = tt
low-last (p ∷ a) [] i r s h k l = absurd (omega arith)
low-last (p ∷ []) (q ∷ b) zero r s h k l = ((l, above-lower p.0 q.0 b l s.2), tt)
low-last (p ∷ []) (q ∷ b) (suc i) r s h k l = absurd (omega (arith, h))
low-last (p ∷ o ∷ a) (q ∷ b) zero r s h k l = absurd (omega (arith, h))
low-last (p ∷ o ∷ a) (q ∷ b) (suc i) r s h k l =
    let rest : AreLow (o ∷ a) (q ∷ b) = low-last (o ∷ a) (q ∷ b) i r.3 s (omega (arith, h)) k l in
    let before : p.0 < q.0 = omega (arith, r.2.0, rest.0.0) in
    ((before, above-lower p.0 q.0 b before s.2), rest)

-- the test in `are_low`: where the last variable of the first is below the first of the second, each is below each
pub low-tested : (a b : Pairs) → IsRising a → IsRising b → 0 < length a → 0 < length b
    → nat_lt (get_or a (length a - 1) (0, 0)).0 (get_or b 0 (0, 0)).0 ≡ true → AreLow a b
low-tested a b r s h k t = low-last a b (length a - 1) r s (omega (arith, h)) k (ltb-true (get_or a (length a - 1) (0, 0)).0 (get_or b 0 (0, 0)).0 t)

-- what is out so far is below the next pair
above-more : (a b : Pairs) (i : ℕ) → AreLow a b → IsRising b → i < length b → IsAbove a (get_or b i (0, 0)).0
above-more [] b i l r h = tt
above-more (p ∷ a) b i l r h = (above-at p.0 b i h l.0, above-more a b i l.1 r h)

above-append : (a b : Pairs) (v : ℕ) → IsAbove a v → IsAbove b v → IsAbove (a ++ b) v
above-append [] b v h k = k
above-append (p ∷ a) b v h k = (h.0, above-append a b v h.1 k)

-- in `concatenated` all pairs so far are below the next one
pub concatenated-above : (out a b : Pairs) (i : ℕ) → out ≡ a ++ take i b → AreLow a b → IsRising b → i < length b → IsAbove out (get_or b i (0, 0)).0
concatenated-above out a b i e l r h =
    subst (λ z. IsAbove z (get_or b i (0, 0)).0) (sym e) (above-append a (take i b) (get_or b i (0, 0)).0 (above-more a b i l r h) (above-take b i r h))

-- ---- the product
exponent-append : (v : ℕ) (a b : Pairs) → exponent v (a ++ b) ≡ exponent v a + exponent v b
exponent-append v [] b = omega arith
exponent-append v (p ∷ a) b = omega (arith, exponent-append v a b)

-- the exponents of one list of pairs followed by another are the sums of those of both
pub concatenated-times : (e a b : Pairs) → (e ≡ a ++ b) × IsRising e → IsTimes e a b
concatenated-times e a b r = (λ v. ap (exponent v) r.0 ∙ exponent-append v a b, r.1)

-- the same where the second list comes first
pub turned-times : (e a b : Pairs) → (e ≡ b ++ a) × IsRising e → IsTimes e a b
turned-times e a b r = (λ v. let q : exponent v e ≡ exponent v b + exponent v a = (concatenated-times e b a r).0 v in omega (arith, q), r.1)
