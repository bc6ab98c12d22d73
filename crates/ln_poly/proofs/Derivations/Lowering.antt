-- The exponent of one variable, lowered.
use Rattle.std.proofs.Common.{◌≡◌, ℕ, ◌+◌, ◌-◌, ◌<◌, ◌≤◌, ◌^◌, zero, suc, refl, sym, ◌∙◌, ap, subst, arith, List, [], ◌∷◌, ◌++◌, length, take, get_or}
use Rattle.std.proofs.lemmas.Bool.{cases_eq}
use Rattle.std.proofs.lemmas.List.{get_or_append_left, get_or_at, get_or-set_other}
use Rattle.std.proofs.lemmas.Grind.{get_or-set_at}
use Rattle.std.proofs.Math.ListN.{set}
use mathlib.Core.Logic.{◌⊎◌, inl, inr}
use Rattle.std.proofs.Math.IntN.{ℤ}
use Rattle.std.proofs.Math.Nat.{pow-zero, pow-suc, pow-le-pow_right}
use Rattle.std.proofs.lemmas.Nat.{pow_pos}
use Rattle.ln_algebra.specs.Terms.{binomial}
use Rattle.ln_algebra.proofs.Deriving.Derived.{binomial-above}
use Rattle.ln_tree.specs.Exps.{IsAbove, IsRising, Pairs, exponent}
use Rattle.ln_tree.proofs.Pairs.{rising-push}
use Rattle.ln_tree.proofs.Powers.{exponent-more, power-apart, power-here, small-at, above-take}
use Rattle.ln_poly.specs.Lean.{largest}
use Rattle.ln_poly.specs.Sparse.{Sparse}
use Rattle.ln_poly.specs.Times.{power_at}
use Rattle.ln_poly.specs.Derivative.{IsColumn, IsLowering}
use Rattle.ln_poly.proofs.Sorting.Merging.{above-none, exponent-push, none-above}
use Rattle.ln_poly.proofs.Derivations.Combined.{binomial-none}

-- ---- lowering
-- what is lowered and out is below the next pair
pub lowering-above : (out ps : Pairs) (v n i : ℕ) → IsLowering out ps v n i → IsRising ps → i < length ps → IsAbove out (get_or ps i (0, 0)).0
lowering-above out ps v n i r s h = none-above (get_or ps i (0, 0)).0 out r.rising
    (λ u l. omega (arith, r.exponents u, above-none (get_or ps i (0, 0)).0 u (take i ps) (above-take ps i s h) l))

-- an exponent below 128 stays below it, lowered or kept
pub lowered-small : (p : ℕ × ℕ) (v n k : ℕ) → p.1 < 128 → (p.0 ≡ v → k + n ≡ p.1) → ((p.0 ≡ v → ⊥) → k ≡ p.1) → k < 128
lowered-small p v n k h a b = by_case (cases_eq p.0 v) where
  by_case : (p.0 ≡ v) ⊎ (p.0 ≡ v → ⊥) → k < 128
  by_case (inl e) = omega (arith, a e)
  by_case (inr e) = omega (arith, b e)

lowering-core : (x t : ℕ) (p : ℕ × ℕ) (k v n u : ℕ) → x ≡ t - power_at u (v, n) → (p.0 ≡ u → t ≡ 0) → (p.0 ≡ v → k + n ≡ p.1)
    → ((p.0 ≡ v → ⊥) → k ≡ p.1) → x + power_at u (p.0, k) ≡ (t + power_at u p) - power_at u (v, n)
lowering-core x t p k v n u e z a b = by_case (cases_eq p.0 u) (cases_eq v u) where
  by_case : (p.0 ≡ u) ⊎ (p.0 ≡ u → ⊥) → (v ≡ u) ⊎ (v ≡ u → ⊥) → x + power_at u (p.0, k) ≡ (t + power_at u p) - power_at u (v, n)
  by_case (inl f) (inl g) = omega (arith, e, z f, a (f ∙ sym g), power-here u (p.0, k) f, power-here u p f, power-here u (v, n) g)
  by_case (inl f) (inr g) = omega (arith, e, b (λ q. g (sym q ∙ f)), power-here u (p.0, k) f, power-here u p f, power-apart u (v, n) g)
  by_case (inr f) (inl g) = omega (arith, e, power-apart u (p.0, k) f, power-apart u p f, power-here u (v, n) g)
  by_case (inr f) (inr g) = omega (arith, e, power-apart u (p.0, k) f, power-apart u p f, power-apart u (v, n) g)

lowering-next : (out ps : Pairs) (v n i k u : ℕ) → IsLowering out ps v n i → IsRising ps → i < length ps
    → ((get_or ps i (0, 0)).0 ≡ v → k + n ≡ (get_or ps i (0, 0)).1) → (((get_or ps i (0, 0)).0 ≡ v → ⊥) → k ≡ (get_or ps i (0, 0)).1)
    → exponent u out + power_at u ((get_or ps i (0, 0)).0, k) ≡ exponent u (take (i + 1) ps) - power_at u (v, n)
lowering-next out ps v n i k u r s h a b =
    lowering-core (exponent u out) (exponent u (take i ps)) (get_or ps i (0, 0)) k v n u (r.exponents u)
    (λ e. above-none (get_or ps i (0, 0)).0 u (take i ps) (above-take ps i s h) (omega arith)) a b
    ∙ ap (λ z. z - power_at u (v, n)) (sym (exponent-more u ps i h))

-- the step of `lowered` where an exponent remains: the pair is appended with it
pub lowering-push : (out ps : Pairs) (v n i k : ℕ) → IsLowering out ps v n i → IsRising ps → i < length ps
    → ((get_or ps i (0, 0)).0 ≡ v → k + n ≡ (get_or ps i (0, 0)).1) → (((get_or ps i (0, 0)).0 ≡ v → ⊥) → k ≡ (get_or ps i (0, 0)).1)
    → 0 < k → IsLowering (out ++ (((get_or ps i (0, 0)).0, k) ∷ [])) ps v n (i + 1)
lowering-push out ps v n i k r s h a b l = record {
  exponents = λ u. exponent-push u out ((get_or ps i (0, 0)).0, k) ∙ lowering-next out ps v n i k u r s h a b;
  rising = rising-push out (get_or ps i (0, 0)).0 k r.rising (lowering-above out ps v n i r s h) l
      (lowered-small (get_or ps i (0, 0)) v n k (small-at ps i s h) a b);
}

no-power : (u w : ℕ) → power_at u (w, 0) ≡ 0
no-power u w = by_case (cases_eq w u) where
  by_case : (w ≡ u) ⊎ (w ≡ u → ⊥) → power_at u (w, 0) ≡ 0
  by_case (inl e) = power-here u (w, 0) e
  by_case (inr e) = power-apart u (w, 0) e

-- the step of `lowered` where no exponent remains: the pair is left out
pub lowering-skip : (out ps : Pairs) (v n i k : ℕ) → IsLowering out ps v n i → IsRising ps → i < length ps
    → ((get_or ps i (0, 0)).0 ≡ v → k + n ≡ (get_or ps i (0, 0)).1) → (((get_or ps i (0, 0)).0 ≡ v → ⊥) → k ≡ (get_or ps i (0, 0)).1)
    → k ≡ 0 → IsLowering out ps v n (i + 1)
lowering-skip out ps v n i k r s h a b l = record {
  exponents =
      λ u. omega (arith, lowering-next out ps v n i k u r s h a b, ap (λ z. power_at u ((get_or ps i (0, 0)).0, z)) l, no-power u (get_or ps i (0, 0)).0);
  rising = r.rising;
}

-- ---- binomials
-- two neighbouring binomials of n add up to at most 2^n
pub binomial-pair : (n k : ℕ) → binomial n k + binomial n (suc k) ≤ 2 ^ n
binomial-pair zero zero = rw pow-zero (omega arith)
binomial-pair zero (suc k) = omega arith
binomial-pair (suc n) zero = rw pow-suc (omega (arith, binomial-pair n 0, binomial-none n, pow_pos n))
binomial-pair (suc n) (suc k) = rw pow-suc (omega (arith, binomial-pair n k, binomial-pair n (suc k)))

-- at most 2^126 below 128
pub binomial-small : (e n : ℕ) → e < 128 → binomial e n ≤ 2 ^ 126
binomial-small zero zero h = omega arith
binomial-small zero (suc n) h = omega arith
binomial-small (suc e) zero h = omega arith
binomial-small (suc e) (suc n) h =
    let l : e ≤ 126 = omega arith in
    let z : 2 ^ e ≤ 2 ^ 126 = pow-le-pow_right (omega arith) l in
    omega (arith, z, binomial-pair e n)

-- by Pascal's rule
pascal : (k i : ℕ) → binomial (k + (i + 1)) (k + 1) ≡ binomial (k + i) k + binomial (k + i) (k + 1)
pascal k i = let e : k + (i + 1) ≡ suc (k + i) = omega arith in let f : k + 1 ≡ suc k = omega arith in rw (e, f) refl

-- a sum with the next binomial is below 2^127
pub raised-small : (k i n a b : ℕ) → i < n → n ≤ 127 - k → a ≡ binomial (k + i) (k + 1) → b ≡ binomial (k + i) k → a + b ≤ 2 ^ 126
raised-small k i n a b h l p q =
    let s : k + i ≤ 126 = omega (arith, h, l) in
    let z : 2 ^ (k + i) ≤ 2 ^ 126 = pow-le-pow_right (omega arith) s in
    let f : k + 1 ≡ suc k = omega arith in
    let r : a ≡ binomial (k + i) (suc k) = rw f at p in
    omega (arith, r, q, z, binomial-pair (k + i) k)

-- no sum is there at first
pub raised-none : (k : ℕ) → 0 ≡ binomial (k + 0) (k + 1)
raised-none k = sym (binomial-above (k + 0) (k + 1) (omega arith))

-- the sum of one more is the next binomial
pub raised-sum : (k i a b : ℕ) → a ≡ binomial (k + i) (k + 1) → b ≡ binomial (k + i) k → a + b ≡ binomial (k + (i + 1)) (k + 1)
raised-sum k i a b p q = omega (arith, p, q, pascal k i)

-- it is written
pub raised-done : (c : List ℕ) (k i x : ℕ) → i < length c → x ≡ binomial (k + (i + 1)) (k + 1) → ((j : ℕ) → j < i → get_or c j 0 ≡ binomial (k + 1 + j) (k + 1))
    → (j : ℕ) → j < i + 1 → get_or (set c i x) j 0 ≡ binomial (k + 1 + j) (k + 1)
raised-done c k i x l e h j b = by_case (cases_eq j i) where
  by_case : (j ≡ i) ⊎ (j ≡ i → ⊥) → get_or (set c i x) j 0 ≡ binomial (k + 1 + j) (k + 1)
  by_case (inl p) = let q : k + (i + 1) ≡ k + 1 + j = omega (arith, p) in get_or-set_at c i j x 0 p l ∙ e ∙ ap (λ z. binomial z (k + 1)) q
  by_case (inr p) = get_or-set_other c i j x 0 p ∙ h j (omega (arith, b, p))

-- the others stay
pub raised-left : (c : List ℕ) (k i n x : ℕ) → ((j : ℕ) → i ≤ j → j < n → get_or c j 0 ≡ binomial (k + j) k)
    → (j : ℕ) → i + 1 ≤ j → j < n → get_or (set c i x) j 0 ≡ binomial (k + j) k
raised-left c k i n x h j l b = get_or-set_other c i j x 0 (λ p. absurd (omega (arith, p, l))) ∙ h j (omega (arith, l)) b

-- the exponents of v from n on, of the terms, are n and one of the m numbers from 0 on
abbrev pub IsReach : Sparse → ℕ → ℕ → ℕ → Type 0
IsReach f v n m = (i : ℕ) (t : Pairs × ℤ) → i < length f → n ≤ exponent v (get_or f i t).0 → exponent v (get_or f i t).0 - n < m

-- so their binomials are in the column
pub in-reach : (f : Sparse) (c : List ℕ) (v n m i : ℕ) (t : Pairs × ℤ) → IsColumn c n m → IsReach f v n m → i < length f → t ≡ get_or f i t
    → n ≤ exponent v t.0 → get_or c (exponent v t.0 - n) 0 ≡ binomial (exponent v t.0) n
in-reach f c v n m i t h r l e b =
    let q : n + (exponent v t.0 - n) ≡ exponent v t.0 = omega (arith, b) in
    let k : (n ≤ exponent v t.0 → exponent v t.0 - n < m) = subst (λ z. n ≤ exponent v z.0 → exponent v z.0 - n < m) (sym e) (r i t l) in
    h (exponent v t.0 - n) (k b) ∙ ap (λ z. binomial z n) q

-- no exponent of v is above the largest
under-largest : (f : Sparse) (v i : ℕ) (t : Pairs × ℤ) → i < length f → exponent v (get_or f i t).0 ≤ largest f v
under-largest [] v i t l = absurd (omega arith)
under-largest (s ∷ f) v zero t l = omega arith
under-largest (s ∷ f) v (suc i) t l = let r = under-largest f v i t (omega (arith, l)) in omega (arith, r)

-- so as many as from n to the largest are enough
pub reaches : (f : Sparse) (v n m : ℕ) → m ≡ (largest f v + 1) - n → IsReach f v n m
reaches f v n m e i t l b = omega (arith, e, b, under-largest f v i t l)

-- a further column of binomials
pub column-pushed : (cs new : List (List ℕ)) (c : List ℕ) (k : ℕ) → new ≡ cs ++ (c ∷ []) → length cs ≡ k → IsColumn c k (128 - k)
    → ((j : ℕ) (d : List ℕ) → j < k → IsColumn (get_or cs j d) j (128 - j)) → (j : ℕ) (d : List ℕ) → j < k + 1 → IsColumn (get_or new j d) j (128 - j)
column-pushed cs new c k p l h a j d b = subst (λ z. IsColumn (get_or z j d) j (128 - j)) (sym p) (by_case (cases_eq j k)) where
  by_case : (j ≡ k) ⊎ (j ≡ k → ⊥) → IsColumn (get_or (cs ++ (c ∷ [])) j d) j (128 - j)
  by_case (inl e) =
      subst (λ z. IsColumn (get_or (cs ++ (c ∷ [])) z d) z (128 - z)) (sym e)
      (subst (λ z. IsColumn z k (128 - k)) (sym (get_or_at cs c [] d k l)) h)
  by_case (inr n) =
      subst (λ z. IsColumn z j (128 - j)) (sym (get_or_append_left cs (c ∷ []) d j (omega (arith, b, n, l)))) (a j d (omega (arith, b, n)))
