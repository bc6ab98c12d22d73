-- The lexicographic order of monomials.
use Rattle.std.proofs.Common.{◌≡◌, ℕ, ◌+◌, ◌<◌, ◌≤◌, refl, sym, ◌∙◌, ap, arith, zero, suc, [], ◌∷◌, length, drop, Less, Equal, Greater}
use Rattle.std.proofs.lemmas.Bool.{cases_lt}
use Rattle.std.proofs.lemmas.Cmp.{by_ranked, ranked}
use Rattle.std.specs.Ordering.{is_eq, nat_cmp, ordering_reverse}
use Rattle.std.specs.declared.cmp.Ordering.{Ordering}
use mathlib.Core.Logic.{◌⊎◌, inl, inr}
use Rattle.ln_tree.specs.Exps.{AllAbove, IsBefore, IsRising, Pairs, exponent, pairs_cmp, pairs_cmp-total, same_pairs-is, same_pairs-ties}
use Rattle.ln_tree.proofs.Powers.{all_above-none, power, power-here}

-- ---- what it compares
-- what is above w is above what is below w
pub above-lower : (v w : ℕ) (ps : Pairs) → v < w → AllAbove w ps → AllAbove v ps
above-lower v w [] h a = tt
above-lower v w (p ∷ ps) h a = (omega (arith, a.0), above-lower v w ps h a.1)

-- a variable below the first has none
pub none-before : (v : ℕ) (p : ℕ × ℕ) (ps : Pairs) → v < p.0 → AllAbove p.0 ps → exponent v (p ∷ ps) ≡ 0
none-before v p ps l a = all_above-none v (p ∷ ps) (l, above-lower v p.0 ps l a)

-- the exponent of the first
pub first-here : (p : ℕ × ℕ) (ps : Pairs) → AllAbove p.0 ps → exponent p.0 (p ∷ ps) ≡ p.1
first-here p ps a = omega (arith, power-here p.0 p refl, all_above-none p.0 ps a)

before-more : (p q : ℕ × ℕ) (a b : Pairs) → p.0 ≡ q.0 → p.1 ≡ q.1 → IsBefore a b → IsBefore (p ∷ a) (q ∷ b)
before-more p q a b e f h = record {
  variable = h.variable;
  same = λ u l. omega (arith, h.same u l, powers u);
  less = omega (arith, h.less, powers h.variable);
} where
  powers : (u : ℕ) → power u p ≡ power u q
  powers u = rw (e, f) refl

-- what comes first has the smaller exponent where the two first differ
pub is-before : (a b : Pairs) → IsRising a → IsRising b → pairs_cmp a b ≡ Less → IsBefore a b
is-before [] [] r s h = cc
is-before [] (q ∷ b) r s h = record { variable = q.0; same = λ u l. sym (none-before u q b l s.2); less = omega (arith, first-here q b s.2, s.0) }
is-before (p ∷ a) [] r s h = cc
is-before (p ∷ a) (q ∷ b) r s h =
    by_ranked (q.0 < p.0) (q.0 ≡ p.0) (p.0 < q.0) (nat_cmp q.0 p.0) (ranked q.0 p.0 (nat_cmp q.0 p.0) refl)
    (λ e l. lower l)
    (λ e l. by_ranked (p.1 < q.1) (p.1 ≡ q.1) (q.1 < p.1) (nat_cmp p.1 q.1) (ranked p.1 q.1 (nat_cmp p.1 q.1) refl)
    (λ f k. larger l k)
    (λ f k. before-more p q a b (sym l) k (is-before a b r.3 s.3 (rest e f)))
    (λ f k. absurd (smaller e f)))
    (λ e l. absurd (higher e)) where
      lower : q.0 < p.0 → IsBefore (p ∷ a) (q ∷ b)
      lower l = record {
        variable = q.0;
        same = λ u k. none-before u p a (omega arith) r.2 ∙ sym (none-before u q b k s.2);
        less = omega (arith, none-before q.0 p a l r.2, first-here q b s.2, s.0);
      }

      larger : q.0 ≡ p.0 → p.1 < q.1 → IsBefore (p ∷ a) (q ∷ b)
      larger l k = record {
        variable = q.0;
        same = λ u m. none-before u p a (omega arith) r.2 ∙ sym (none-before u q b m s.2);
        less = omega (arith, ap (λ z. exponent z (p ∷ a)) l, first-here p a r.2, first-here q b s.2);
      }

      rest : nat_cmp q.0 p.0 ≡ Equal → nat_cmp p.1 q.1 ≡ Equal → pairs_cmp a b ≡ Less
      rest e f = rw (e, f) at h

      smaller : nat_cmp q.0 p.0 ≡ Equal → nat_cmp p.1 q.1 ≡ Greater → ⊥
      smaller e f = let z : Greater ≡ Less = rw (e, f) at h in cc

      higher : nat_cmp q.0 p.0 ≡ Greater → ⊥
      higher e = let z : Greater ≡ Less = rw e at h in cc

-- two monomials don't come before each other
not-both : (a b : Pairs) → IsBefore a b → IsBefore b a → ⊥
not-both a b h k = by_case (cases_lt h.variable k.variable) (cases_lt k.variable h.variable) where
  by_case : (h.variable < k.variable) ⊎ (k.variable ≤ h.variable) → (k.variable < h.variable) ⊎ (h.variable ≤ k.variable) → ⊥
  by_case (inl l) _ = omega (arith, k.same h.variable l, h.less)
  by_case (inr _) (inl l) = omega (arith, h.same k.variable l, k.less)
  by_case (inr l) (inr m) = let e : h.variable ≡ k.variable = omega arith in omega (arith, h.less, k.less, ap (λ z. exponent z a) e, ap (λ z. exponent z b) e)

-- what has the smaller exponent there comes first
pub before-less : (a b : Pairs) → IsRising a → IsRising b → IsBefore a b → pairs_cmp a b ≡ Less
before-less a b r s h = by_case (pairs_cmp a b) refl where
  by_case : (o : Ordering) → pairs_cmp a b ≡ o → o ≡ Less
  by_case Less e = refl
  by_case Equal e = let same : a ≡ b = same_pairs-is a b (same_pairs-ties a b ∙ ap is_eq e) in absurd (omega (arith, h.less, ap (exponent h.variable) same))
  by_case Greater e = absurd (not-both a b h (is-before b a s r (pairs_cmp-total.antisymm b a ∙ ap ordering_reverse e)))

-- ---- kept where exponents change alike
-- where a is before b, x is before y: at each variable, equal exponents of a and b are equal in x and y, smaller ones smaller
pub order-kept : (a b x y : Pairs) → IsRising a → IsRising b → IsRising x → IsRising y → ((v : ℕ) → exponent v a ≡ exponent v b → exponent v x ≡ exponent v y)
    → ((v : ℕ) → exponent v a < exponent v b → exponent v x < exponent v y) → pairs_cmp a b ≡ Less → pairs_cmp x y ≡ Less
order-kept a b x y r s t u same less h = let k : IsBefore a b = is-before a b r s h in
    before-less x y t u (record { variable = k.variable; same = λ v l. same v (k.same v l); less = less k.variable k.less })

-- the products of two monomials with a third stand as the two do
pub products-kept : (a b m x y : Pairs) → IsRising a → IsRising b → IsRising x → IsRising y → ((v : ℕ) → exponent v x ≡ exponent v m + exponent v a)
    → ((v : ℕ) → exponent v y ≡ exponent v m + exponent v b) → pairs_cmp a b ≡ Less → pairs_cmp x y ≡ Less
products-kept a b m x y r s t u p q h = order-kept a b x y r s t u (λ v e. omega (arith, p v, q v, e)) (λ v l. omega (arith, p v, q v, l)) h

-- ---- compared pair by pair
cmp-less : (x y : ℕ) → x < y → Less ≡ nat_cmp x y
cmp-less x y l = by_ranked (x < y) (x ≡ y) (y < x) (nat_cmp x y) (ranked x y (nat_cmp x y) refl) (λ e _. sym e)
    (λ _ k. absurd (omega arith)) (λ _ k. absurd (omega arith))

cmp-equal : (x y : ℕ) → x ≡ y → Equal ≡ nat_cmp x y
cmp-equal x y l = by_ranked (x < y) (x ≡ y) (y < x) (nat_cmp x y) (ranked x y (nat_cmp x y) refl) (λ _ k. absurd (omega arith))
    (λ e _. sym e) (λ _ k. absurd (omega arith))

cmp-greater : (x y : ℕ) → y < x → Greater ≡ nat_cmp x y
cmp-greater x y l = by_ranked (x < y) (x ≡ y) (y < x) (nat_cmp x y) (ranked x y (nat_cmp x y) refl) (λ _ k. absurd (omega arith))
    (λ _ k. absurd (omega arith)) (λ e _. sym e)

cmp-suc : (x y : ℕ) → nat_cmp x y ≡ nat_cmp (x + 1) (y + 1)
cmp-suc x y = by_ranked (x < y) (x ≡ y) (y < x) (nat_cmp x y) (ranked x y (nat_cmp x y) refl)
    (λ e l. e ∙ cmp-less (x + 1) (y + 1) (omega arith))
    (λ e l. e ∙ cmp-equal (x + 1) (y + 1) (omega arith))
    (λ e l. e ∙ cmp-greater (x + 1) (y + 1) (omega arith))

-- where one list has come to its end, the lengths decide
pub ended : (a b : Pairs) (i : ℕ) → i ≤ length a → i ≤ length b → (i < length a → i < length b → ⊥)
    → pairs_cmp (drop i a) (drop i b) ≡ nat_cmp (length a) (length b)
ended [] [] zero h k n = cmp-equal 0 0 refl
ended [] b (suc i) h k n = absurd (omega arith)
ended [] (q ∷ b) zero h k n = cmp-less 0 (length (q ∷ b)) (omega arith)
ended (p ∷ a) [] zero h k n = cmp-greater (length (p ∷ a)) 0 (omega arith)
ended (p ∷ a) [] (suc i) h k n = absurd (omega arith)
ended (p ∷ a) (q ∷ b) zero h k n = absurd (n (omega arith) (omega arith))
ended (p ∷ a) (q ∷ b) (suc i) h k n =
    let s : length a + 1 ≡ length (p ∷ a) = omega arith in
    let t : length b + 1 ≡ length (q ∷ b) = omega arith in
    ended a b i (omega arith) (omega arith) (λ l m. n (omega arith) (omega arith)) ∙ cmp-suc (length a) (length b) ∙ (rw (s, t) refl)
