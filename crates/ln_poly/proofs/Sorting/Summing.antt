-- A sum in place of the first polynomial.
use Rattle.std.proofs.Common.{◌≡◌, ℕ, ◌+◌, ◌<◌, ◌≤◌, refl, sym, ◌∙◌, ap, subst, arith, List, [], ◌∷◌, ◌++◌, length, get_or, set, take, unsigned_abs}
use Rattle.std.proofs.Common.{All, Bool, true, eqb, Some}
use Rattle.std.proofs.lemmas.Int.{ints}
use Rattle.std.proofs.Math.IntN.{ℤ, ◌+ℤ◌}
use Rattle.std.proofs.lemmas.Bool.{eqb-true}
use Rattle.std.proofs.lemmas.List.{get_or_default, take_all, take_more}
use Rattle.std.proofs.lemmas.List.Elements.{All-pop, All-push}
use Rattle.ln_tree.specs.Exps.{Pairs, same_pairs, same_pairs-is}
use Rattle.ln_poly.specs.Merge.{IsMerge}
use Rattle.ln_poly.specs.Sparse.{AreSorted, ComesBefore, Sparse, coefficient_at, exps_of, size_of}
use Rattle.ln_poly.specs.Sums.{IsSpread, Spreads, added, added_at, begun, missed}
use Rattle.ln_poly.proofs.Sorting.Added.{merged-all, merged-coefficient, merged-size, merged-sorted}
use Rattle.ln_poly.proofs.Sorting.Gathering.{exps-added, same-all, same-sorted}
use Rattle.ln_poly.proofs.Sorting.Rising.{sorted-pop, sorted-push}
use Rattle.ln_poly.proofs.TermLists.Coefficients.{coefficient-added, coefficient_at-push, size-added, size-next, size-push}

-- ---- one term
-- where the test finds the exponents of t at place i, the term there has them
pub stands-same : (xs : Sparse) (i : ℕ) (x t : Pairs × ℤ) (b : Bool) → i < length xs → b ≡ same_pairs (get_or xs i x).0 t.0 → b ≡ true → (get_or xs i t).0 ≡ t.0
stands-same xs i x t b h s r = sym (ap (λ (z : Pairs × ℤ). z.0) (get_or_default xs i x t h)) ∙ same_pairs-is (get_or xs i x).0 t.0 (sym s ∙ r)

-- a term that was read is set with another factor
pub set-added : (xs : Sparse) (i : ℕ) (x t : Pairs × ℤ) (c : ℤ) → i < length xs → x ≡ get_or xs i x → c ≡ x.1 +ℤ t.1 → set xs i (x.0, c) ≡ added_at xs i t
set-added xs i x t c h e f = ap (λ z. set xs i (x.0, z)) f ∙ ap (λ (y : Pairs × ℤ). set xs i (y.0, y.1 +ℤ t.1)) (e ∙ get_or_default xs i x t h)

-- ---- all terms
module _ (old : Sparse) where
  -- the exponents of the first stay
  spread-exps : (g f more : Sparse) → IsSpread old g f more → exps_of f ≡ exps_of old
  spread-exps _ _ _ begun = refl
  spread-exps _ _ _ (added g f more t i l e s) = exps-added f i t ∙ spread-exps g f more s
  spread-exps _ _ _ (missed g f more t s) = spread-exps g f more s

  -- the coefficients add up
  spread-coefficient : (n : ℕ) (m : List ℕ) (g f more : Sparse) → IsSpread old g f more
      → coefficient_at n f m +ℤ coefficient_at n more m ≡ coefficient_at n old m +ℤ coefficient_at n g m
  spread-coefficient n m _ _ _ begun = refl
  spread-coefficient n m _ _ _ (added g f more t i l e s) =
      omega (arith, ints, spread-coefficient n m g f more s, coefficient-added n m f i t l e, coefficient_at-push n m g t)
  spread-coefficient n m _ _ _ (missed g f more t s) =
      omega (arith, ints, spread-coefficient n m g f more s, coefficient_at-push n m more t, coefficient_at-push n m g t)

  -- the sizes add up at most
  pub spread-size : (g f more : Sparse) → IsSpread old g f more → size_of f + size_of more ≤ size_of old + size_of g
  spread-size _ _ _ begun = omega arith
  spread-size _ _ _ (added g f more t i l e s) = omega (arith, spread-size g f more s, size-added f i t, size-push g t)
  spread-size _ _ _ (missed g f more t s) = omega (arith, spread-size g f more s, size-push more t, size-push g t)

  -- the others are terms of g
  spread-all : (P : Pairs → Type 0) (g f more : Sparse) → IsSpread old g f more → All (λ t. P t.0) g → All (λ t. P t.0) more
  spread-all P _ _ _ begun h = h
  spread-all P _ _ _ (added g f more t i l e s) h = spread-all P g f more s (All-pop (λ z. P z.0) (g ++ (t ∷ [])) g (Some t) refl h).0
  spread-all P _ _ _ (missed g f more t s) h = let a = All-pop (λ z. P z.0) (g ++ (t ∷ [])) g (Some t) refl h in
      All-push (λ z. P z.0) more t (spread-all P g f more s a.0) a.1

  -- in their order
  spread-sorted : (g f more : Sparse) → IsSpread old g f more → AreSorted g → AreSorted more
  spread-sorted _ _ _ begun h = h
  spread-sorted _ _ _ (added g f more t i l e s) h = spread-sorted g f more s (sorted-pop g t h).0
  spread-sorted _ _ _ (missed g f more t s) h = let a = sorted-pop g t h in
      sorted-push more t (spread-sorted g f more s a.0) (spread-all (λ e. ComesBefore e t.0) g f more s a.1)

  -- in `spread` there is room to add the next term
  pub spread-room : (g f more : Sparse) (i : ℕ) (t : Pairs × ℤ) (k : ℕ) → IsSpread old (take i g) f more → i < length g → t ≡ get_or g i t
      → size_of old + size_of g < k → size_of f + unsigned_abs t.1 < k
  spread-room g f more i t k s h e room = omega (arith, spread-size (take i g) f more s, size-next g i t h e, room)

  -- the next term of g
  pub spread-next : (g f more f' more' : Sparse) (i : ℕ) (t : Pairs × ℤ) → IsSpread old (take i g) f more → i < length g → t ≡ get_or g i t
      → Spreads f' more' f more t → IsSpread old (take (i + 1) g) f' more'
  spread-next g f more f' more' i t s h e p =
      subst (λ z. IsSpread old z f' more') (ap (λ z. take i g ++ (z ∷ [])) e ∙ sym (take_more g i t h)) (p old (take i g) s)

  -- all terms of g
  pub spread-end : (g f more : Sparse) (i : ℕ) → length g ≤ i → IsSpread old (take i g) f more → IsSpread old g f more
  spread-end g f more i l s = subst (λ z. IsSpread old z f more) (take_all i g l) s

-- ---- the sum of f and g, where both are handed on
module _ (f g old more h f' g' : Sparse) (a : f' ≡ f) (b : g' ≡ g) (s : IsSpread f' g' old more) (m : IsMerge ComesBefore old more h) where
  -- its coefficient is the sum of theirs
  pub sum-coefficient : (n : ℕ) (k : List ℕ) → coefficient_at n h k ≡ coefficient_at n f k +ℤ coefficient_at n g k
  sum-coefficient n k = omega (
    arith,
    ints,
    merged-coefficient old more h m n k,
    spread-coefficient f' n k g' old more s,
    ap (λ z. coefficient_at n z k) a,
    ap (λ z. coefficient_at n z k) b,
  )

  -- its size is at most that of both
  pub sum-size : size_of h ≤ size_of f + size_of g
  sum-size = omega (arith, merged-size old more h m, spread-size f' g' old more s, ap size_of a, ap size_of b)

  -- it is sorted where both are
  pub sum-sorted : AreSorted f → AreSorted g → AreSorted h
  sum-sorted x y = merged-sorted old more h m (same-sorted f' old (subst AreSorted (sym a) x) (spread-exps f' g' old more s))
      (spread-sorted f' g' old more s (subst AreSorted (sym b) y))

  -- what holds of each monomial of both holds of each of its own
  pub sum-all : (P : Pairs → Type 0) → All (λ t. P t.0) f → All (λ t. P t.0) g → All (λ t. P t.0) h
  sum-all P x y = merged-all old more h m P
      (same-all P f' old (spread-exps f' g' old more s) (subst (All (λ (t : Pairs × ℤ). P t.0)) (sym a) x))
      (spread-all f' P g' old more s (subst (All (λ (t : Pairs × ℤ). P t.0)) (sym b) y))

-- a list whose length is 0 by the test is empty
pub none-left : (xs : Sparse) (k : ℕ) (b : Bool) → b ≡ eqb k 0 → b ≡ true → k ≡ length xs → xs ≡ []
none-left [] k b e t l = refl
none-left (x ∷ xs) k b e t l = absurd (omega (arith, eqb-true k 0 (sym e ∙ t)))
