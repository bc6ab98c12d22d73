-- Whether exponents fit, and what follows of a product.
use Rattle.std.proofs.Common.{◌≡◌, ◌⊎◌, inl, inr, Bool, ◌↔◌, ℕ, ◌+◌, ◌<◌, ◌≤◌, suc, List, [], ◌∷◌, length, get_or, refl, sym, arith, subst, eqb, true, false}
use Rattle.std.proofs.Common.{zero, ◌∙◌}
use Rattle.std.specs.Prelude.{All}
use Rattle.std.proofs.Math.IntN.{ℤ, pos}
use Rattle.std.proofs.lemmas.Bool.{cases_eq, cases_lt}
use Rattle.std.proofs.lemmas.Bool.Decides.{nat_tests}
use Rattle.std.proofs.lemmas.List.Elements.{All-head, All-tail, All-cons, All-nil}
use Rattle.ln_algebra.specs.Tree.{Mul, Tree}
use Rattle.ln_tree.specs.Exps.{AllAbove, IsAbove, IsRising, Pairs, exponent, vector}
use Rattle.ln_poly.specs.Expansion.{IsNormal}
use Rattle.ln_poly.specs.Lean.{largest}
use Rattle.ln_poly.specs.Rows.{PowersFit}
use Rattle.ln_poly.specs.Sparse.{AreBelow, AreRising, Sparse, coefficient_at}
use Rattle.ln_poly.proofs.Packing.Terms.{largest-at, largest-both}
use Rattle.ln_poly.proofs.TermLists.Exponents.{exponent-small}
use Rattle.ln_due.specs.Small.{IsSmall}
use Rattle.ln_verify.specs.Products.{AllFit, PairsFit, RowFits}
use Rattle.ln_algebra.specs.Stage.{IsMonomial}
use Rattle.ln_algebra.specs.Vector.{In}
use Rattle.ln_tree.proofs.Powers.{vector-get}
use Rattle.ln_poly.specs.Within.{TakesMore}
use Rattle.ln_poly.proofs.Expansions.Normals.{mul-many}
use Rattle.ln_poly.proofs.TermLists.Counting.{few-terms, many-terms}
use Rattle.ln_stage.specs.Kept.{all_rows}
use Rattle.ln_stage.specs.StageList.{IsMonomialOf}
use Rattle.ln_stage.proofs.Monomials.MonomialLemmas.{rows-monomials, rows-small}
use Rattle.ln_stage.proofs.Results.ResultLemmas.{poly-terms}
use Rattle.ln_verify.proofs.Polynomials.Domain.{products-reach}

module _ (n : ℕ) (t : Tree) (f : Sparse) (h : IsNormal n t f) where
  of_tree : (m : List ℕ) → IsMonomial n t m → IsMonomialOf n f m
  unfolding coefficient_at
  of_tree m k = record { size = k.size; nonzero = λ z. k.nonzero (sym (h.normal.coefficients m k.size) ∙ z) }

  to_tree : (m : List ℕ) → IsMonomialOf n f m → IsMonomial n t m
  unfolding coefficient_at
  to_tree m k = record { size = k.size; nonzero = λ z. k.nonzero (h.normal.coefficients m k.size ∙ z) }

  -- each monomial is the vector of a term
  pub in-rows : (m : List ℕ) → IsMonomial n t m → In (all_rows n f) m
  in-rows m k = (rows-monomials n f (poly-terms f h.form) h.below).all m (of_tree m k)

  -- the vector of each term is a monomial
  pub row-monomial : (m : List ℕ) → In (all_rows n f) m → IsMonomial n t m
  row-monomial m i = to_tree m ((rows-monomials n f (poly-terms f h.form) h.below).monomials m i)

  -- a polynomial of at most 1,024 terms is small, since in code none has an exponent above 127
  pub few-small : length f ≤ 1024 → IsSmall n t
  few-small l = record { few = few-terms n t f h l; low = λ m v k. rows-small n f h.form.rising m v (in-rows m k) }

  -- a polynomial of more than 1,024 terms isn't small
  pub many-large : 1024 < length f → IsSmall n t → ⊥
  many-large l s = s.few (many-terms n t f h l)

-- the vector of a term
row-in : (n : ℕ) (f : Sparse) (i : ℕ) (d : Pairs × ℤ) → i < length f → In (all_rows n f) (vector n (get_or f i d).0)
row-in n [] i d l = absurd (omega arith)
row-in n (t ∷ f) zero d l = inl refl
row-in n (t ∷ f) (suc i) d l = inr (row-in n f i d (omega arith))

-- where the exponents of two terms pass the limit together, the product isn't small, and needn't be worked out
pub too-high : (n : ℕ) (d e : Tree) (f g : Sparse) → IsNormal n d f → IsNormal n e g → (i j v : ℕ) (x : Pairs × ℤ) → i < length f → j < length g → v < n →
    128 ≤ exponent v (get_or f i x).0 + exponent v (get_or g j x).0 → IsSmall n (Mul d e) → ⊥
too-high n d e f g p q i j v x l k b h s =
    let b' = row-monomial n d f p (vector n (get_or f i x).0) (row-in n f i x l) in
    let c' = row-monomial n e g q (vector n (get_or g j x).0) (row-in n g j x k) in
    let r = products-reach n v d e (all_rows n f) (all_rows n g) (vector n (get_or f i x).0) (vector n (get_or g j x).0) (in-rows n d f p)
    (in-rows n e g q) b' c' in
    let a : get_or r.0 v 0 < 128 = s.low r.0 v r.1 in
    omega (arith, r.2, a, h, vector-get n v (get_or f i x).0 b, vector-get n v (get_or g j x).0 b)

-- a product that takes more than 1,024 terms isn't small either
pub product-large : (n : ℕ) (d e : Tree) (f g : Sparse) → IsNormal n d f → IsNormal n e g → TakesMore f g 1024 → IsSmall n (Mul d e) → ⊥
product-large n d e f g p q t s = s.few (mul-many n d e f g p q t)

-- ---- it fits, or some variable passes the limit
-- at some of the n variables the exponents of a and b sum up to 128 or more
pub record TooHigh (n : ℕ) (a b : Pairs) : Type 0 where
  pub var : ℕ
  pub below : var < n
  pub high : 128 ≤ exponent var a + exponent var b

AllAbove-none : (v : ℕ) (ps : Pairs) (w : ℕ) → AllAbove w ps → v ≤ w → exponent v ps ≡ 0
AllAbove-none v [] w h l = refl
AllAbove-none v (p ∷ ps) w h l = by_case (cases_eq p.0 v) (AllAbove-none v ps w h.1 l)
  where
    by_case : (p.0 ≡ v) ⊎ (p.0 ≡ v → ⊥) → exponent v ps ≡ 0 → exponent v (p ∷ ps) ≡ 0
    by_case (inl e) r = absurd (omega (arith, e, h.0, l))
    by_case (inr d) r = let q : eqb p.0 v ≡ false = grind (arith, nat_tests) in rw (q, r) refl

here : (p : ℕ × ℕ) (ps : Pairs) → exponent p.0 (p ∷ ps) ≡ p.1 + exponent p.0 ps
here p ps = let q : eqb p.0 p.0 ≡ true = grind (arith, nat_tests) in rw q refl

apart : (p : ℕ × ℕ) (ps : Pairs) (v : ℕ) → (p.0 ≡ v → ⊥) → exponent v (p ∷ ps) ≡ exponent v ps
apart p ps v d = let q : eqb p.0 v ≡ false = grind (arith, nat_tests) in rw q (omega arith)

more : (p : ℕ × ℕ) (ps : Pairs) (v : ℕ) → exponent v ps ≤ exponent v (p ∷ ps)
more p ps v = by_case (cases_eq p.0 v)
  where
    by_case : (p.0 ≡ v) ⊎ (p.0 ≡ v → ⊥) → exponent v ps ≤ exponent v (p ∷ ps)
    by_case (inl e) = subst (λ (w : ℕ). exponent w ps ≤ exponent w (p ∷ ps)) e (omega (arith, here p ps))
    by_case (inr d) = omega (arith, apart p ps v d)

pairs-fit-or : (n : ℕ) (a b : Pairs) → IsAbove a n → PairsFit a b ⊎ TooHigh n a b
pairs-fit-or n [] b h = inl tt
pairs-fit-or n (p ∷ ps) b h = by_case (cases_lt (p.1 + exponent p.0 b) 128) (pairs-fit-or n ps b h.1)
  where
    by_case : (p.1 + exponent p.0 b < 128) ⊎ (128 ≤ p.1 + exponent p.0 b) → PairsFit ps b ⊎ TooHigh n ps b → PairsFit (p ∷ ps) b ⊎ TooHigh n (p ∷ ps) b
    by_case (inr l) r = inr (record { var = p.0; below = h.0; high = omega (arith, l, here p ps) })
    by_case (inl l) (inl r) = inl (l, r)
    by_case (inl l) (inr r) = inr (record { var = r.var; below = r.below; high = omega (arith, r.high, more p ps r.var) })

-- where the exponents of two monomials fit, both exponents of each variable are together below 128
pub pairs-fit : (a b : Pairs) → IsRising a → IsRising b → PairsFit a b → (v : ℕ) → exponent v a + exponent v b < 128
pairs-fit [] b r s h v = omega (arith, exponent-small b v s)
pairs-fit (p ∷ ps) b r s h v = by_case (cases_eq p.0 v) (pairs-fit ps b r.3 s h.1 v)
  where
    by_case : (p.0 ≡ v) ⊎ (p.0 ≡ v → ⊥) → exponent v ps + exponent v b < 128 → exponent v (p ∷ ps) + exponent v b < 128
    by_case (inl e) q =
        subst (λ (w : ℕ). exponent w (p ∷ ps) + exponent w b < 128) e (omega (arith, here p ps, AllAbove-none p.0 ps p.0 r.2 (omega arith), h.0))
    by_case (inr d) q = omega (arith, apart p ps v d, q)

-- ---- rows
row-powers : (s : Pairs × ℤ) (g : Sparse) → IsRising s.0 → AreRising g → RowFits s.0 g → PowersFit s g
row-powers s [] r q h = All-nil (λ t. (v : ℕ) → exponent v s.0 + exponent v t.0 < 128)
row-powers s (t ∷ g) r q h = All-cons (λ t. (v : ℕ) → exponent v s.0 + exponent v t.0 < 128) t g
    (pairs-fit s.0 t.0 r (All-head (λ t. IsRising t.0) t g q) h.0) (row-powers s g r (All-tail (λ t. IsRising t.0) t g q) h.1)

-- where those of two polynomials fit, so are they for each two of their monomials
pub all-powers : (f g : Sparse) → AreRising f → AreRising g → AllFit f g → All (λ s. PowersFit s g) f
all-powers [] g r q h = All-nil (λ s. PowersFit s g)
all-powers (s ∷ f) g r q h = All-cons (λ s. PowersFit s g) s f (row-powers s g (All-head (λ t. IsRising t.0) s f r) q h.0)
    (all-powers f g (All-tail (λ t. IsRising t.0) s f r) q h.1)

record RowHigh (n : ℕ) (a : Pairs) (g : Sparse) : Type 0 where
  pub at : ℕ
  pub within : at < length g
  pub high : TooHigh n a (get_or g at ([], pos 0)).0

row-fits-or : (n : ℕ) (a : Pairs) (g : Sparse) → IsAbove a n → RowFits a g ⊎ RowHigh n a g
row-fits-or n a [] h = inl tt
row-fits-or n a (t ∷ g) h = by_case (pairs-fit-or n a t.0 h) (row-fits-or n a g h)
  where
    by_case : PairsFit a t.0 ⊎ TooHigh n a t.0 → RowFits a g ⊎ RowHigh n a g → RowFits a (t ∷ g) ⊎ RowHigh n a (t ∷ g)
    by_case (inr x) r = inr (record { at = 0; within = omega arith; high = x })
    by_case (inl l) (inl r) = inl (l, r)
    by_case (inl l) (inr r) = inr (record { at = suc r.at; within = omega (arith, r.within); high = r.high })

record AllHigh (n : ℕ) (f g : Sparse) : Type 0 where
  pub at : ℕ
  pub within : at < length f
  pub high : RowHigh n (get_or f at ([], pos 0)).0 g

all-fit-or : (n : ℕ) (f g : Sparse) → All (λ s. IsAbove s.0 n) f → AllFit f g ⊎ AllHigh n f g
all-fit-or n [] g h = inl tt
all-fit-or n (s ∷ f) g h = by_case (row-fits-or n s.0 g (All-head (λ s. IsAbove s.0 n) s f h)) (all-fit-or n f g (All-tail (λ s. IsAbove s.0 n) s f h))
  where
    by_case : RowFits s.0 g ⊎ RowHigh n s.0 g → AllFit f g ⊎ AllHigh n f g → AllFit (s ∷ f) g ⊎ AllHigh n (s ∷ f) g
    by_case (inr x) r = inr (record { at = 0; within = omega arith; high = x })
    by_case (inl l) (inl r) = inl (l, r)
    by_case (inl l) (inr r) = inr (record { at = suc r.at; within = omega (arith, r.within); high = r.high })

-- a product whose exponents don't fit isn't small
pub misfit-large : (n : ℕ) (d e : Tree) (f g : Sparse) → IsNormal n d f → IsNormal n e g → (AllFit f g → ⊥) → IsSmall n (Mul d e) → ⊥
misfit-large n d e f g p q none s = by_case (all-fit-or n f g p.below)
  where
    by_case : AllFit f g ⊎ AllHigh n f g → ⊥
    by_case (inl h) = none h
    by_case (inr x) = too-high n d e f g p q x.at x.high.at x.high.high.var ([], pos 0) x.within x.high.within x.high.high.below x.high.high.high s

-- ---- by the largest exponents
module _ (f g : Sparse) (a b : List ℕ) (p : (v : ℕ) → v < 256 → get_or a v 0 ≡ largest f v)
    (q : (v : ℕ) → v < 256 → get_or b v 0 ≡ largest g v) where
  -- where the largest exponents of each variable fit, all do
  pub largest-fit : AreBelow 256 f → ((v : ℕ) → v < 256 → get_or a v 0 + get_or b v 0 < 128) → AllFit f g
  largest-fit u h = by_case (all-fit-or 256 f g u)
    where
      by_case : AllFit f g ⊎ AllHigh 256 f g → AllFit f g
      by_case (inl x) = x
      by_case (inr x) =
          let v : ℕ = x.high.high.var in
          absurd (omega (
            arith,
            h v x.high.high.below,
            p v x.high.high.below,
            q v x.high.high.below,
            x.high.high.high,
            largest-at f x.at v ([], pos 0) x.within,
            largest-at g x.high.at v ([], pos 0) x.high.within,
          ))

  -- where all fit, the largest of each variable do
  pub fit-largest : AreRising f → AreRising g → AllFit f g → (v : ℕ) → v < 256 → get_or a v 0 + get_or b v 0 < 128
  fit-largest r s h v l = omega (arith, p v l, q v l, largest-both f g v r s (all-powers f g r s h))

-- one variable more fits
pub fit-next : (a b : List ℕ) (v : ℕ) → ((u : ℕ) → u < v → get_or a u 0 + get_or b u 0 < 128) → get_or a v 0 + get_or b v 0 < 128
    → (u : ℕ) → u < v + 1 → get_or a u 0 + get_or b u 0 < 128
fit-next a b v h l u k = by_case (cases_eq u v)
  where
    by_case : (u ≡ v) ⊎ (u ≡ v → ⊥) → get_or a u 0 + get_or b u 0 < 128
    by_case (inl e) = rw e l
    by_case (inr d) = h u (omega (arith, k, d))

-- the test, at the polynomials
pub fits-at : (r : Bool) (x y f g : Sparse) → (r ≡ true) ↔ AllFit x y → x ≡ f → y ≡ g → (r ≡ true) ↔ AllFit f g
fits-at r x y f g t p q =
    (λ e. subst (λ (z : Sparse). AllFit z g) p (subst (AllFit x) q (t.0 e)), λ h. t.1 (subst (λ (z : Sparse). AllFit z y) (sym p) (subst (AllFit f) (sym q) h)))
