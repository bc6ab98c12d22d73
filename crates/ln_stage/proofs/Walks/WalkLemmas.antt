-- The exponents of one variable in turn, each with what goes down from it.
use Rattle.std.proofs.Common.{◌≡◌, ℕ, suc, ◌+◌, ◌-◌, ◌<◌, ◌≤◌, true, false, List, [], ◌∷◌, length, get_or, set, drop, refl, sym}
use Rattle.std.proofs.Common.{◌∙◌, ap, subst, arith}
use Rattle.std.proofs.Math.ListN.{length-set}
use Rattle.std.specs.Prelude.{◌==◌}
use Rattle.std.proofs.lemmas.Bool.Decides.{nat_tests}
use Rattle.std.proofs.lemmas.List.{length-map}
use Rattle.ln_algebra.specs.Walk.{at_least, steps, walk}
use Rattle.ln_tree.specs.Exps.{vector}
use Rattle.ln_poly.specs.Sparse.{Sparse}
use Rattle.ln_stage.specs.Kept.{IsStep, high, listed, listed_at, listed_from, rows, term_at}
use Rattle.ln_stage.proofs.Walks.StepLemmas.{rows-high, step-down}
use Rattle.ln_stage.proofs.Walks.TurnLemmas.{Turn, unless_empty, unless_some}

-- ---- the first variable
-- variables, where there are some, are the first one and the others
pub split : (vs : List ℕ) → 0 < length vs → vs ≡ get_or vs 0 0 ∷ drop 1 vs
split [] h = absurd (omega arith)
split (v ∷ vs) h = refl

-- where a variable remains, what is listed from its exponent 0 on is all that is listed
pub begins : (f : Sparse) (vs kept p : List ℕ) → 0 < length vs → listed_from f vs kept p 0 ≡ listed f vs kept p
unfolding listed listed_from
begins f [] kept p h = absurd (omega arith)
begins f (v ∷ vs) kept p h = refl

-- the end of the loop in `walk`: past the largest exponent nothing is listed
pub ends : (f : Sparse) (vs kept p : List ℕ) (e : ℕ) → 128 ≤ e → listed_from f vs kept p e ≡ ([], false)
unfolding listed_from
ends f vs kept p e h = let z : 128 - e ≡ 0 = omega arith in rw z refl

-- ---- tests of lengths
-- what the test finds unequal to 0 is more than 0
pub some-length : (n : ℕ) → false ≡ (n == 0) → 0 < n
some-length n h = grind (arith, nat_tests)

-- what the test finds equal to 0 is 0
pub none-length : (n : ℕ) → true ≡ (n == 0) → n ≡ 0
none-length n h = grind (arith, nat_tests)

-- ---- from an exponent on
-- where a variable remains, the first one begins from the given exponent
pub at-some : (f : Sparse) (vs kept p : List ℕ) (e : ℕ) → 0 < length vs → listed_at f vs kept p e ≡ listed_from f vs kept p e
unfolding listed_at
at-some f [] kept p e h = absurd (omega arith)
at-some f (v ∷ vs) kept p e h = refl

-- where no variable remains, an exponent to begin from doesn't matter
pub at-none : (f : Sparse) (vs kept p : List ℕ) (e : ℕ) → length vs ≡ 0 → listed_at f vs kept p e ≡ listed f [] kept p
unfolding listed_at
at-none f [] kept p e h = refl
at-none f (v ∷ vs) kept p e h = absurd (omega (arith, h))

-- beginning from the exponent 0, all is listed that there is
pub at-zero : (f : Sparse) (vs kept p : List ℕ) → listed_at f vs kept p 0 ≡ listed f vs kept p
unfolding listed_at
at-zero f [] kept p = refl
at-zero f (v ∷ vs) kept p = begins f (v ∷ vs) kept p (omega arith)

-- ---- the exponents in turn
-- at a step with a variable, its exponent e: the terms with that exponent or more remain
module _ {f : Sparse} {vs kept p : List ℕ} (s : IsStep f vs kept p) (more : 0 < length vs) (e : ℕ) (small : e < 128) {h : List ℕ}
    (eh : h ≡ high f (get_or vs 0 0) e kept) where
  -- the step, with its first variable apart
  pub step : IsStep f (get_or vs 0 0 ∷ drop 1 vs) kept p
  step = subst (λ x. IsStep f x kept p) (split vs more) s

  -- the vectors of the terms that remain
  pub rows-are : rows (length p) f h ≡ at_least (get_or vs 0 0) e (rows (length p) f kept)
  rows-are = ap (rows (length p) f) eh ∙ rows-high (length p) f (get_or vs 0 0) e kept step.fresh.0

  -- there are as many
  pub rows-count : length (at_least (get_or vs 0 0) e (rows (length p) f kept)) ≡ length h
  rows-count = ap length (sym rows-are) ∙ length-map h (λ i. vector (length p) (term_at f i).0)

  -- where no remaining term has the exponent e or more in the first variable, nothing is listed from e on
  pub from-none : length h ≡ 0 → listed_from f vs kept p e ≡ ([], false)
  unfolding listed_from
  from-none z = let c : 128 - e ≡ suc (127 - e) = omega arith in rw c (unless_empty _ _ (rows-count ∙ z))

  module _ (some : 0 < length h) {q r : List ℕ} (eq : q ≡ set p (get_or vs 0 0) e) (er : r ≡ drop 1 vs) where
    -- the vector has as many variables as before
    pub size : length q ≡ length p
    size = ap length eq ∙ length-set p (get_or vs 0 0) e

    -- terms with the exponent e or more, if there are any, are those that remain at the next step, where the variable has the exponent e
    pub from-step : IsStep f r h q
    from-step = rw (er, eq, eh) (step-down f (get_or vs 0 0) (drop 1 vs) kept p e step small (rw eh at some))

    -- what is listed from the exponent e on is what is listed at it, and then from the next on
    pub from-turn : Turn (length q) (length p) (listed_at f r h q 0) (listed_from f vs kept p (e + 1)) (listed_from f vs kept p e)
    unfolding listed listed_from
    from-turn =
        let c : 128 - e ≡ suc (127 - e) = omega arith in
        let d : 128 - (e + 1) ≡ 127 - e = omega arith in
        let g : e + 1 ≡ suc e = omega arith in
        let w : walk 128 r (rows (length q) f h) q ≡ walk 128 (drop 1 vs) (at_least (get_or vs 0 0) e (rows (length p) f kept)) (set p (get_or vs 0 0) e) =
        rw (size, rows-are, er, eq) refl in
        let long : 0 < length (at_least (get_or vs 0 0) e (rows (length p) f kept)) = omega (arith, some, rows-count) in
        record {
          size = size;
          next = ap (λ k. steps (walk 128 (drop 1 vs)) (get_or vs 0 0) (rows (length p) f kept) p k e) c
              ∙ unless_some _ _ long ∙ rw (at-zero f r h q, w, d, g) refl;
        }
