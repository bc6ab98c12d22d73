-- Polynomials with one term at most.
use Rattle.std.proofs.Common.{◌≢◌, ◌<◌, ◌^◌, [], ◌∷◌, unsigned_abs}
use Rattle.std.proofs.Math.IntN.{ℤ, pos}
use Rattle.std.proofs.lemmas.List.Elements.{All-cons, All-nil}
use Rattle.std.specs.List.Sorted.{IsStrictlySortedBy}
use Rattle.std.specs.Ordering.{on}
use Rattle.ln_tree.specs.Exps.{IsRising, Pairs, pairs_cmp}
use Rattle.ln_poly.specs.Sparse.{IsFactor, IsPoly}

strict-nil : IsStrictlySortedBy (on (λ (t : Pairs × ℤ). t.0) pairs_cmp) []
unfolding IsStrictlySortedBy
strict-nil = tt

strict-one : (t : Pairs × ℤ) → IsStrictlySortedBy (on (λ (t : Pairs × ℤ). t.0) pairs_cmp) (t ∷ [])
unfolding IsStrictlySortedBy
strict-one t = (tt, tt)

-- the empty list of terms is a polynomial
pub no-terms : IsPoly []
no-terms = record { sorted = strict-nil; rising = All-nil (λ t. IsRising t.0); factors = All-nil (λ t. IsFactor t.1) }

-- one term with rising pairs and a factor other than 0, below 2^127, is a polynomial
pub one-term : (e : Pairs) (c : ℤ) → IsRising e → c ≢ pos 0 → unsigned_abs c < 2 ^ 127 → IsPoly ((e, c) ∷ [])
one-term e c r n f = record {
  sorted = strict-one (e, c);
  rising = All-cons (λ t. IsRising t.0) (e, c) [] r (All-nil (λ t. IsRising t.0));
  factors = All-cons (λ t. IsFactor t.1) (e, c) [] (n, f) (All-nil (λ t. IsFactor t.1));
}
