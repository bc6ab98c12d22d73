use Rattle.std.proofs.Common.{◌≡◌, ℕ, ◌<◌, ◌≤◌, ◌+◌, get_or}
use Rattle.ln_algebra.specs.Terms.{binomial}
use Rattle.ln_poly.proofs.binomials.raise.Given as goal

abbrev pub invariant-column : goal.invariant-column
invariant-column l = record {
  sum : l.sum ≡ binomial (l.k + l.i) (l.k + 1);
  done : (j : ℕ) → j < l.i → get_or l.c j 0 ≡ binomial (l.k + 1 + j) (l.k + 1);
  left : (j : ℕ) → l.i ≤ j → j < l.n → get_or l.c j 0 ≡ binomial (l.k + j) l.k;
}
