use Rattle.std.proofs.Common.{◌≡◌, ℕ, ◌-◌, ◌<◌, List, length, get_or}
use Rattle.ln_poly.specs.Derivative.{IsColumn}
use Rattle.ln_poly.proofs.binomials.Binomials.new.Given as goal

abbrev pub invariant-columns : goal.invariant-columns
invariant-columns l = record {
  column : IsColumn l.c l.k (128 - l.k);
  size : length l.columns.items ≡ l.k;
  each : (j : ℕ) (d : List ℕ) → j < l.k → IsColumn (get_or l.columns.items j d) j (128 - j);
}
