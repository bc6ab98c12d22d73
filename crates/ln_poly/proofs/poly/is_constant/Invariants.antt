use Rattle.std.proofs.Common.{◌≡◌, ℕ, ℤ, ◌<◌, List, [], get_or}
use Rattle.ln_poly.proofs.poly.is_constant.Given as goal

abbrev pub invariant-terms : goal.invariant-terms
invariant-terms l = (k : ℕ) (d : List (ℕ × ℕ) × ℤ) → k < l.t-index → (get_or l.terms k d).0 ≡ []
