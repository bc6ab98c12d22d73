-- Proves that no exponent of a list of rising pairs is above 127.
use Rattle.std.proofs.Common.{◌≡◌, ◌⊎◌, inl, inr, ℕ, ◌<◌, [], ◌∷◌, arith}
use Rattle.std.proofs.lemmas.Bool.{cases_eq}
use Rattle.ln_tree.specs.Exps.{IsRising, Pairs, exponent}
use Rattle.ln_tree.proofs.Powers.{all_above-none, power-apart, power-here}

-- none is above 127
pub exponent-small : (ps : Pairs) (v : ℕ) → IsRising ps → exponent v ps < 128
exponent-small [] v r = omega arith
exponent-small (p ∷ ps) v r = by_case (cases_eq p.0 v) (exponent-small ps v r.3) where
  by_case : (p.0 ≡ v) ⊎ (p.0 ≡ v → ⊥) → exponent v ps < 128 → exponent v (p ∷ ps) < 128
  by_case (inl e) ih = omega (arith, power-here v p e, all_above-none v ps (rw e at r.2), r.1)
  by_case (inr ne) ih = omega (arith, power-apart v p ne, ih)
