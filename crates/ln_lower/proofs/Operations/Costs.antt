-- How many operations a block has.
use Rattle.std.proofs.Common.{◌≡◌, ℕ, ◌*◌, List, [], ◌∷◌, refl, zero, suc, arith}
use Rattle.ln_bound.specs.Typed.{Typed, cost, costs}
use Rattle.ln_code.proofs.Building.Sizes.{Weighs, cost_positive, per, weights}
use Rattle.ln_lower.specs.StackCode.{block_style}

per_two : (n : ℕ) → per 0 n ≡ 2 * n
per_two zero = refl
per_two (suc n) = let h = per_two n in omega (arith, h)

-- at most three operations for each that a tree costs
pub block_weighs : Weighs block_style 0 (λ t. 3 * cost t)
block_weighs = record {
  excess = λ b. omega arith;
  align = λ o a b. omega arith;
  least = λ t. let h = cost_positive t in omega (arith, h);
  opposite = λ t p w. omega arith;
  two = λ o t u p w. omega arith;
  raised = λ t n p w. let h = per_two n in omega (arith, h);
}

-- so for several trees
pub all_weigh : (ts : List Typed) → weights (λ t. 3 * cost t) ts ≡ 3 * costs ts
all_weigh [] = refl
all_weigh (t ∷ ts) = let h = all_weigh ts in omega (arith, h)
