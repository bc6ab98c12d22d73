-- How many operations a filter has.
use Rattle.std.proofs.Common.{◌≡◌, ℕ, ◌*◌, ◌≤◌, List, [], ◌∷◌, length, refl, zero, suc, arith}
use Rattle.ln_tree.specs.declared.shape.VarInfo.{VarInfo}
use Rattle.ln_bound.specs.Typed.{Typed, cost, costs}
use Rattle.ln_code.specs.declared.op.Triple.{Triple}
use Rattle.ln_code.specs.StackCode.{division}
use Rattle.ln_code.proofs.Building.Sizes.{Weighs, cost_positive, per, weights}
use Rattle.ln_filter.specs.Triples.{align, cut, excess}
use Rattle.ln_filter.proofs.Operations.Style.{style_in}

per_three : (n : ℕ) → per 1 n ≡ 3 * n
per_three zero = refl
per_three (suc n) = let h = per_three n in omega (arith, h)

cut_cost : (n : ℕ) (a : Triple) → length (division cut n a) ≤ 1
cut_cost zero a = omega arith
cut_cost (suc n) a = omega arith

-- at most six operations for each that a tree costs
pub filter_weighs : (vars : List VarInfo) (lets : List Typed) → Weighs (style_in vars lets) 1 (λ t. 6 * cost t)
filter_weighs vars lets = record {
  excess = λ a. cut_cost (excess a.h) a;
  align = λ o a b. cut_cost (align o a b) a;
  least = λ t. let h = cost_positive t in omega (arith, h);
  opposite = λ t p w. omega arith;
  two = λ o t u p w. omega arith;
  raised = λ t n p w. let h = per_three n in omega (arith, h);
}

-- so for several trees
pub all_weigh : (ts : List Typed) → weights (λ t. 6 * cost t) ts ≡ 6 * costs ts
all_weigh [] = refl
all_weigh (t ∷ ts) = let h = all_weigh ts in omega (arith, h)
