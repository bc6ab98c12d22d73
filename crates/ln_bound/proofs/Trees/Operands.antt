-- Expressions with two operands, by their operation.
use Rattle.std.proofs.Common.{◌≡◌, ℕ, ◌<◌, ◌+◌, List, true, refl, arith, ap, subst, ◌∙◌}
use Rattle.std.proofs.lemmas.Bool.{and_parts}
use mathlib.Core.Logic.{◌⊎◌, inl, inr}
use Rattle.ln_base.specs.declared.span.Span.{Span}
use Rattle.ln_algebra.specs.Tree.{Tree}
use Rattle.ln_tree.specs.declared.expr.Node.{Node}
use Rattle.ln_tree.specs.declared.shape.VarInfo.{VarInfo}
use Rattle.ln_tree.specs.Fits.{is_fit}
use Rattle.ln_tree.specs.Formula.{Formula, FAdd, FSub, FMul, node_count, node_formula, tree}
use Rattle.ln_interval.specs.Range.{Range}
use Rattle.ln_bound.specs.declared.fitted.Two.{Two}
use Rattle.ln_bound.specs.declared.fitted.Two.TheVariants.{Plus, Minus, Times}
use Rattle.ln_bound.specs.Ranges.{HaveRange}
use Rattle.ln_bound.specs.Typed.{formula_of, kind_of_two, two_of}

-- what is a sum, a difference or a product has the formula of its operation
pub operands : (at : Span) (n x y z : Node) (f g : Formula) → (n ≡ x) ⊎ ((n ≡ y) ⊎ (n ≡ z)) → node_formula at x ≡ FAdd at f g
    → node_formula at y ≡ FSub at f g → node_formula at z ≡ FMul at f g
    → node_formula at n ≡ formula_of (kind_of_two (node_formula at n)) at f g
operands at n x y z f g (inl e) a b c = rw (e, a) refl
operands at n x y z f g (inr (inl e)) a b c = rw (e, b) refl
operands at n x y z f g (inr (inr e)) a b c = rw (e, c) refl

-- its tree is that of its operation
pub tree_two : (vars : List VarInfo) (k : Two) (at : Span) (f g : Formula) → tree vars (formula_of k at f g) ≡ two_of k (tree vars f) (tree vars g)
tree_two vars Plus at f g = refl
tree_two vars Minus at f g = refl
tree_two vars Times at f g = refl

-- a sum, difference or product has the nodes of both operands and one more
pub count_two : (k : Two) (at : Span) (f g : Formula) → node_count (formula_of k at f g) ≡ node_count f + node_count g + 1
count_two Plus at f g = refl
count_two Minus at f g = refl
count_two Times at f g = refl

-- both operands of a sum, difference or product fit the variables and lets where it does
pub fit_two : (n j : ℕ) (k : Two) (e f : Tree) → is_fit n j (two_of k e f) ≡ true → (is_fit n j e ≡ true) × (is_fit n j f ≡ true)
fit_two n j Plus e f h = and_parts (is_fit n j e) (is_fit n j f) h
fit_two n j Minus e f h = and_parts (is_fit n j e) (is_fit n j f) h
fit_two n j Times e f h = and_parts (is_fit n j e) (is_fit n j f) h

range_two : (vars : List VarInfo) (ps : List Range) (k : Two) (e f : Tree) → HaveRange vars ps (two_of k e f) → HaveRange vars ps e × HaveRange vars ps f
range_two vars ps Plus e f h = (h.0, h.1)
range_two vars ps Minus e f h = (h.0, h.1)
range_two vars ps Times e f h = (h.0, h.1)

-- what is known of an operation is known of both operands
pub record AreOperands (vars : List VarInfo) (ps : List Range) (n j : ℕ) (t : ℕ) (k : Two) (e f g : Formula) : Type 0 where
  pub form : tree vars e ≡ two_of k (tree vars f) (tree vars g)
  pub first_falls : node_count f < t
  pub second_falls : node_count g < t
  pub first_fits : is_fit n j (tree vars f) ≡ true
  pub second_fits : is_fit n j (tree vars g) ≡ true
  pub whole_range : HaveRange vars ps (two_of k (tree vars f) (tree vars g))
  pub first_range : HaveRange vars ps (tree vars f)
  pub second_range : HaveRange vars ps (tree vars g)

-- the operands of a sum, difference or product have fewer nodes, fit as it does, and have ranges within the limit as it has
pub are_operands : (vars : List VarInfo) (ps : List Range) (n j : ℕ) (t : ℕ) (k : Two) (at : Span) (e f g : Formula)
    → e ≡ formula_of k at f g → node_count e ≡ t
    → is_fit n j (tree vars e) ≡ true → HaveRange vars ps (tree vars e) → AreOperands vars ps n j t k e f g
are_operands vars ps n j t k at e f g q d h r =
    let q' : tree vars e ≡ two_of k (tree vars f) (tree vars g) = ap (tree vars) q ∙ tree_two vars k at f g in
    let c : node_count e ≡ node_count f + node_count g + 1 = ap node_count q ∙ count_two k at f g in
    let i : is_fit n j (two_of k (tree vars f) (tree vars g)) ≡ true = subst (λ z. is_fit n j z ≡ true) q' h in
    let s : HaveRange vars ps (two_of k (tree vars f) (tree vars g)) = subst (λ z. HaveRange vars ps z) q' r in
    record {
      form = q';
      first_falls = omega (arith, c, d);
      second_falls = omega (arith, c, d);
      first_fits = (fit_two n j k (tree vars f) (tree vars g) i).0;
      second_fits = (fit_two n j k (tree vars f) (tree vars g) i).1;
      whole_range = s;
      first_range = (range_two vars ps k (tree vars f) (tree vars g) s).0;
      second_range = (range_two vars ps k (tree vars f) (tree vars g) s).1;
    }
