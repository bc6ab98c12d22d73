-- Blocks as they are made.
use Rattle.std.proofs.Common.{true≢false, ◌↔◌, ◌≡◌, ℕ, ◌+◌, ◌*◌, ◌≤◌, List, [], length, map, refl, sym, ◌∙◌, ap, subst, arith, Option, Some, None}
use Rattle.std.specs.Prelude.{ℤ, IfSome, IsSome}
use Rattle.ln_algebra.specs.Coefficient.{normal_coefficient}
use Rattle.ln_algebra.proofs.Vectors.Zeros.{derived-zeros}
use Rattle.ln_algebra.specs.Terms.{IsNormalOf, derived}
use Rattle.ln_algebra.specs.Tree.{inlined, inlined_after}
use Rattle.ln_base.specs.Limits.{most_weight}
use Rattle.ln_tree.specs.declared.pred.Pred.{Pred}
use Rattle.ln_tree.specs.declared.shape.VarInfo.{VarInfo}
use Rattle.ln_tree.specs.Exps.{Pairs, vector}
use Rattle.ln_tree.specs.Formula.{formula, tree, tree_of}
use Rattle.ln_tree.specs.Row.{AreWithin}
use Rattle.ln_tree.specs.Table.{PredOf, pred_of}
use Rattle.ln_bound.specs.declared.fitted.Fitted.{Fitted}
use Rattle.ln_bound.specs.Exact.{AreExact, IsExact}
use Rattle.ln_bound.specs.Typed.{Typed, polynomial, untyped}
use Rattle.ln_bound.specs.View.{typed}
use Rattle.ln_poly.specs.Expansion.{IsNormal}
use Rattle.ln_poly.specs.Sparse.{Sparse, terms_of}
use Rattle.ln_bound.proofs.Soundness.KeptLaws.{trees_of_formulas}
use Rattle.ln_poly.proofs.TermLists.Products.{over-terms}
use Rattle.ln_code.specs.Carried.{CarriesWhole}
use Rattle.ln_code.specs.FilterRules.{FilterKnown}
use Rattle.ln_code.specs.Kept.{FollowsFilterRules, FollowsRules}
use Rattle.ln_code.specs.Part.{Code, FilterCode, filter_known_of, filter_value, known_of, lines_of, ops_in_filter}
use Rattle.ln_code.specs.Rules.{Known}
use Rattle.ln_due.specs.Derivative.{IsDerivativeBlock}
use Rattle.ln_due.specs.Small.{BlockPushesSmall}
use Rattle.ln_due.proofs.Derivatives.Blocks.{carrying}
use Rattle.ln_lower.specs.StackCode.{IsCodeOf}
use Rattle.ln_nest.specs.Nested.{nested_form}
use Rattle.ln_filter.specs.Steady.{HasFilter}
use Rattle.ln_filter.specs.Truncated.{root_number, root_triple}
use Rattle.ln_compile.specs.Accepted.{lets_of, own_root, root_of}
use Rattle.ln_compile.specs.Compiled.{IsFilterOf, IsFromExact, IsOwn}
use Rattle.ln_poly.specs.Derivative.{IsDerivative}
use Rattle.ln_poly.proofs.Expansions.Normals.{vector-none}

-- ---- a derivative's block
-- a block whose code is that of a derivative's exact nested form is made from an exact tree
pub derivative-exact : (vars : List VarInfo) (f h : Sparse) (a : Pairs) (lets : List Fitted) (t : Typed) (c : Code)
    → IsDerivative (length vars) f a h → lets ≡ [] → c.exps ≡ a → IsExact vars [] t → untyped t ≡ nested_form (length vars) (terms_of (length vars) h)
    → IsCodeOf (map typed lets) t (lines_of c.ops c.pairs) → IsFromExact vars f c
derivative-exact vars f h a lets t c d z e x w ls = record {
  lets = [];
  root = t;
  exact_lets = tt;
  exact_root = x;
  code = subst (λ (us : List Fitted). IsCodeOf (map typed us) t (lines_of c.ops c.pairs)) z ls;
  nested = λ n. record { no_lets = refl; poly = h; derivative = subst (λ (b : Pairs). IsDerivative (length vars) f b h) (sym e) d; form = w };
}

-- ---- the source's own block
-- what the sized trees stand for
sized-whole : (p : Pred) (lets : List Fitted) (root : Fitted) → map untyped (map typed lets) ≡ map (tree_of p.shape.vars) p.lets
    → untyped (typed root) ≡ tree_of p.shape.vars p.root
    → (m : List ℕ) → polynomial (map typed lets) (typed root) m ≡ normal_coefficient (root_of (pred_of p)) m
sized-whole p lets root l r m =
    ap (λ ts. normal_coefficient (inlined (inlined_after [] ts) (untyped (typed root))) m) (l ∙ sym (trees_of_formulas p.shape.vars p.lets))
    ∙ ap (λ t. normal_coefficient (inlined (inlined_after [] (map (tree p.shape.vars) (map formula p.lets))) t) m) r

-- a block without exponents, whose code is that of the source's lets and root with exact ranges, is the source's own block
pub own-made : (p : Pred) (lets : List Fitted) (root : Fitted) (c : Code) (a : Pairs) → a ≡ [] → c.exps ≡ a
    → map untyped (map typed lets) ≡ map (tree_of p.shape.vars) p.lets → untyped (typed root) ≡ tree_of p.shape.vars p.root
    → AreExact p.shape.vars [] (map typed lets) → IsExact p.shape.vars (map typed lets) (typed root)
    → IsCodeOf (map typed lets) (typed root) (lines_of c.ops c.pairs) → IsOwn (pred_of p) c
own-made p lets root c a z e l r x y n = record {
  plain = e ∙ z;
  lets = map typed lets;
  of_lets = l ∙ sym (trees_of_formulas p.shape.vars p.lets);
  root = typed root;
  of_root = r;
  exact_lets = x;
  exact_root = y;
  code = n;
}

-- it is made from an exact tree
pub own-exact : (p : PredOf) (f : Sparse) (c : Code) → IsOwn p c → IsFromExact p.vars f c
own-exact p f c o = record {
  lets = o.lets;
  root = o.root;
  exact_lets = o.exact_lets;
  exact_root = o.exact_root;
  code = o.code;
  nested = λ n. absurd (n o.plain);
}

-- and is a block of the derivative by no exponents
pub own-carries : (p : Pred) (lets : List Fitted) (root : Fitted) (c : Code) (a : Pairs) (f : Sparse) → a ≡ [] → c.exps ≡ a
    → map untyped (map typed lets) ≡ map (tree_of p.shape.vars) p.lets → untyped (typed root) ≡ tree_of p.shape.vars p.root
    → FollowsRules p.shape.vars c
    → ((k : Known) → known_of p.shape.vars c ≡ Some k → (m : List ℕ) → normal_coefficient k.tree m ≡ polynomial (map typed lets) (typed root) m)
    → IsNormal (length p.shape.vars) (root_of (pred_of p)) f → BlockPushesSmall p.shape.vars c → IsDerivativeBlock p.shape.vars f c
own-carries p lets root c a f z e l r fr q h b = record {
  rules = fr;
  of_sites = rw (e ∙ z) tt;
  carries = carrying p.shape.vars f c fr normal;
  small = b;
} where
  none : derived (vector (length p.shape.vars) c.exps) (terms_of (length p.shape.vars) f) ≡ terms_of (length p.shape.vars) f
  none = ap (λ x. derived (vector (length p.shape.vars) x) (terms_of (length p.shape.vars) f)) (e ∙ z)
      ∙ ap (λ x. derived x (terms_of (length p.shape.vars) f)) (vector-none 0 (length p.shape.vars))
      ∙ derived-zeros (length p.shape.vars) (terms_of (length p.shape.vars) f) (over-terms (length p.shape.vars) f)

  normal : (k : Known) → known_of p.shape.vars c ≡ Some k
      → IsNormalOf (length p.shape.vars) k.tree (derived (vector (length p.shape.vars) c.exps) (terms_of (length p.shape.vars) f))
  normal k g = rw none (record {
    over = over-terms (length p.shape.vars) f;
    coefficients = λ m s. h.normal.coefficients m s ∙ sym (q k g m ∙ sized-whole p lets root l r m);
  })

-- ---- the filter
-- a filter that stands for the sized trees carries the whole
pub filter-carries : (p : Pred) (lets : List Fitted) (root : Fitted) (o : Option FilterCode) (f : Sparse)
    → map untyped (map typed lets) ≡ map (tree_of p.shape.vars) p.lets → untyped (typed root) ≡ tree_of p.shape.vars p.root
    → IfSome o (FollowsFilterRules p.shape.vars) → IfSome o (λ c. (k : FilterKnown) → filter_known_of p.shape.vars c ≡ Some k → (m : List ℕ)
    → normal_coefficient k.tree m ≡ polynomial (map typed lets) (typed root) m)
    → IsNormal (length p.shape.vars) (root_of (pred_of p)) f → IfSome o (CarriesWhole p.shape.vars (terms_of (length p.shape.vars) f))
filter-carries p lets root None f l r fr q h = tt
filter-carries p lets root (Some c) f l r fr q h = record {
  what = fr.what;
  known = fr.known;
  whole = record {
    over = over-terms (length p.shape.vars) f;
    coefficients = λ m s. h.normal.coefficients m s ∙ sym (q fr.what fr.known m ∙ sized-whole p lets root l r m);
  };
}

-- and it is the predicate's
filter-here : (p : PredOf) (o : Option FilterCode) → (IsSome o ↔ HasFilter p.vars (lets_of p) (own_root p))
    → IfSome o (λ c. (zs : List ℤ) → AreWithin p.vars zs → filter_value zs c ≡ Some (record {
      number = root_number p.vars zs (lets_of p) (own_root p);
      error = (root_triple p.vars (lets_of p) (own_root p)).e;
    })) → IsFilterOf p o
filter-here p None w v = λ h. absurd (true≢false (sym (w.1 h)))
filter-here p (Some c) w v = (w.0 refl, v)

-- the filter of a predicate's sized trees, where they have one, is the predicate's
pub filter-of : (p : Pred) (lets : List Fitted) (root : Fitted) (o : Option FilterCode)
    → map untyped (map typed lets) ≡ map (tree_of p.shape.vars) p.lets → untyped (typed root) ≡ tree_of p.shape.vars p.root
    → (IsSome o ↔ HasFilter p.shape.vars (map untyped (map typed lets)) (untyped (typed root)))
    → IfSome o (λ c. (zs : List ℤ) → AreWithin p.shape.vars zs → filter_value zs c ≡ Some (record {
      number = root_number p.shape.vars zs (map untyped (map typed lets)) (untyped (typed root));
      error = (root_triple p.shape.vars (map untyped (map typed lets)) (untyped (typed root))).e;
    })) → IsFilterOf (pred_of p) o
filter-of p lets root o l r w v =
    let ts : map untyped (map typed lets) ≡ lets_of (pred_of p) = l ∙ sym (trees_of_formulas p.shape.vars p.lets) in
    let t : untyped (typed root) ≡ own_root (pred_of p) = r in
    filter-here (pred_of p) o (rw (sym ts, sym t) w) (rw (sym ts, sym t) v)

-- a filter has few operations where its expression is cheap
pub filter-small : (o : Option FilterCode) (k : ℕ) → IfSome o (λ f. length f.ops ≤ 8 * k + 64) → k ≤ most_weight → ops_in_filter o ≤ 1048640
filter-small None k h l = omega arith
filter-small (Some f) k h l = omega (arith, h, l)
