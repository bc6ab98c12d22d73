-- The predicates of a table, judged one after the other.
use Rattle.std.proofs.Common.{◌≡◌, inl, inr, ℕ, ◌+◌, ◌<◌, ◌≤◌, List, [], ◌∷◌, ◌++◌, length, map, take, drop, get_or, refl, ap}
use Rattle.std.proofs.Common.{sym, subst, ◌∙◌, arith}
use Rattle.std.specs.List.{AllByRecursion}
use Rattle.std.proofs.lemmas.List.{length-map, length-take-le}
use Rattle.ln_base.specs.declared.span.Span.{Span}
use Rattle.ln_tree.specs.declared.expr.Expr.{Expr}
use Rattle.ln_tree.specs.declared.expr.Node.{Node}
use Rattle.ln_tree.specs.declared.expr.Node.TheVariants.{Num, Input, Name, Neg', Add', Sub', Mul', Pow'}
use Rattle.ln_tree.specs.Formula.{formula, node_formula}
use Rattle.ln_tree.specs.declared.pred.Pred.{Pred}
use Rattle.ln_tree.specs.Table.{PredOf, TableOf, pred_of}
use Rattle.ln_algebra.specs.Weights.{weighted_sum}
use Rattle.ln_bound.specs.Light.{AreLight, IsBoundFault, most}
use Rattle.ln_bound.specs.Value.{weights}
use Rattle.ln_poly.specs.Sparse.{Sparse, terms_of}
use Rattle.ln_poly.specs.Expansion.{HaveFewTerms, IsNormal, IsTermsFault}
use Rattle.ln_poly.proofs.TermLists.Counting.{no-terms-zero}
use Rattle.ln_stage.proofs.Results.SamePoly.{one-normal}
use Rattle.ln_parse.specs.declared.source.ParseStop.{ParseStop}
use Rattle.ln_parse.specs.Text.{TextOf}
use Rattle.ln_parse.specs.Fault.{IsRefusal as IsParseRefusal}
use Rattle.ln_compile.specs.declared.refusal.Refusal.{Refusal}
use Rattle.ln_compile.specs.declared.refusal.Refusal.TheVariants.{Bound, Terms, Zero}
use Rattle.ln_compile.specs.Accepted.{AreSound, IsHeavyFault, expanded_of, loaded_of, root_of}
use Rattle.ln_compile.specs.Refused.{IsPredFault, IsRefusal, StopsPred, StopsPreds, bound, heavy, of_pred, of_text, refusal_of, terms}
use Rattle.ln_compile.specs.Refused.{token_of, zero as zero_root}
use Rattle.ln_compile.proofs.Making.BuildingLemmas.{parted}

-- one more
pub all-more : {X : Type 0} (P : X → Type 0) (xs : List X) (x : X) → AllByRecursion P xs → P x → AllByRecursion P (xs ++ x ∷ [])
all-more P [] x h l = (l, tt)
all-more P (y ∷ xs) x h l = (h.0, all-more P xs x h.1 l)

-- the first predicate with a fault
pub first_fault : (preds : List Pred) (i : ℕ) (p : Pred) (r : Refusal) → i < length preds → p ≡ get_or preds i p
    → AreSound (map pred_of (take i preds)) → StopsPred i (pred_of p) r → StopsPreds (map pred_of preds) r
first_fault preds i p r h e s (inr n) = inr n
first_fault preds i p r h e s (inl f) =
    let number : length (map pred_of (take i preds)) ≡ i = length-map (take i preds) pred_of ∙ length-take-le i preds (omega (arith, h)) in
    inl (record {
      before = map pred_of (take i preds);
      pred = pred_of p;
      after = map pred_of (drop (i + 1) preds);
      stands = parted preds i p h e;
      sound = s;
      fault = subst (λ k. IsPredFault k (pred_of p) r) (sym number) f;
    })

-- ---- the refusals of one predicate
-- a predicate with a range or a size that is too large at a node is refused for the first such node
pub bound_stops : (k : ℕ) (p : PredOf) (at : Span) → IsBoundFault (loaded_of p) at → StopsPred k p (Bound k at)
bound_stops k p at f = inl (bound f)

-- a predicate with too many terms at a node is refused for it, where no range and no size is too large
pub terms_stops : (k : ℕ) (p : PredOf) (at : Span) → AreLight (loaded_of p) → IsTermsFault (length p.vars) (expanded_of p) at → StopsPred k p (Terms k at)
terms_stops k p at l f = inl (terms l f)

-- a predicate that is too large as a whole is refused for it at the root's own token, where it has none of the faults before
pub heavy_stops : (k : ℕ) (p : PredOf) (f : Sparse) (at : Span) → at ≡ token_of p.root → AreLight (loaded_of p) → HaveFewTerms (length p.vars) (expanded_of p)
    → IsNormal (length p.vars) (root_of p) f → most < weighted_sum (weights p.vars) (terms_of (length p.vars) f) → StopsPred k p (Bound k at)
heavy_stops k p f at e l t n h = rw e (inl (heavy l t (record { poly = f; normal = n; heavy = h })))

-- a predicate whose normal polynomial is 0 is refused for it, where it has none of the faults before
pub zero_stops : (k : ℕ) (p : PredOf) (f : Sparse) → AreLight (loaded_of p) → HaveFewTerms (length p.vars) (expanded_of p)
    → (IsHeavyFault p → ⊥) → IsNormal (length p.vars) (root_of p) f → f ≡ [] → StopsPred k p (Zero k p.at)
zero_stops k p f l t w n e = inl (zero_root l t w (no-terms-zero (length p.vars) (root_of p) f n e))

-- an expression has one normal polynomial, so a predicate is no heavier as a whole than it
pub not_heavy : (p : PredOf) (f : Sparse) → IsNormal (length p.vars) (root_of p) f
    → weighted_sum (weights p.vars) (terms_of (length p.vars) f) ≤ most → IsHeavyFault p → ⊥
not_heavy p f n l h =
    let q : h.poly ≡ f = one-normal (length p.vars) (root_of p) h.poly f h.normal n in
    let k = h.heavy in
    omega (arith, l, k, ap (λ (g : Sparse). weighted_sum (weights p.vars) (terms_of (length p.vars) g)) q)

-- ---- the token of an expression
-- the token of an expression is that of its formula
pub own_token : (e : Expr) → e.at ≡ token_of (formula e)
own_token e = by_node e.at e.node
  where
    by_node : (at : Span) (n : Node) → at ≡ token_of (node_formula at n)
    by_node at (Num c) = refl
    by_node at (Input v) = refl
    by_node at (Name j) = refl
    by_node at (Neg' q a x) = refl
    by_node at (Add' q a x r b y) = refl
    by_node at (Sub' q a x r b y) = refl
    by_node at (Mul' q a x r b y) = refl
    by_node at (Pow' q a x n) = refl

-- ---- the refusals of a source
-- the refusal of a source's text is the refusal of the source
pub text_refusal : (bytes : List ℕ) (e : ParseStop) → IsParseRefusal bytes e → IsRefusal bytes (refusal_of e)
text_refusal bytes e (inl f) = inl (of_text f)
text_refusal bytes e (inr n) = inr (ap refusal_of n)

-- the refusal of the predicates of a source's table is the refusal of the source
pub pred_refusal : (bytes : List ℕ) (t : TableOf) (r : Refusal) → TextOf bytes t → StopsPreds t.preds r → IsRefusal bytes r
pred_refusal bytes t r x (inl f) = inl (of_pred t x f)
pred_refusal bytes t r x (inr n) = inr n
