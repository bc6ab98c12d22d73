-- The block of a derivative, as it is made from a nested tree: it carries the derivative, its operations are few, and what it pushes is small.
use Rattle.std.proofs.Common.{◌≡◌, ◌⊎◌, inl, inr, ℕ, ◌+◌, ◌*◌, ◌<◌, ◌≤◌, zero, suc, max, true, List, [], ◌∷◌, length, map, get_or, refl}
use Rattle.std.proofs.Common.{sym, ◌∙◌, ap, subst, arith, Option, Some, None}
use Rattle.std.specs.Prelude.{Err, IfOk, Ok, Result, is_some, slice_get}
use Rattle.std.proofs.lemmas.Bool.{cases_lt}
use Rattle.std.proofs.lemmas.List.{get_or_past}
use Rattle.std.proofs.lemmas.List.Elements.{All-head, All-tail}
use Rattle.std.proofs.lemmas.List.Sums.{count_by-le-length}
use Rattle.ln_algebra.specs.Coefficient.{normal_coefficient}
use Rattle.ln_algebra.specs.Terms.{IsNormalOf, derived, factor_at}
use Rattle.ln_algebra.specs.Tree.{Tree}
use Rattle.ln_algebra.specs.Vector.{covers}
use Rattle.ln_tree.specs.declared.shape.VarInfo.{VarInfo}
use Rattle.ln_tree.specs.Exps.{IsAbove, IsRising, Pairs, vector}
use Rattle.ln_tree.proofs.Powers.{found, vector-get}
use Rattle.ln_bound.specs.declared.fitted.Fitted.{Fitted}
use Rattle.ln_bound.specs.declared.fitted.Width.{Width}
use Rattle.ln_bound.specs.Typed.{Typed, costs, polynomial, untyped}
use Rattle.ln_bound.specs.View.{typed}
use Rattle.ln_order.specs.Sites.{site_of}
use Rattle.ln_poly.specs.Derivative.{IsDerivative, covering}
use Rattle.ln_poly.specs.Lean.{AreLean, largest}
use Rattle.ln_poly.specs.Sparse.{AreRising, Sparse, coefficient_at, terms_of}
use Rattle.ln_poly.proofs.Derivations.Several.{over-vector}
use Rattle.ln_poly.proofs.TermLists.Exponents.{exponent-small}
use Rattle.ln_poly.proofs.TermLists.Products.{length-vector, over-terms}
use Rattle.ln_code.proofs.Engines.Runs.{some_is}
use Rattle.ln_code.specs.Carried.{CarriesDerivative}
use Rattle.ln_code.specs.Kept.{AreOfSites, FollowsRules, is_of_site}
use Rattle.ln_code.specs.NodePushes.{PushNodes, pushed_by}
use Rattle.ln_code.specs.Nodes.{IsNodeOf}
use Rattle.ln_code.specs.Part.{Code, known_of}
use Rattle.ln_code.specs.Pushes.{Pushed}
use Rattle.ln_code.specs.Rules.{Known}
use Rattle.ln_due.specs.Derivative.{IsDerivativeBlock}
use Rattle.ln_due.specs.Small.{AreSmall, BlockPushesSmall, IsSmall, known_tree}
use Rattle.ln_due.proofs.Derivatives.Deriving.{derivative-few}
use Rattle.ln_due.proofs.Derivatives.LeanNodes.{lean-nodes}
use Rattle.ln_due.proofs.Parts.Smallness.{small-same}

-- two facts on what a call returns
pub both : {X Y : Type 0} (r : Result X Y) (P Q : X → Type 0) → IfOk r P → IfOk r Q → IfOk r (λ x. P x × Q x)
both (Ok x) P Q p q = (p, q)
both (Err e) P Q p q = tt

-- a block whose value has the coefficients of the derivative carries it
pub carrying : (vars : List VarInfo) (f : Sparse) (c : Code) → FollowsRules vars c
    → ((k : Known) → known_of vars c ≡ Some k → IsNormalOf (length vars) k.tree (derived (vector (length vars) c.exps) (terms_of (length vars) f)))
    → CarriesDerivative vars (terms_of (length vars) f) c
carrying vars f c r h = let s = some_is (known_of vars c) r.answers in record { what = s.0; known = s.1; derivative = h s.0 s.1 }

-- ---- a derivative's block
-- a block that follows the rules and has the polynomial of a derivative is a block of that derivative
pub derivative-block : (vars : List VarInfo) (f h : Sparse) (a : Pairs) (lets : List Fitted) (t : Typed) (c : Code)
    → IsDerivative (length vars) f a h → lets ≡ [] → c.exps ≡ a → AreOfSites vars a → FollowsRules vars c
    → ((m : List ℕ) → length m ≡ length vars → polynomial [] t m ≡ coefficient_at (length vars) h m)
    → ((k : Known) → known_of vars c ≡ Some k → (m : List ℕ) → normal_coefficient k.tree m ≡ polynomial (map typed lets) t m)
    → BlockPushesSmall vars c → IsDerivativeBlock vars f c
derivative-block vars f h a lets t c d z e o r p q s = record {
  rules = r;
  of_sites = rw e o;
  carries = carrying vars f c r normal;
  small = s;
} where
  coefficients : (k : Known) → known_of vars c ≡ Some k → (m : List ℕ) → length m ≡ length vars
      → factor_at (derived (vector (length vars) a) (terms_of (length vars) f)) m ≡ normal_coefficient k.tree m
  coefficients k g m l = sym (q k g m ∙ ap (λ (us : List Fitted). polynomial (map typed us) t m) z ∙ p m l ∙ d.coefficients m l)

  normal : (k : Known) → known_of vars c ≡ Some k → IsNormalOf (length vars) k.tree (derived (vector (length vars) c.exps) (terms_of (length vars) f))
  normal k g = rw e (record { over = over-vector (length vars) a (terms_of (length vars) f) (over-terms (length vars) f); coefficients = coefficients k g })

-- its operations
pub derivative-ops : (ops cost costs terms cover : ℕ) → ops ≤ 4 * (cost + costs) + 64 → costs ≡ 0 → cost ≤ max 1 (1024 * terms)
    → terms ≤ cover → ops ≤ 4096 * cover + 68
derivative-ops ops cost costs terms cover h z l k = omega (arith, h, z, l, k)

-- an empty list of lets costs nothing
pub no-costs : (lets : List Fitted) → lets ≡ [] → costs (map typed lets) ≡ 0
no-costs lets e = ap (λ (us : List Fitted). costs (map typed us)) e

-- ---- exponents of coordinates of sites
site-there : (vars : List VarInfo) (v : ℕ) → v < length vars → (site_of vars v ≡ None → ⊥) → is_of_site (slice_get vars v) ≡ true
site-there [] v h n = absurd (omega arith)
site-there (i ∷ is) zero h n = go i.site n where
  go : (o : Option ℕ) → (o ≡ None → ⊥) → is_some o ≡ true
  go None k = absurd (k refl)
  go (Some s) k = refl
site-there (i ∷ is) (suc v) h n = site-there is v (omega arith) n

-- exponents that are 0 for each variable without a site are of coordinates of sites
pub of-sites : (vars : List VarInfo) (a : Pairs) → IsRising a → IsAbove a (length vars)
    → ((v : ℕ) → site_of vars v ≡ None → get_or (vector (length vars) a) v 0 ≡ 0) → AreOfSites vars a
of-sites vars [] r b h = tt
of-sites vars (p ∷ ps) r b h = (here, of-sites vars ps r.3 b.1 (λ v e. rest v (cases_lt v (length vars)) e)) where
  here : is_of_site (slice_get vars p.0) ≡ true
  here =
      site-there vars p.0 b.0 (λ e. absurd (omega (arith, h p.0 e, vector-get (length vars) p.0 (p ∷ ps) b.0, found p.0 (p ∷ ps) 0 r (omega arith) refl, r.0)))

  rest : (v : ℕ) → (v < length vars) ⊎ (length vars ≤ v) → site_of vars v ≡ None → get_or (vector (length vars) ps) v 0 ≡ 0
  rest v (inl l) e = omega (arith, h v e, vector-get (length vars) v (p ∷ ps) l, vector-get (length vars) v ps l)
  rest v (inr l) e = get_or_past (vector (length vars) ps) v 0 (omega (arith, l, length-vector 0 (length vars) ps))

-- ---- what it pushes
-- what is a node of a small tree is small
pub pushes-small : (n : ℕ) (is_node : Tree → Width → Type 0) (ps : List (Pushed Known))
    → ((e : Tree) (v : Width) → is_node e v → IsSmall n e) → PushNodes is_node ps → AreSmall known_tree n ps
pushes-small n is_node [] h ns = tt
pushes-small n is_node (p ∷ ps) h ns = (small-same n p.value.tree ns.0.node ns.0.same (h ns.0.node ns.0.width ns.0.there), pushes-small n is_node ps h ns.1)

-- so none of a polynomial
largest-small : (f : Sparse) (v : ℕ) → AreRising f → largest f v < 128
largest-small [] v r = omega arith
largest-small (t ∷ f) v r = omega (arith, exponent-small t.0 v (All-head (λ u. IsRising u.0) t f r), largest-small f v (All-tail (λ u. IsRising u.0) t f r))

-- no more terms cover a vector than there are
covering-most : (n : ℕ) (f : Sparse) (a : List ℕ) → covering n f a ≤ length f
covering-most n f a = count_by-le-length (λ t. covers (vector n t.0) a) f

-- so what a derivative's block pushes is small
pub derivative-pushes : (vars : List VarInfo) (f h : Sparse) (a : Pairs) (lets : List Fitted) (t : Typed) (c : Code)
    → IsDerivative (length vars) f a h → length f ≤ 1024 → lets ≡ [] → AreLean (length vars) (max 1 (length h)) (largest h) (untyped t)
    → PushNodes (IsNodeOf (map typed lets) t) (pushed_by vars c) → BlockPushesSmall vars c
derivative-pushes vars f h a lets t c d few z lean nodes =
    let l : length h ≤ covering (length vars) f (vector (length vars) a) = derivative-few (length vars) f h a d in
    pushes-small (length vars) (IsNodeOf [] t) (pushed_by vars c)
    (λ e w i. lean-nodes (length vars) (max 1 (length h)) (largest h)
    (omega (arith, l, covering-most (length vars) f (vector (length vars) a), few)) (λ v. largest-small h v d.form.rising) t e w lean i)
    (subst (λ (us : List Fitted). PushNodes (IsNodeOf (map typed us) t) (pushed_by vars c)) z nodes)
