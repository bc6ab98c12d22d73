-- `decide` and `end`: the one value of a stack.
use Rattle.std.proofs.Common.{◌≡◌, ◌↔◌, ℕ, ◌≤◌, ◌<◌, ◌-◌, Bool, true, List, [], ◌∷◌, ◌++◌, length, reverse, get_or, refl, sym, ap, arith, subst, ◌∙◌}
use Rattle.std.specs.Prelude.{◌==◌, Option, IsTrue}
use Rattle.std.proofs.lemmas.Bool.{eqb-true}
use Rattle.std.proofs.lemmas.List.{get_or_push, length-append, length-reverse}
use Rattle.ln_algebra.specs.Terms.{IsNormalOf, derived, factor_at}
use Rattle.ln_algebra.specs.Tree.{Tree}
use Rattle.ln_tree.specs.Exps.{IsAbove, Pairs, vector}
use Rattle.ln_bound.specs.declared.fitted.Width.TheVariants.{W64}
use Rattle.ln_bound.specs.Widths.{limit}
use Rattle.ln_poly.specs.Expansion.{IsNormal}
use Rattle.ln_poly.specs.Sparse.{terms_of, AreBelow, IsPoly, Sparse, coefficient_at}
use Rattle.ln_code.specs.Engine.{State}
use Rattle.ln_code.specs.FilterRules.{FilterKnown}
use Rattle.ln_code.specs.Rules.{Known}
use Rattle.ln_verify.specs.Line.{Subject}
use Rattle.ln_verify.specs.Values.{Paired, IsFor}
use Rattle.ln_verify.specs.declared.value.Value.{Value}
use Rattle.ln_verify.specs.Here.{AreAbove, BlockEnds, FilterDecides}
use Rattle.ln_verify.specs.Rules.{in_range, in_triple}
use Rattle.ln_verify.specs.Works.{BlockStack, FilterStack, IsBlockStack, IsFilterStack}
use Rattle.ln_verify.specs.declared.ranged.Ranged.{Ranged}
use Rattle.ln_code.specs.declared.op.Triple.{Triple}
use Rattle.ln_verify.proofs.Engines.Steps.{for-length}
use Rattle.ln_poly.proofs.TermLists.Products.{over-terms}
use Rattle.ln_poly.proofs.Derivations.Several.{over-vector}
use Rattle.ln_stage.proofs.Results.SamePoly.{one-normal}

-- the last of a list with one more at the end is that one
pub last-is : (xs es : List Pairs) (a d : Pairs) → xs ≡ es ++ a ∷ [] → get_or xs (length xs - 1) d ≡ a
last-is xs es a d e =
    let i : length es ≡ length xs - 1 = omega (arith, ap length e, length-append es (a ∷ [])) in
    ap (λ ys. get_or ys (length xs - 1) d) e ∙ get_or_push es a d (length xs - 1) i

-- and its variables are below n, where those of all are
pub last-above : (n : ℕ) (xs es : List Pairs) (a : Pairs) → xs ≡ es ++ a ∷ [] → AreAbove n xs → IsAbove a n
last-above n xs es a e h =
    subst (λ (x : Pairs). IsAbove x n) (last-is xs es a [] e) (h (length xs - 1) [] (omega (arith, ap length e, length-append es (a ∷ []))))

-- a list with one more at the end isn't empty
pub not-empty : (xs es : List Pairs) (a : Pairs) → true ≡ (length xs == 0) → xs ≡ es ++ a ∷ [] → ⊥
not-empty xs es a h e = omega (arith, eqb-true (length xs) 0 (sym h), ap length e, length-append es (a ∷ []))

heads-same : {K : Type 0} (j k : K) (xs : List K) → xs ≡ j ∷ [] → xs ≡ k ∷ [] → j ≡ k
heads-same j k xs e f = cc

-- ---- one value
module _ {L K : Type 0} (known : L → Tree → ℕ → K) (n : ℕ) (xs : List (Value L)) (ks : List K) (i : Paired (IsFor known n) (reverse xs) ks) where
  -- without just one value on a stack in code, the stack that it is for hasn't just one
  pub not-one : (length xs ≡ 1 → ⊥) → (k : K) → ks ≡ k ∷ [] → ⊥
  not-one l k e = l (sym (length-reverse xs) ∙ for-length (IsFor known n) (reverse xs) ks i ∙ ap length e)

  one-value : (x : Value L) → length xs ≡ 1 → x ≡ get_or xs 0 x → (k : K) × (ks ≡ k ∷ []) × IsFor known n x k
  one-value x l e = go xs ks l e i
    where
      go : (xs : List (Value L)) (ks : List K) → length xs ≡ 1 → x ≡ get_or xs 0 x → Paired (IsFor known n) (reverse xs) ks
          → (k : K) × (ks ≡ k ∷ []) × IsFor known n x k
      go (y ∷ []) (k ∷ []) l e h = (k, refl, subst (λ (z : Value L). IsFor known n z k) (sym e) h.0)
      go (y ∷ []) (k ∷ (j ∷ ks)) l e h = absurd h.1
      go (y ∷ []) [] l e h = absurd h
      go xs ks l e h = absurd (omega (arith, l))

-- ---- blocks
-- with one value on the stack of a block, the test of its polynomial decides whether `end` holds
pub block_stack-ends : (p : Subject) (a : Pairs) (b : BlockStack) (s : State Known (ℕ → Option Known)) (x : Value Ranged) (ok : Bool) →
    length b.values.items ≡ 1 → x ≡ get_or b.values.items 0 x → IsBlockStack (length p.vars) b s →
    ((t : Tree) → IsNormal (length p.vars) t x.poly →
    IsTrue ok ↔ IsNormalOf (length p.vars) t (derived (vector (length p.vars) a) (terms_of (length p.vars) p.poly))) → IsTrue ok ↔ BlockEnds p a s
block_stack-ends p a b s x ok l e i h =
    let n : ℕ = length p.vars in
    let o = one-value in_range n b.values.items s.stack i.stack x l e in
    let f : IsFor in_range n x o.0 = o.2 in
    let r = h o.0.tree (subst (λ (z : Tree). IsNormal n z x.poly) (sym (ap (λ (k : Known). k.tree) f.is)) f.normal) in (
      λ t. record { left = o.0; one = o.1; derivative = r.0 t },
      λ q. r.1 (subst (λ (k : Known). IsNormalOf n k.tree (derived (vector n a) (terms_of n p.poly))) (heads-same q.left o.0 s.stack q.one o.1) q.derivative),
    )

-- ---- filters
-- where the error of the one number of a filter exceeds 64 bits, `decide` doesn't hold
pub filter_stack-wide : (p : Subject) (b : FilterStack) (s : State FilterKnown (ℕ → Option FilterKnown)) (x : Value Triple) → length b.values.items ≡ 1
    → x ≡ get_or b.values.items 0 x → IsFilterStack (length p.vars) b s → limit W64 < x.limits.e → FilterDecides p s → ⊥
filter_stack-wide p b s x l e i w q =
    let o = one-value in_triple (length p.vars) b.values.items s.stack i.stack x l e in
    let f : IsFor in_triple (length p.vars) x o.0 = o.2 in
    let z : q.left.triple.e ≡ x.limits.e =
    ap (λ (k : FilterKnown). k.triple.e) (heads-same q.left o.0 s.stack q.one o.1) ∙ ap (λ (k : FilterKnown). k.triple.e) f.is in
    omega (arith, q.narrow, w, z)

-- with one number whose error fits 64 bits, the test of its polynomial decides whether `decide` holds
pub filter_stack-decides : (p : Subject) (b : FilterStack) (s : State FilterKnown (ℕ → Option FilterKnown)) (x : Value Triple) (ok : Bool) →
    length b.values.items ≡ 1 → x ≡ get_or b.values.items 0 x → IsFilterStack (length p.vars) b s → x.limits.e ≤ limit W64 →
    ((t : Tree) → IsNormal (length p.vars) t x.poly → IsTrue ok ↔ IsNormalOf (length p.vars) t (terms_of (length p.vars) p.poly))
    → IsTrue ok ↔ FilterDecides p s
filter_stack-decides p b s x ok l e i w h =
    let n : ℕ = length p.vars in
    let o = one-value in_triple n b.values.items s.stack i.stack x l e in
    let f : IsFor in_triple n x o.0 = o.2 in
    let z : o.0.triple.e ≡ x.limits.e = ap (λ (k : FilterKnown). k.triple.e) f.is in
    let r = h o.0.tree (subst (λ (z : Tree). IsNormal n z x.poly) (sym (ap (λ (k : FilterKnown). k.tree) f.is)) f.normal) in (
      λ t. record { left = o.0; one = o.1; whole = r.0 t; narrow = omega (arith, z, w) },
      λ q. r.1 (subst (λ (k : FilterKnown). IsNormalOf n k.tree (terms_of n p.poly)) (heads-same q.left o.0 s.stack q.one o.1) q.whole),
    )

-- `decide`: the polynomial is the predicate's exactly where the two are one list
pub decide-same : (n : ℕ) (t : Tree) (g f : Sparse) → IsNormal n t g → IsPoly f → AreBelow n f → (g ≡ f) ↔ IsNormalOf n t (terms_of n f)
decide-same n t g f h p b =
    (λ e. subst (λ (z : Sparse). IsNormalOf n t (terms_of n z)) e h.normal, λ k. one-normal n t g f h (record { normal = k; form = p; below = b }))

-- `end`: the polynomial is the scaled derivative exactly where it is the list that was worked out for it
pub end-same : (n : ℕ) (t : Tree) (g h f : Sparse) (a : Pairs) → IsNormal n t g → IsPoly h → AreBelow n h →
    ((m : List ℕ) → length m ≡ n → coefficient_at n h m ≡ factor_at (derived (vector n a) (terms_of n f)) m) →
    (g ≡ h) ↔ IsNormalOf n t (derived (vector n a) (terms_of n f))
unfolding coefficient_at
end-same n t g h f a q p b d = (λ e. to e, λ k. back k)
  where
    to : g ≡ h → IsNormalOf n t (derived (vector n a) (terms_of n f))
    to e =
        let z : IsNormal n t h = subst (IsNormal n t) e q in
        record { over = over-vector n a (terms_of n f) (over-terms n f); coefficients = λ m l. sym (d m l) ∙ z.normal.coefficients m l }

    back : IsNormalOf n t (derived (vector n a) (terms_of n f)) → g ≡ h
    back k = one-normal n t g h q (record { normal = record { over = over-terms n h; coefficients = λ m l. d m l ∙ k.coefficients m l }; form = p; below = b })
