-- The lets of a predicate, fitted one after the other.
use Rattle.std.proofs.Common.{◌≡◌, ℕ, ◌+◌, ◌≤◌, ◌<◌, List, [], ◌∷◌, ◌++◌, length, map, drop, get_or, ap, ◌∙◌, sym}
use Rattle.std.proofs.lemmas.List.{map-append, drop_more, drop_all}
use Rattle.ln_tree.specs.declared.expr.Expr.{Expr}
use Rattle.ln_tree.specs.declared.shape.VarInfo.{VarInfo}
use Rattle.ln_tree.specs.Formula.{tree_of}
use Rattle.ln_bound.specs.declared.fitted.Fitted.{Fitted}
use Rattle.ln_bound.specs.Typed.{untyped}
use Rattle.ln_bound.specs.View.{typed}
use Rattle.ln_bound.specs.Exact.{IsExact, AreExact}
use Rattle.ln_bound.proofs.Soundness.ExactLaws.{LetsSoFar, lets_next, lets_end}

-- ---- let number i is next
module _ (vars : List VarInfo) (es : List Expr) (i : ℕ) where
  -- the expressions from number i on, where e is that one
  rest_is : (e : Expr) → i < length es → e ≡ get_or es i e
      → map (tree_of vars) (drop i es) ≡ tree_of vars e ∷ map (tree_of vars) (drop (i + 1) es)
  rest_is e l g = ap (λ (fs : List Expr). map (tree_of vars) fs) (drop_more es i e l)
      ∙ ap (λ (f : Expr). tree_of vars f ∷ map (tree_of vars) (drop (i + 1) es)) (sym g)

  -- one more let is fitted
  pub lets_step : (e : Expr) (done seen more : List Fitted) (t : Fitted) → i < length es
      → e ≡ get_or es i e → LetsSoFar vars (map (tree_of vars) es) (map (tree_of vars) (drop i es)) (map typed done) → seen ≡ done
      → untyped (typed t) ≡ tree_of vars e → IsExact vars (map typed seen) (typed t) → more ≡ done ++ t ∷ []
      → LetsSoFar vars (map (tree_of vars) es) (map (tree_of vars) (drop (i + 1) es)) (map typed more)
  lets_step e done seen more t l g s n q h m =
      let a : LetsSoFar vars (map (tree_of vars) es) (tree_of vars e ∷ map (tree_of vars) (drop (i + 1) es)) (map typed done) =
      rw (rest_is e l g) at s in
      let b : IsExact vars (map typed done) (typed t) = rw n at h in
      let r = lets_next vars (map (tree_of vars) es) (map (tree_of vars) (drop (i + 1) es)) (tree_of vars e) (map typed done) (typed t) a q b in
      let d : map typed more ≡ map typed done ++ typed t ∷ [] = ap (λ (us : List Fitted). map typed us) m ∙ map-append typed done (t ∷ []) in
      rw d r

  -- all lets are fitted
  pub lets_finish : (done : List Fitted) → length es ≤ i
      → LetsSoFar vars (map (tree_of vars) es) (map (tree_of vars) (drop i es)) (map typed done)
      → (map untyped (map typed done) ≡ map (tree_of vars) es) × AreExact vars [] (map typed done)
  lets_finish done l s =
      let e : map (tree_of vars) (drop i es) ≡ [] = ap (λ (fs : List Expr). map (tree_of vars) fs) (drop_all i es l) in
      let a : LetsSoFar vars (map (tree_of vars) es) [] (map typed done) = rw e at s in
      lets_end vars (map (tree_of vars) es) (map typed done) a
