-- The expansion of a node from those of its operands.
use Rattle.std.proofs.Common.{◌≡◌, ℕ, ◌*◌, ◌+◌, ◌<◌, ◌^◌, ◌∙◌, ap, arith, refl, subst, true, All, List, [], ◌∷◌, ◌++◌, length}
use Rattle.std.specs.Prelude.{IfErr, IfOk}
use Rattle.std.specs.declared.result.Result.{Result}
use Rattle.std.proofs.lemmas.Result.{IfOk-weaker, MatchResult-weaker}
use Rattle.ln_base.specs.declared.span.Span.{Span}
use Rattle.ln_algebra.specs.Tree.{Add, Mul, Pow, Sub, Tree, inlined}
use Rattle.ln_algebra.specs.Sizes.{two}
use Rattle.ln_tree.specs.declared.shape.VarInfo.{VarInfo}
use Rattle.ln_tree.specs.Fits.{is_fit}
use Rattle.ln_tree.specs.Formula.{Formula, node_count, tree}
use Rattle.ln_bound.specs.declared.fitted.Two.{Two}
use Rattle.ln_bound.specs.declared.fitted.Two.TheVariants.{Plus, Minus, Times}
use Rattle.ln_bound.specs.Typed.{formula_of, two_of}
use Rattle.ln_bound.proofs.Trees.Operands.{count_two, fit_two, tree_two}
use Rattle.ln_poly.specs.declared.expansion.PolyStop.{PolyStop}
use Rattle.ln_poly.specs.Sparse.{Sparse, size_of}
use Rattle.ln_poly.specs.Rows.{PowersFit}
use Rattle.ln_poly.specs.Expansion.{HaveFewTerms, IsNormal, expanded}
use Rattle.ln_poly.specs.Ready.{AreLight, Expands, HasPower, HaveRoom}
use Rattle.ln_poly.specs.Stop.{StopsExpanding}
use Rattle.ln_poly.proofs.Expansions.Expanding.{Nodes, few-both, one-expands, stop-after, stop-before, two-expand}
use Rattle.ln_poly.proofs.Loads.Room.{product-powers, product-room, sum-room, two-sizes}

module _ (vars : List VarInfo) (ls : List Tree) (F : Formula) where
  -- a node over one operand is expanded where the operand is and then the rest of its nodes are
  pub one-ok : (x : Formula) (ys : Nodes) (c : Tree) (f : Sparse) (r : Result Sparse PolyStop) → expanded vars ls F ≡ expanded vars ls x ++ ys
      → inlined ls (tree vars F) ≡ c → Expands (length vars) (expanded vars ls x) (inlined ls (tree vars x)) f → IfOk r (λ h. Expands (length vars) ys c h)
      → IfOk r (λ h. Expands (length vars) (expanded vars ls F) (inlined ls (tree vars F)) h)
  one-ok x ys c f r a b p k = rw (a, b) (IfOk-weaker r _ _ (λ h q. one-expands (length vars) (expanded vars ls x) ys (inlined ls (tree vars x)) c f h p q) k)

  -- where no node of the operand has too many terms, a stop in the rest of the nodes is the stop of the whole
  pub one-err : (x : Formula) (ys : Nodes) (r : Result Sparse PolyStop) → expanded vars ls F ≡ expanded vars ls x ++ ys
      → HaveFewTerms (length vars) (expanded vars ls x) → IfErr r (λ s. StopsExpanding (length vars) ys s)
      → IfErr r (λ s. StopsExpanding (length vars) (expanded vars ls F) s)
  one-err x ys r a p k = rw a (MatchResult-weaker r k (λ h t. tt) (λ s q. stop-after (length vars) (expanded vars ls x) ys s p q))

  -- a node over two operands is expanded where both are and then the rest of its nodes are
  pub two-ok : (x y : Formula) (zs : Nodes) (c : Tree) (f g : Sparse) (r : Result Sparse PolyStop)
      → expanded vars ls F ≡ expanded vars ls x ++ expanded vars ls y ++ zs → inlined ls (tree vars F) ≡ c
      → Expands (length vars) (expanded vars ls x) (inlined ls (tree vars x)) f
      → Expands (length vars) (expanded vars ls y) (inlined ls (tree vars y)) g → IfOk r (λ h. Expands (length vars) zs c h)
      → IfOk r (λ h. Expands (length vars) (expanded vars ls F) (inlined ls (tree vars F)) h)
  two-ok x y zs c f g r a b p q k = rw (a, b) (IfOk-weaker r _ _
      (λ h t. two-expand (length vars) (expanded vars ls x) (expanded vars ls y) zs (inlined ls (tree vars x)) (inlined ls (tree vars y)) c f g h p q t) k)

  -- where no node of either operand has too many terms, a stop in the rest of the nodes is the stop of the whole
  pub two-err : (x y : Formula) (zs : Nodes) (r : Result Sparse PolyStop) → expanded vars ls F ≡ expanded vars ls x ++ expanded vars ls y ++ zs
      → HaveFewTerms (length vars) (expanded vars ls x) → HaveFewTerms (length vars) (expanded vars ls y)
      → IfErr r (λ s. StopsExpanding (length vars) zs s) → IfErr r (λ s. StopsExpanding (length vars) (expanded vars ls F) s)
  two-err x y zs r a p q k = rw a (MatchResult-weaker r k (λ h t. tt) (λ s t. stop-after (length vars)
      (expanded vars ls x ++ expanded vars ls y) zs s (few-both (length vars) (expanded vars ls x) (expanded vars ls y) p q) t))

  -- a stop in the first operand is the stop of the whole
  pub first-stops : (x y : Formula) (zs : Nodes) (s : PolyStop) → expanded vars ls F ≡ expanded vars ls x ++ expanded vars ls y ++ zs
      → StopsExpanding (length vars) (expanded vars ls x) s → StopsExpanding (length vars) (expanded vars ls F) s
  first-stops x y zs s a k = rw a (stop-before (length vars) (expanded vars ls x ++ expanded vars ls y) zs s
      (stop-before (length vars) (expanded vars ls x) (expanded vars ls y) s k))

  -- where no node of the first operand has too many terms, a stop in the second is the stop of the whole
  pub second-stops : (x y : Formula) (zs : Nodes) (s : PolyStop) → expanded vars ls F ≡ expanded vars ls x ++ expanded vars ls y ++ zs
      → HaveFewTerms (length vars) (expanded vars ls x) → StopsExpanding (length vars) (expanded vars ls y) s
      → StopsExpanding (length vars) (expanded vars ls F) s
  second-stops x y zs s a p k = rw a
      (stop-before (length vars) (expanded vars ls x ++ expanded vars ls y) zs s (stop-after (length vars) (expanded vars ls x) (expanded vars ls y) s p k))

-- ---- room
module _ (vars : List VarInfo) (ls : List Tree) where
  add-room : (d e : Tree) (f g : Sparse) → AreLight (length vars) two ls (Add d e) → IsNormal (length vars) (inlined ls d) f
      → IsNormal (length vars) (inlined ls e) g → size_of f + size_of g < 2 ^ 127
  add-room d e f g l p q = sum-room (length vars) two (inlined ls d) (inlined ls e) f g (two-sizes (length vars)) l.2 p q

  sub-room : (d e : Tree) (f g : Sparse) → AreLight (length vars) two ls (Sub d e) → IsNormal (length vars) (inlined ls d) f
      → IsNormal (length vars) (inlined ls e) g → size_of f + size_of g < 2 ^ 127
  sub-room d e f g l p q =
      sum-room (length vars) two (inlined ls d) (inlined ls e) f g (two-sizes (length vars)) (record { inputs = l.2.inputs; light = l.2.light }) p q

  mul-room : (d e : Tree) (f g : Sparse) → AreLight (length vars) two ls (Mul d e) → IsNormal (length vars) (inlined ls d) f
      → IsNormal (length vars) (inlined ls e) g → size_of f * size_of g < 2 ^ 127
  mul-room d e f g l p q = product-room (length vars) two (inlined ls d) (inlined ls e) f g (two-sizes (length vars)) l.2.inputs.0 l.2.inputs.1 l.2.light p q

  mul-powers : (d e : Tree) (f g : Sparse) → AreLight (length vars) two ls (Mul d e) → IsNormal (length vars) (inlined ls d) f
      → IsNormal (length vars) (inlined ls e) g → All (λ s. PowersFit s g) f
  mul-powers d e f g l p q =
      product-powers (length vars) two (inlined ls d) (inlined ls e) f g (two-sizes (length vars)) l.2.inputs.0 l.2.inputs.1 l.2.light p q

  -- where no node of a power weighs too much, there is room for that power of its operand's polynomial
  pub pow-room : (d : Tree) (k : ℕ) (f : Sparse) → AreLight (length vars) two ls (Pow d k) → IsNormal (length vars) (inlined ls d) f → HasPower f k
  pow-room d k f l p =
      record { n = length vars; w = two; tree = inlined ls d; two = two-sizes (length vars); inputs = l.1.inputs; light = l.1.light; normal = p }

  -- ---- an operation on two
  have-room : (k : Two) (d e : Tree) (f g : Sparse) → AreLight (length vars) two ls (two_of k d e) → IsNormal (length vars) (inlined ls d) f
      → IsNormal (length vars) (inlined ls e) g → HaveRoom k f g
  have-room Plus d e f g l p q = add-room d e f g l p q
  have-room Minus d e f g l p q = sub-room d e f g l p q
  have-room Times d e f g l p q = (mul-room d e f g l p q, mul-powers d e f g l p q)

  light-two : (k : Two) (d e : Tree) → AreLight (length vars) two ls (two_of k d e) → AreLight (length vars) two ls d × AreLight (length vars) two ls e
  light-two Plus d e l = (l.0, l.1)
  light-two Minus d e l = (l.0, l.1)
  light-two Times d e l = (l.0, l.1)

  -- what is expanded of an operation on two: the nodes of the first operand, those of the second, and then the operation itself
  expanded-two : (k : Two) (at : Span) (x y : Formula) → expanded vars ls (formula_of k at x y)
      ≡ (expanded vars ls x ++ expanded vars ls y) ++ (at, two_of k (inlined ls (tree vars x)) (inlined ls (tree vars y))) ∷ []
  expanded-two Plus at x y = refl
  expanded-two Minus at x y = refl
  expanded-two Times at x y = refl

  -- to substitute the lets in an operation on two is to substitute them in both operands
  inlined-two : (k : Two) (at : Span) (x y : Formula)
      → inlined ls (tree vars (formula_of k at x y)) ≡ two_of k (inlined ls (tree vars x)) (inlined ls (tree vars y))
  inlined-two Plus at x y = refl
  inlined-two Minus at x y = refl
  inlined-two Times at x y = refl

  -- what is known of an operation is known of both operands
  pub record AreReady (j : ℕ) (t : ℕ) (k : Two) (at : Span) (e x y : Formula) : Type 0 where
    pub first_falls : node_count x < t
    pub second_falls : node_count y < t
    pub first_fits : is_fit (length vars) j (tree vars x) ≡ true
    pub second_fits : is_fit (length vars) j (tree vars y) ≡ true
    pub first_light : AreLight (length vars) two ls (tree vars x)
    pub second_light : AreLight (length vars) two ls (tree vars y)
    pub room : (f g : Sparse) → IsNormal (length vars) (inlined ls (tree vars x)) f → IsNormal (length vars) (inlined ls (tree vars y)) g → HaveRoom k f g
    pub nodes : expanded vars ls e ≡ (expanded vars ls x ++ expanded vars ls y) ++ (at, two_of k (inlined ls (tree vars x)) (inlined ls (tree vars y))) ∷ []
    pub whole : inlined ls (tree vars e) ≡ two_of k (inlined ls (tree vars x)) (inlined ls (tree vars y))

  -- the operands of an operation that fits, with no node that weighs too much, are such too, and there is room for its result
  pub are-ready : (j : ℕ) (t : ℕ) (k : Two) (at : Span) (e x y : Formula) → e ≡ formula_of k at x y → node_count e ≡ t
      → is_fit (length vars) j (tree vars e) ≡ true → AreLight (length vars) two ls (tree vars e) → AreReady j t k at e x y
  are-ready j t k at e x y q d h l =
      let q' : tree vars e ≡ two_of k (tree vars x) (tree vars y) = ap (tree vars) q ∙ tree_two vars k at x y in
      let c : node_count e ≡ node_count x + node_count y + 1 = ap node_count q ∙ count_two k at x y in
      let i : is_fit (length vars) j (two_of k (tree vars x) (tree vars y)) ≡ true = subst (λ z. is_fit (length vars) j z ≡ true) q' h in
      let m : AreLight (length vars) two ls (two_of k (tree vars x) (tree vars y)) = subst (λ z. AreLight (length vars) two ls z) q' l in
      record {
        first_falls = omega (arith, c, d);
        second_falls = omega (arith, c, d);
        first_fits = (fit_two (length vars) j k (tree vars x) (tree vars y) i).0;
        second_fits = (fit_two (length vars) j k (tree vars x) (tree vars y) i).1;
        first_light = (light-two k (tree vars x) (tree vars y) m).0;
        second_light = (light-two k (tree vars x) (tree vars y) m).1;
        room = λ f g a b. have-room k (tree vars x) (tree vars y) f g m a b;
        nodes = ap (expanded vars ls) q ∙ expanded-two k at x y;
        whole = ap (λ (z : Formula). inlined ls (tree vars z)) q ∙ inlined-two k at x y;
      }
