-- The lets of a predicate, expanded one after the other, and what is known of the root.
use Rattle.std.proofs.Common.{◌≡◌, ℕ, ◌+◌, ◌*◌, ◌^◌, ◌<◌, ◌≤◌, true, zero, suc, refl, sym, ◌∙◌, ap, arith, subst, All, List, [], ◌∷◌, ◌++◌}
use Rattle.std.proofs.Common.{add-one, length, map, drop, take, get_or, append_assoc, unsigned_abs}
use Rattle.std.proofs.Math.IntN.{ℤ}
use Rattle.std.proofs.Math.Nat.{pow-le-pow_left, pow-zero}
use Rattle.std.proofs.lemmas.Bool.{and_parts}
use Rattle.std.proofs.lemmas.List.{drop_more, length-map, length_push, map-append, map_more}
use Rattle.std.proofs.lemmas.Nat.{mul-le, pow-add}
use Rattle.std.proofs.lemmas.List.Elements.{All-head, All-tail}
use Rattle.ln_algebra.proofs.Bounding.Weights.{weighted-normal}
use Rattle.ln_algebra.specs.Tree.{Add, Input, Mul, Name, Neg, Num, Pow, Sub, Tree, inlined, inlined_after}
use Rattle.ln_algebra.specs.Vector.{total_degree}
use Rattle.ln_algebra.specs.Weights.{monomial_weight, weighted_sum}
use Rattle.ln_bound.specs.Light.{most}
use Rattle.ln_bound.proofs.Soundness.KeptLaws.{parts_of, trees_of_formulas}
use Rattle.ln_algebra.specs.Sizes.{two}
use Rattle.ln_tree.specs.declared.expr.Expr.{Expr}
use Rattle.ln_tree.specs.declared.items.Arg.{Arg}
use Rattle.ln_tree.specs.Kept.{is_pred}
use Rattle.ln_tree.specs.declared.shape.VarInfo.{VarInfo}
use Rattle.ln_tree.specs.Exps.{IsAbove, Pairs, vector}
use Rattle.ln_tree.specs.Fits.{is_fit, lets_fit}
use Rattle.ln_tree.specs.Formula.{Formula, formula, tree, tree_of}
use Rattle.ln_poly.specs.declared.expansion.PolyStop.{PolyStop}
use Rattle.ln_poly.specs.Sparse.{AreBelow, IsFactor, Sparse, terms_of}
use Rattle.ln_poly.specs.Weight.{pairs_weight, total_weight}
use Rattle.ln_poly.specs.Expansion.{HaveFewTerms, IsNormal, closed_lets, expanded, expanded_lets}
use Rattle.ln_poly.specs.Ready.{AreLight, AreNormal, Expands, IsLight, LetsAreLight}
use Rattle.ln_poly.specs.Stop.{StopsExpanding}
use Rattle.ln_poly.proofs.Sorting.Collected.{collected}
use Rattle.ln_poly.proofs.Expansions.Expanding.{Nodes, few-both, stop-after, stop-before}
use Rattle.ln_poly.proofs.Expansions.Normals.{lets-more}
use Rattle.ln_poly.proofs.TermLists.Products.{length-vector}
use Rattle.ln_poly.proofs.Loads.Room.{AreTwo, factor-some, normal-weight, times-le-left, two-power}
use Rattle.ln_poly.proofs.Loads.Weighing.{total-cons, weight-pairs}

-- ---- lets
-- one let more
closed-after : (done ts : List Tree) (t : Tree) → inlined_after done (ts ++ t ∷ []) ≡ inlined_after done ts ++ inlined (inlined_after done ts) t ∷ []
closed-after done [] t = refl
closed-after done (u ∷ ts) t = closed-after (done ++ inlined done u ∷ []) ts t

closed-more : (vars : List VarInfo) (fs : List Formula) (f : Formula)
    → closed_lets vars (fs ++ f ∷ []) ≡ closed_lets vars fs ++ inlined (closed_lets vars fs) (tree vars f) ∷ []
closed-more vars fs f = ap (inlined_after []) (map-append (tree vars) fs (f ∷ [])) ∙ closed-after [] (map (tree vars) fs) (tree vars f)

-- some lets are expanded, the rest follow
pub record LetsExpanded (vars : List VarInfo) (whole front rest : List Formula) (polys : List Sparse) : Type 0 where
  pub normal : AreNormal (length vars) (closed_lets vars front) polys
  pub nodes : Nodes
  pub stands : expanded_lets vars [] whole ≡ nodes ++ expanded_lets vars (closed_lets vars front) rest
  pub few : HaveFewTerms (length vars) nodes
  pub fit : lets_fit (length vars) (length polys) (map (tree vars) rest) ≡ true
  pub light : LetsAreLight (length vars) two (closed_lets vars front) (map (tree vars) rest)

-- the first of the lets that follow is expanded too
pub lets-next : (vars : List VarInfo) (whole front rest : List Formula) (f : Formula) (polys : List Sparse) (p : Sparse)
    → LetsExpanded vars whole front (f ∷ rest) polys
    → Expands (length vars) (expanded vars (closed_lets vars front) f) (inlined (closed_lets vars front) (tree vars f)) p
    → LetsExpanded vars whole (front ++ f ∷ []) rest (polys ++ p ∷ [])
lets-next vars whole front rest f polys p a h =
    let e : closed_lets vars (front ++ f ∷ []) ≡ closed_lets vars front ++ inlined (closed_lets vars front) (tree vars f) ∷ [] = closed-more vars front f in
    record {
      normal = subst (λ ts. AreNormal (length vars) ts (polys ++ p ∷ [])) (sym e)
          (lets-more (length vars) (closed_lets vars front) polys (inlined (closed_lets vars front) (tree vars f)) p a.normal h.normal);
      nodes = a.nodes ++ expanded vars (closed_lets vars front) f;
      stands = a.stands ∙ sym (append_assoc a.nodes (expanded vars (closed_lets vars front) f)
          (expanded_lets vars (closed_lets vars front ++ inlined (closed_lets vars front) (tree vars f) ∷ []) rest))
          ∙ ap (λ ts. a.nodes ++ expanded vars (closed_lets vars front) f ++ expanded_lets vars ts rest) (sym e);
      few = few-both (length vars) a.nodes (expanded vars (closed_lets vars front) f) a.few h.few;
      fit = subst (λ k. lets_fit (length vars) k (map (tree vars) rest) ≡ true) (sym (length_push polys p ∙ add-one (length polys)))
          (and_parts (is_fit (length vars) (length polys) (tree vars f)) _ a.fit).1;
      light = subst (λ ts. LetsAreLight (length vars) two ts (map (tree vars) rest)) (sym e) a.light.1;
    }

-- ---- places in the program's list
-- the first j lets of the program were expanded, to these polynomials
abbrev pub LetsTo : List VarInfo → List Expr → ℕ → List Sparse → Type 0
LetsTo vars lets j polys = LetsExpanded vars (map formula lets) (map formula (take j lets)) (map formula (drop j lets)) polys

-- the lets from place j on are the one there and those after it
pub rest-is : (lets : List Expr) (j : ℕ) (e : Expr) → j < length lets → e ≡ get_or lets j e
    → map formula (drop j lets) ≡ formula e ∷ map formula (drop (j + 1) lets)
rest-is lets j e l h = ap (map formula) (drop_more lets j e l) ∙ ap (λ f. formula f ∷ map formula (drop (j + 1) lets)) (sym h)

front-is : (lets : List Expr) (j : ℕ) (e : Expr) → j < length lets → e ≡ get_or lets j e
    → map formula (take (j + 1) lets) ≡ map formula (take j lets) ++ formula e ∷ []
front-is lets j e l h = map_more formula lets j e l ∙ ap (λ f. map formula (take j lets) ++ formula f ∷ []) (sym h)

-- at a place one let comes next
pub lets-at : (vars : List VarInfo) (lets : List Expr) (j : ℕ) (e : Expr) (polys : List Sparse) → j < length lets → e ≡ get_or lets j e
    → LetsTo vars lets j polys → LetsExpanded vars (map formula lets) (map formula (take j lets)) (formula e ∷ map formula (drop (j + 1) lets)) polys
lets-at vars lets j e polys l h a = subst (λ fs. LetsExpanded vars (map formula lets) (map formula (take j lets)) fs polys) (rest-is lets j e l h) a

-- the step of `expand_lets`: the polynomial of the let at place j is appended
pub lets-step : (vars : List VarInfo) (lets : List Expr) (j : ℕ) (e : Expr) (polys more : List Sparse) (p : Sparse) → j < length lets
    → e ≡ get_or lets j e → LetsTo vars lets j polys → Expands (length vars) (expanded vars (closed_lets vars (map formula (take j lets))) (formula e))
    (inlined (closed_lets vars (map formula (take j lets))) (tree vars (formula e))) p → more ≡ polys ++ p ∷ [] → LetsTo vars lets (j + 1) more
lets-step vars lets j e polys more p l h a q m =
    subst (λ ps. LetsTo vars lets (j + 1) ps) (sym m)
    (subst (λ fs. LetsExpanded vars (map formula lets) fs (map formula (drop (j + 1) lets)) (polys ++ p ∷ [])) (sym (front-is lets j e l h))
    (lets-next vars (map formula lets) (map formula (take j lets)) (map formula (drop (j + 1) lets)) (formula e) polys p (lets-at vars lets j e polys l h a) q))

-- a let that stops the expansion
pub lets-stop : (vars : List VarInfo) (lets : List Expr) (j : ℕ) (e : Expr) (polys : List Sparse) (s : PolyStop) → j < length lets → e ≡ get_or lets j e
    → LetsTo vars lets j polys → StopsExpanding (length vars) (expanded vars (closed_lets vars (map formula (take j lets))) (formula e)) s
    → StopsExpanding (length vars) (expanded_lets vars [] (map formula lets)) s
lets-stop vars lets j e polys s l h a q =
    let b = lets-at vars lets j e polys l h a in
    subst (λ (ns : Nodes). StopsExpanding (length vars) ns s) (sym b.stands)
    (stop-after (length vars) b.nodes _ s b.few (stop-before (length vars) (expanded vars (closed_lets vars (map formula (take j lets))) (formula e)) _ s q))

-- there are as many normal polynomials as trees
pub length-normal : (n : ℕ) (ts : List Tree) (fs : List Sparse) → AreNormal n ts fs → length fs ≡ length ts
length-normal n [] [] a = refl
length-normal n [] (f ∷ fs) a = absurd a
length-normal n (t ∷ ts) [] a = absurd a
length-normal n (t ∷ ts) (f ∷ fs) a = ap suc (length-normal n ts fs a.1)

length-after : (done ts : List Tree) → length (inlined_after done ts) ≡ length done + length ts
length-after done [] = omega arith
length-after done (t ∷ ts) = omega (arith, length-after (done ++ inlined done t ∷ []) ts, length_push done (inlined done t))

-- there are as many polynomials as lets
pub length-polys : (vars : List VarInfo) (es : List Expr) (fs : List Sparse)
    → AreNormal (length vars) (closed_lets vars (map formula es)) fs → length fs ≡ length es
length-polys vars es fs a = omega (
  arith,
  length-normal (length vars) (closed_lets vars (map formula es)) fs a,
  length-after [] (map (tree vars) (map formula es)),
  length-map (map formula es) (tree vars),
  length-map es formula,
)

-- ---- the root
-- where each node weighs at most 2^127 - 1 with the lets in place of their names, so does the whole tree
pub root-light : (n : ℕ) (w : ℕ → ℕ) (ls : List Tree) (e : Tree) → AreLight n w ls e → IsLight n w (inlined ls e)
root-light n w ls (Num c) l = l
root-light n w ls (Input v) l = l
root-light n w ls (Name j) l = l
root-light n w ls (Neg e) l = l.1
root-light n w ls (Add d e) l = l.2
root-light n w ls (Sub d e) l = l.2
root-light n w ls (Mul d e) l = l.2
root-light n w ls (Pow e k) l = l.1

-- the weighted sum of a tree's normal polynomial is within the limit where the tree's weight is
pub root-weight : (n : ℕ) (w : ℕ → ℕ) (e : Tree) (f : Sparse) → IsLight n w e → IsNormal n e f → weighted_sum w (terms_of n f) ≤ most
root-weight n w e f l p = omega (arith, l.light, weighted-normal n e (terms_of n f) w l.inputs p.normal (collected n f p.form p.below))

-- 2 to the power of the degree is at most the weight of the monomial
pub degree-weight : (n : ℕ) (w : ℕ → ℕ) (m : List ℕ) → AreTwo n w → length m ≡ n → 2 ^ total_degree m ≤ monomial_weight w m
degree-weight n w [] t e = omega (arith, pow-zero 2)
degree-weight zero w (k ∷ m) t e = absurd (omega arith)
degree-weight (suc n) w (k ∷ m) t e = rw pow-add
    (mul-le _ _ _ _ (pow-le-pow_left (t 0 (omega arith)) k) (degree-weight n (λ v. w (suc v)) m (λ v h. t (suc v) (omega arith)) (omega arith)))

term-degree : (n : ℕ) (w : ℕ → ℕ) (f : Sparse) (k : ℕ) (d : Pairs × ℤ) → AreTwo n w → AreBelow n f → All (λ t. IsFactor t.1) f
    → k < length f → 2 ^ total_degree (vector n (get_or f k d).0) ≤ total_weight w f
term-degree n w [] k d t b s l = absurd (omega arith)
term-degree n w (x ∷ f) zero d t b s l =
    let a : pairs_weight w x.0 ≤ unsigned_abs x.1 * pairs_weight w x.0 =
    times-le-left (pairs_weight w x.0) (unsigned_abs x.1) (factor-some x.1 (All-head (λ z. IsFactor z.1) x f s)) in
    omega (arith, a, total-cons w x f, weight-pairs w n x.0 (All-head (λ z. IsAbove z.0 n) x f b), degree-weight n w (vector n x.0) t (length-vector 0 n x.0))
term-degree n w (x ∷ f) (suc k) d t b s l =
    omega (arith, total-cons w x f, term-degree n w f k d t (All-tail (λ z. IsAbove z.0 n) x f b) (All-tail (λ z. IsFactor z.1) x f s) (omega arith))

-- no term's total degree exceeds 126
pub root-degrees : (n : ℕ) (w : ℕ → ℕ) (e : Tree) (f : Sparse) → AreTwo n w → IsLight n w e → IsNormal n e f → All (λ t. total_degree (vector n t.0) ≤ 126) f
root-degrees n w e f t l p k d h =
    let a : total_degree (vector n (get_or f k d).0) < 127 = two-power (total_degree (vector n (get_or f k d).0)) (total_weight w f)
    (term-degree n w f k d t p.below p.form.factors h) (omega (arith, l.light, normal-weight n w e f l.inputs p)) in
    omega (arith, a)

-- ---- what holds of a predicate
-- the lets of a predicate are fit: their numbers, variables, names and exponents are in range
pub pred-fit : (args : List Arg) (vars : List VarInfo) (es : List Expr) (names : ℕ) (root : Expr) → is_pred args vars es names root ≡ true
    → lets_fit (length vars) 0 (map (tree vars) (map formula es)) ≡ true
pred-fit args vars es names root k = rw (trees_of_formulas vars es) (parts_of args vars es names root k).fit_lets

-- the root of a predicate is fit after as many lets as there are polynomials
pub root-fits : (args : List Arg) (vars : List VarInfo) (es : List Expr) (names : ℕ) (root : Expr) (polys : List Sparse)
    → is_pred args vars es names root ≡ true → AreNormal (length vars) (closed_lets vars (map formula es)) polys
    → is_fit (length vars) (length polys) (tree_of vars root) ≡ true
root-fits args vars es names root polys k a = rw (length-polys vars es polys a) (parts_of args vars es names root k).fit_root
