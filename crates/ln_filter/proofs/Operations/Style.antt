-- The operations of a filter are stack code of its lets and its sign expression.
use Rattle.std.proofs.Common.{◌≡◌, ℕ, true, List, [], ◌∷◌, ◌++◌, length, map, refl, zero, suc, ap, arith, ◌∙◌, subst}
use Rattle.std.proofs.Common.{length-append, append_assoc, append-nil}
use Rattle.std.proofs.lemmas.List.{map-append}
use Rattle.ln_algebra.specs.Tree.{Tree}
use Rattle.ln_tree.specs.declared.shape.VarInfo.{VarInfo}
use Rattle.ln_interval.specs.Range.{Range}
use Rattle.ln_bound.specs.declared.fitted.Width.{Width}
use Rattle.ln_bound.specs.declared.fitted.Width.TheVariants.{W64}
use Rattle.ln_bound.specs.declared.fitted.Two.{Two}
use Rattle.ln_bound.specs.declared.fitted.Two.TheVariants.{Plus, Minus, Times}
use Rattle.ln_bound.specs.Typed.{Typed, TNum, TInput, TLet, TNeg, TTwo, TPow, untyped}
use Rattle.ln_code.specs.declared.op.Op.TheVariants.{Get, Mul, Set}
use Rattle.ln_code.specs.declared.op.Triple.{Triple}
use Rattle.ln_code.specs.Engine.{Line}
use Rattle.ln_code.specs.Kept.{no_triple}
use Rattle.ln_code.specs.StackCode as code
use Rattle.ln_code.specs.StackCode.{AreCode, IsCode, IsCodeIn, Style, line, more, name, none, number, opposite, raised, two, variable, zeroth}
use Rattle.ln_filter.specs.Lines.{all_lines, factors, filter_lines, let_lines, power_of, trim_lines}
use Rattle.ln_filter.specs.Style.{filter_style}
use Rattle.ln_filter.specs.Triples.{let_triples, powered, product_of, triple}

-- the triples of lets
abbrev pub triples_of : List VarInfo → List Typed → List Triple
triples_of vars lets = let_triples vars [] (map untyped lets)

-- the triple of a tree after these lets
abbrev pub triple_in : List VarInfo → List Typed → Typed → Triple
triple_in vars lets t = triple vars (triples_of vars lets) (untyped t)

-- how filters are written after these lets
abbrev pub style_in : List VarInfo → List Typed → Style Triple
style_in vars lets = filter_style vars (triples_of vars lets)

-- ---- the operations of a tree are its code

factors_are : (vars : List VarInfo) (lets : List Triple) (t : Typed) (w : Width) (m n : ℕ)
    → code.factors (filter_style vars lets) t w m n ≡ factors (triple vars lets (untyped t)) m n
factors_are vars lets t w m zero = refl
factors_are vars lets t w m (suc n) = let a : Triple = triple vars lets (untyped t) in
    ap (λ l. line (Get 64) a ∷ (trim_lines (Mul W64) (product_of (powered a m) a) ++ l)) (factors_are vars lets t w (suc m) n)

power_is : (vars : List VarInfo) (lets : List Triple) (t : Typed) (w : Width) (n : ℕ)
    → code.power_of (filter_style vars lets) t w n ≡ power_of (triple vars lets (untyped t)) n
power_is vars lets t w zero = refl
power_is vars lets t w (suc n) =
    ap (λ l. line (Set 64) no_triple ∷ (line (Get 64) (triple vars lets (untyped t)) ∷ l)) (factors_are vars lets t w 1 (suc n))

two_are : (vars : List VarInfo) (lets : List Triple) (o : Two) (t u : Typed) (p : Range) (w : Width)
    → filter_lines vars lets (untyped (TTwo o t u p w)) ≡ filter_lines vars lets (untyped t) ++ (code.after_left (filter_style vars lets) o t u
    ++ (filter_lines vars lets (untyped u) ++ code.after_right (filter_style vars lets) o t u p w))
two_are vars lets Plus t u p w = refl
two_are vars lets Minus t u p w = refl
two_are vars lets Times t u p w = refl

-- the lines of a filter are the code of the tree in its style
pub tree_code : (vars : List VarInfo) (lets : List Triple) (t : Typed)
    → IsCode (filter_style vars lets) [] t (filter_lines vars lets (untyped t)) [] true
tree_code vars lets (TNum c p w) = number c p w
tree_code vars lets (TInput v p w) = variable v p w
tree_code vars lets (TLet j p w) = name j p w
tree_code vars lets (TNeg t p w) = opposite p w (tree_code vars lets t)
tree_code vars lets (TTwo o t u p w) = rw (two_are vars lets o t u p w) (two o p w (tree_code vars lets t) (tree_code vars lets u))
tree_code vars lets (TPow t zero p w) = zeroth t p w
tree_code vars lets (TPow t (suc n) p w) = subst (λ l. IsCode (filter_style vars lets) [] (TPow t (suc n) p w)
    (filter_lines vars lets (untyped t) ++ l) [] true) (power_is vars lets t w n) (raised n p w (tree_code vars lets t))

triples_more : (vars : List VarInfo) (done : List Triple) (ts : List Tree) (t : Tree)
    → let_triples vars done (ts ++ (t ∷ [])) ≡ let_triples vars done ts ++ (triple vars (let_triples vars done ts) t ∷ [])
triples_more vars done [] t = refl
triples_more vars done (u ∷ us) t = triples_more vars (done ++ (triple vars done u ∷ [])) us t

-- the triples of lets with one more
pub triples_snoc : (vars : List VarInfo) (ts : List Typed) (t : Typed) → triples_of vars (ts ++ (t ∷ [])) ≡ triples_of vars ts ++ (triple_in vars ts t ∷ [])
triples_snoc vars ts t = ap (λ (es : List Tree). let_triples vars [] es) (map-append untyped ts (t ∷ [])) ∙ triples_more vars [] (map untyped ts) (untyped t)

-- after code of lets, the operations of the remaining lets are code of all
lets_code : (vars : List VarInfo) (ts rest : List Typed) (lines : List (Line Triple)) (n : ℕ) → n ≡ length ts → AreCode (style_in vars) ts lines []
    → AreCode (style_in vars) (ts ++ rest) (lines ++ let_lines vars n (triples_of vars ts) (map untyped rest)) []
lets_code vars ts [] lines n e h =
    let p : ts ++ [] ≡ ts = append-nil ts in
    let q : lines ++ [] ≡ lines = append-nil lines in
    rw (p, q) h
lets_code vars ts (t ∷ us) lines n e h =
    let own : List (Line Triple) = filter_lines vars (triples_of vars ts) (untyped t) in
    let set : List (Line Triple) = line (Set (length ts)) no_triple ∷ [] in
    let after : List (Line Triple) = let_lines vars (suc n) (triples_of vars (ts ++ (t ∷ []))) (map untyped us) in
    let k : suc n ≡ length (ts ++ (t ∷ [])) = let a = length-append ts (t ∷ []) in omega (arith, a, e) in
    let x = lets_code vars (ts ++ (t ∷ [])) us (lines ++ (own ++ set)) (suc n) k (more h (tree_code vars (triples_of vars ts) t)) in
    let p : (ts ++ (t ∷ [])) ++ us ≡ ts ++ (t ∷ us) = append_assoc ts (t ∷ []) us in
    let q : (lines ++ (own ++ set)) ++ after ≡ lines ++ (own ++ (set ++ after)) = append_assoc lines (own ++ set) after ∙ ap (λ l. lines ++ l)
    (append_assoc own set after) in
    let s : triples_of vars (ts ++ (t ∷ [])) ≡ triples_of vars ts ++ (triple_in vars ts t ∷ []) = triples_snoc vars ts t in
    let y = subst (λ l. AreCode (style_in vars) ((ts ++ (t ∷ [])) ++ us) l []) q x in
    rw (e, ← s, ← p) (rw e at y)

-- the operations of a predicate are code of its lets and its sign expression
pub filter_code : (vars : List VarInfo) (lets : List Typed) (root : Typed)
    → IsCodeIn (style_in vars) lets root (all_lines vars (map untyped lets) (untyped root))
filter_code vars lets root = record {
  first = let_lines vars 0 [] (map untyped lets);
  last = filter_lines vars (triples_of vars lets) (untyped root);
  kept = [];
  new = [];
  computed = true;
  lets_code = lets_code vars [] lets [] 0 refl none;
  root_code = tree_code vars (triples_of vars lets) root;
  all = refl;
}
