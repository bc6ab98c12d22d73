-- Answers to the goals of `minus` in src/made.rt.
use Rattle.std.proofs.Common.{◌≡◌, ◌∙◌, ap, arith, refl, subst, sym}
use Rattle.ln_algebra.specs.Tree.{Neg}
use Rattle.ln_poly.specs.Sparse.{Sparse, size_of}
use Rattle.ln_poly.proofs.TermLists.Negating.{size-negated}
use Rattle.ln_poly.proofs.Expansions.Normals.{neg-normal}
use Rattle.std.specs.Prelude.{None}
use Rattle.ln_verify.specs.Values.{IsFor, IsMade}
use Rattle.ln_verify.proofs.Values.Ranges.{exact, made, nothing}
use Rattle.ln_verify.proofs.made.minus.Goals as goal

pub kept-requires-clause-heavy : goal.kept-requires-clause-heavy
kept-requires-clause-heavy g c =
    let e : size_of c.opposite.result ≡ size_of c.args.x.poly = ap (λ (z : Sparse). size_of z) c.opposite.ensures ∙ size-negated c.args.x.poly in
    omega (arith, e, c.args.x.heavy)

pub returns-in_default : goal.returns-in_default
returns-in_default g c v vars n b k h i =
    let e = g.L.Limits.rules v vars in
    let x = c.args.x in
    subst (IsMade (IsFor g.L.Limits.known n) g.L.Limits.tree n None) (λ a. e.minus c.args.w b (sym i.is a))
    (nothing g.L.Limits.known g.L.Limits.tree g.met.L.Limits.tree_known n (Neg i.tree) x.size _
    (c.in_default.ensures.rule x.size (Neg i.tree) _ (exact x.size x.size refl) (c.of_minus.ensures v vars b i.tree x.size h)))

pub returns : goal.returns
returns g c v vars n b k h i =
    let e = g.L.Limits.rules v vars in
    let x = c.args.x in
    subst (IsMade (IsFor g.L.Limits.known n) g.L.Limits.tree n c.kept.result) (λ a. e.minus c.args.w b (sym i.is a))
    (made g.L.Limits.known g.L.Limits.tree g.met.L.Limits.tree_known n c.in-Some.limits (Neg i.tree) x.size x.size _ c.kept.result
    (c.in-Some.ensures.rule x.size (Neg i.tree) _ (exact x.size x.size refl) (c.of_minus.ensures v vars b i.tree x.size h)) refl
    (c.kept.ensures n (Neg i.tree) (neg-normal n i.tree c.args.x.poly c.opposite.result i.normal c.opposite.ensures)))
