-- Answers to the goals of `cut` in src/made.rt.
use Rattle.std.proofs.Common.{refl, subst, sym}
use Rattle.std.specs.Prelude.{None}
use Rattle.ln_verify.specs.Values.{IsFor, IsMade}
use Rattle.ln_verify.proofs.Values.Ranges.{exact, made, nothing}
use Rattle.ln_verify.proofs.made.cut.Goals as goal

pub returns-in_default : goal.returns-in_default
returns-in_default g c v vars n b k h i =
    let e = g.L.Limits.rules v vars in
    let x = c.args.x in
    subst (IsMade (IsFor g.L.Limits.known n) g.L.Limits.tree n None) (λ a. e.cut c.args.n b (sym i.is a))
    (nothing g.L.Limits.known g.L.Limits.tree g.met.L.Limits.tree_known n i.tree x.size _
    (c.in_default.ensures.rule x.size i.tree _ (exact x.size x.size refl) (c.of_cut.ensures v vars b i.tree x.size h)))

pub returns : goal.returns
returns g c v vars n b k h i =
    let e = g.L.Limits.rules v vars in
    let x = c.args.x in
    subst (IsMade (IsFor g.L.Limits.known n) g.L.Limits.tree n c.kept.result) (λ a. e.cut c.args.n b (sym i.is a))
    (made g.L.Limits.known g.L.Limits.tree g.met.L.Limits.tree_known n c.in-Some.limits i.tree x.size x.size _ c.kept.result
    (c.in-Some.ensures.rule x.size i.tree _ (exact x.size x.size refl) (c.of_cut.ensures v vars b i.tree x.size h)) refl
    (c.kept.ensures n i.tree i.normal))
