-- Answers to the goals of `two` in src/made.rt.
use Rattle.std.proofs.Common.{arith, subst, sym}
use Rattle.std.specs.Prelude.{None}
use Rattle.ln_bound.specs.Typed.{bound_of, two_of}
use Rattle.ln_verify.specs.Values.{IsFor, IsMade}
use Rattle.ln_verify.proofs.Polynomials.Negations.{bound-within}
use Rattle.ln_verify.proofs.Values.Ranges.{capped, large, made, nothing}
use Rattle.ln_verify.proofs.made.two.Goals as goal

pub returns-in_default : goal.returns-in_default
returns-in_default g c v vars n b j k h i q =
    let e = g.L.Limits.rules v vars in
    let t = c.args.t in
    let tree = two_of t i.tree q.tree in
    let size = bound_of t c.args.x.size c.args.y.size in
    let z = capped _ _ c.joined_size-size.ensures in
    let r = c.of_two.ensures v vars b i.tree q.tree c.args.x.size c.args.y.size h in
    subst (IsMade (IsFor g.L.Limits.known n) g.L.Limits.tree n None) (λ a. e.two t c.args.w b (sym i.is a) (sym q.is a))
    (nothing g.L.Limits.known g.L.Limits.tree g.met.L.Limits.tree_known n tree size _ (c.in_default.ensures.rule size tree _ z r))

pub joined-requires : goal.joined-requires
joined-requires g c =
    let z = (capped _ _ c.joined_size-size.ensures).0 c.in-Some.ensures.small in
    let a = bound-within c.args.t _ _ _ _ c.joined_size-size.result c.args.x.heavy c.args.y.heavy z in
    omega (arith, a, c.in-Some.ensures.small)

pub returns-in_default-found : goal.returns-in_default-found
returns-in_default-found g c v vars n b j k h i q =
    let none = rw c.in_default-found.is at c.in_ok-found.ensures in
    let e = g.L.Limits.rules v vars in
    let t = c.args.t in
    let tree = two_of t i.tree q.tree in
    let size = bound_of t c.args.x.size c.args.y.size in
    let z = capped _ _ c.joined_size-size.ensures in
    let r = c.of_two.ensures v vars b i.tree q.tree c.args.x.size c.args.y.size h in
    subst (IsMade (IsFor g.L.Limits.known n) g.L.Limits.tree n None) (λ a. e.two t c.args.w b (sym i.is a) (sym q.is a))
    (large g.L.Limits.known g.L.Limits.tree g.met.L.Limits.tree_known n c.in-Some.limits tree size _ (c.in-Some.ensures.rule size tree _ z r)
    (none n i.tree q.tree i.normal q.normal))

pub kept-requires-clause-heavy : goal.kept-requires-clause-heavy
kept-requires-clause-heavy g c =
    let there = rw c.in-Some-found.is at c.in_ok-found.ensures in
    let z = (capped _ _ c.joined_size-size.ensures).0 c.in-Some.ensures.small in
    let a = bound-within c.args.t _ _ _ _ c.joined_size-size.result c.args.x.heavy c.args.y.heavy z in
    omega (arith, a, there.0)

pub returns : goal.returns
returns g c v vars n b j k h i q =
    let there = rw c.in-Some-found.is at c.in_ok-found.ensures in
    let e = g.L.Limits.rules v vars in
    let t = c.args.t in
    let tree = two_of t i.tree q.tree in
    let size = bound_of t c.args.x.size c.args.y.size in
    let z = capped _ _ c.joined_size-size.ensures in
    let r = c.of_two.ensures v vars b i.tree q.tree c.args.x.size c.args.y.size h in
    subst (IsMade (IsFor g.L.Limits.known n) g.L.Limits.tree n c.kept.result) (λ a. e.two t c.args.w b (sym i.is a) (sym q.is a))
    (made g.L.Limits.known g.L.Limits.tree g.met.L.Limits.tree_known n c.in-Some.limits tree c.joined_size-size.result size _ c.kept.result
    (c.in-Some.ensures.rule size tree _ z r) (z.0 c.in-Some.ensures.small) (c.kept.ensures n tree (there.1 n i.tree q.tree i.normal q.normal)))
