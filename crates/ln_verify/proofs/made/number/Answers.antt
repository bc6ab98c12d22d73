-- Answers to the goals of `number` in src/made.rt.
use Rattle.std.proofs.Common.{◌≡◌, ◌≢◌, ◌<◌, ◌^◌, ◌∙◌, [], ◌∷◌, ap, arith, rules, subst, unsigned_abs, FitsSigned}
use Rattle.std.proofs.lemmas.Int.{to_z-of_z}
use Rattle.std.specs.Prelude.{ℤ, pos}
use mir.Syntax.{w128}
use Rattle.ln_algebra.specs.Tree.{Num}
use Rattle.ln_poly.proofs.Expansions.Normals.{number-normal}
use Rattle.ln_verify.specs.Rules.{IsRule}
use Rattle.ln_verify.proofs.Values.Ranges.{exact, made, nothing, number-heavy}
use Rattle.ln_verify.proofs.made.number.Goals as goal

pub returns-in_default : goal.returns-in_default
returns-in_default g c v vars n b h =
    let f : FitsSigned w128 c.args.c = search rules in
    let e = g.L.Limits.rules v vars in
    let s : c.unsigned_abs-size.result ≡ unsigned_abs c.args.c = c.unsigned_abs-size.ensures.value ∙ ap unsigned_abs (to_z-of_z w128 c.args.c f) in
    let r = subst (λ (z : ℤ). IsRule g.L.Limits.known c.of_number.result (Num z) (unsigned_abs z) (e.push z b)) (to_z-of_z w128 c.args.c f)
    (c.of_number.ensures v vars b h) in
    nothing g.L.Limits.known g.L.Limits.tree g.met.L.Limits.tree_known n (Num c.args.c) (unsigned_abs c.args.c) (e.push c.args.c b)
    (c.in_default.ensures.rule (unsigned_abs c.args.c) (Num c.args.c) _ (exact _ _ s) r)

pub kept-requires-clause-heavy : goal.kept-requires-clause-heavy
kept-requires-clause-heavy g c =
    let f : FitsSigned w128 c.args.c = search rules in
    let z : c.args.c ≡ pos 0 → c.in_ok-h.h ≡ [] = rw (to_z-of_z w128 c.args.c f) at c.in_ok-h.ensures.zero in
    let s : c.args.c ≢ pos 0 → c.in_ok-h.h ≡ ([], c.args.c) ∷ [] = rw (to_z-of_z w128 c.args.c f) at c.in_ok-h.ensures.some in
    let h = number-heavy c.args.c c.in_ok-h.h z s in
    let e : c.unsigned_abs-size.result ≡ unsigned_abs c.args.c = c.unsigned_abs-size.ensures.value ∙ ap unsigned_abs (to_z-of_z w128 c.args.c f) in
    omega (arith, h, e)

pub returns : goal.returns
returns g c v vars n b h =
    let f : FitsSigned w128 c.args.c = search rules in
    let e = g.L.Limits.rules v vars in
    let s : c.unsigned_abs-size.result ≡ unsigned_abs c.args.c = c.unsigned_abs-size.ensures.value ∙ ap unsigned_abs (to_z-of_z w128 c.args.c f) in
    let r = subst (λ (z : ℤ). IsRule g.L.Limits.known c.of_number.result (Num z) (unsigned_abs z) (e.push z b)) (to_z-of_z w128 c.args.c f)
    (c.of_number.ensures v vars b h) in
    let z : c.args.c ≡ pos 0 → c.in_ok-h.h ≡ [] = rw (to_z-of_z w128 c.args.c f) at c.in_ok-h.ensures.zero in
    let y : c.args.c ≢ pos 0 → c.in_ok-h.h ≡ ([], c.args.c) ∷ [] = rw (to_z-of_z w128 c.args.c f) at c.in_ok-h.ensures.some in
    let m = c.in-Some.ensures.small in
    let l : unsigned_abs c.args.c < 2 ^ 127 = omega (arith, m, s) in
    made g.L.Limits.known g.L.Limits.tree g.met.L.Limits.tree_known n c.in-Some.limits (Num c.args.c) c.unsigned_abs-size.result
    (unsigned_abs c.args.c) (e.push c.args.c b) c.kept.result
    (c.in-Some.ensures.rule (unsigned_abs c.args.c) (Num c.args.c) _ (exact _ _ s) r) s
    (c.kept.ensures n (Num c.args.c) (number-normal n c.args.c c.in_ok-h.h l z y))
