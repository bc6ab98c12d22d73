-- Answers to the goals of `input` in src/made.rt.
use Rattle.std.proofs.Common.{◌∙◌, length, sym}
use Rattle.std.proofs.lemmas.Option.{slice_get_within}
use Rattle.ln_algebra.specs.Tree.{Input}
use Rattle.ln_poly.proofs.Expansions.Normals.{input-at}
use Rattle.ln_verify.specs.Versions.{version_of}
use Rattle.ln_verify.proofs.Values.Ranges.{exact, input-heavy, made, nothing}
use Rattle.ln_verify.proofs.made.input.Goals as goal

pub returns-in_default : goal.returns-in_default
returns-in_default g c b h =
    let v = version_of c.args.version in
    nothing g.L.Limits.known g.L.Limits.tree g.met.L.Limits.tree_known (length c.args.vars.now) (Input c.args.k) 0
    ((g.L.Limits.rules v c.args.vars.now).input c.args.k b)
    (g.met.L.Limits.missing v c.args.vars.now c.args.k b (sym c.in_default.is ∙ c.variable.ensures))

pub returns-in_default-within : goal.returns-in_default-within
returns-in_default-within g c b h =
    let v = version_of c.args.version in
    let n = length c.args.vars.now in
    let i = c.in-Some.i in
    let e = g.L.Limits.rules v c.args.vars.now in
    let there = sym c.variable.ensures ∙ c.in-Some.is in
    let r = c.of_input.ensures c.args.vars.now c.args.k b h there in
    let z = exact _ _ c.input_size-size.ensures.value in
    nothing g.L.Limits.known g.L.Limits.tree g.met.L.Limits.tree_known n (Input c.args.k) (v.size i) (e.input c.args.k b)
    (c.in_default-within.ensures.rule (v.size i) (Input c.args.k) _ z r)

pub kept-requires-clause-heavy : goal.kept-requires-clause-heavy
kept-requires-clause-heavy g c = input-heavy c.args.k c.input_size-size.result c.in_ok-h.h c.input_size-size.ensures.some c.in_ok-h.ensures

pub returns : goal.returns
returns g c b h =
    let v = version_of c.args.version in
    let n = length c.args.vars.now in
    let i = c.in-Some.i in
    let e = g.L.Limits.rules v c.args.vars.now in
    let there = sym c.variable.ensures ∙ c.in-Some.is in
    let r = c.of_input.ensures c.args.vars.now c.args.k b h there in
    let z = exact _ _ c.input_size-size.ensures.value in
    made g.L.Limits.known g.L.Limits.tree g.met.L.Limits.tree_known n c.in-Some-within.limits (Input c.args.k) c.input_size-size.result (v.size i)
    (e.input c.args.k b) c.kept.result (c.in-Some-within.ensures.rule (v.size i) (Input c.args.k) _ z r) c.input_size-size.ensures.value
    (c.kept.ensures n (Input c.args.k)
    (input-at n c.args.k c.in_ok-h.h (slice_get_within c.args.vars.now c.args.k c.in-Some.i there) c.in_ok-h.ensures))
