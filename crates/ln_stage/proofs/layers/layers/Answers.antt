-- The remaining goals of `layers`.
use Rattle.std.proofs.Common.{◌≡◌, ◌<◌, ◌≤◌, ◌+◌, ◌-◌, ℕ, ap, arith}
use Rattle.std.proofs.lemmas.Result.{err_from_is_err_and}
use Rattle.ln_stage.specs.Degrees.{largest_degree, listed_layers}
use Rattle.ln_stage.proofs.Degrees.DegreeLemmas.{layer-turn, layers-end}
use Rattle.ln_stage.proofs.Walks.TurnLemmas.{ends-left, ends-same, turn-cut, turn-more, turn-over}
use Rattle.ln_stage.proofs.layers.layers.Goals as goal

pub degrees-init : goal.degrees-init
degrees-init c =
    let z : largest_degree c.args.f.now c.args.vs.now c.args.kept.now + 1 - 0 ≡ largest_degree c.args.f.now c.args.vs.now c.args.kept.now + 1 = omega arith in
    ends-same (ap (λ k. listed_layers c.args.f.now c.args.vs.now c.args.kept.now c.args.p.now k 0) z)

pub returns-in_err-walk_at-clause-err : goal.returns-in_err-walk_at-clause-err
returns-in_err-walk_at-clause-err c =
    let limit : ℕ = largest_degree c.args.f.now c.args.vs.now c.args.kept.now + 1 in
    let l : c.degrees.d < limit = omega (arith, c.degrees-test.true, c.largest_degree-limit.ensures.value) in
    let p = err_from_is_err_and c.from_residual.result c.from_residual.ensures.1 in
    rw (p.1, p.2) (turn-over _ (layer-turn c.args.f.now c.args.vs.now c.args.kept.now c.args.p.now limit c.degrees.d l)
    c.degrees.invariant c.in_err-walk_at.ensures.err)

pub returns-then-branch-clause-seen : goal.returns-then-branch-clause-seen
returns-then-branch-clause-seen c =
    let limit : ℕ = largest_degree c.args.f.now c.args.vs.now c.args.kept.now + 1 in
    let l : c.degrees.d < limit = omega (arith, c.degrees-test.true, c.largest_degree-limit.ensures.value) in
    (turn-cut (layer-turn c.args.f.now c.args.vs.now c.args.kept.now c.args.p.now limit c.degrees.d l)
    c.degrees.invariant c.in_ok-walk_at.ensures.ok c.if-branch.true).seen

pub degrees-preserved : goal.degrees-preserved
degrees-preserved c =
    let limit : ℕ = largest_degree c.args.f.now c.args.vs.now c.args.kept.now + 1 in
    let l : c.degrees.d < limit = omega (arith, c.degrees-test.true, c.largest_degree-limit.ensures.value) in
    turn-more (layer-turn c.args.f.now c.args.vs.now c.args.kept.now c.args.p.now limit c.degrees.d l)
    c.degrees.invariant c.in_ok-walk_at.ensures.ok c.if-branch.false

pub returns-clause-seen : goal.returns-clause-seen
returns-clause-seen c =
    let limit : ℕ = largest_degree c.args.f.now c.args.vs.now c.args.kept.now + 1 in
    let l : limit ≤ c.degrees.d = omega (arith, c.degrees-test.false, c.largest_degree-limit.ensures.value) in
    (ends-left (layers-end c.args.f.now c.args.vs.now c.args.kept.now c.args.p.now limit c.degrees.d l) c.degrees.invariant).seen
