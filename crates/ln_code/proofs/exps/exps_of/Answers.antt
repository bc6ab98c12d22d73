use Rattle.std.proofs.Common.{◌≡◌, ◌∙◌, ℕ, false, true, arith, get_or, subst, sym}
use Rattle.ln_tree.specs.Exps.{IsAbove, Pairs}
use Rattle.ln_tree.proofs.Powers.{above-take}
use Rattle.ln_code.proofs.Exponents.{rising-at}
use Rattle.ln_code.proofs.exps.exps_of.Goals as goal

pub returns-then-p-eq0 : goal.returns-then-p-eq0
returns-then-p-eq0 c r = let q = rising-at c.args.a.now c.pairs.p-index r (omega (arith, c.pairs-test.true)) in omega (arith, q.0, c.if-p-eq0.true)

pub returns-then-p-gt127 : goal.returns-then-p-gt127
returns-then-p-gt127 c r = let q = rising-at c.args.a.now c.pairs.p-index r (omega (arith, c.pairs-test.true)) in omega (arith, q.1, c.if-p-gt127.true)

pub returns-then-not-are_below : goal.returns-then-not-are_below
returns-then-not-are_below c r =
    let a = above-take c.args.a.now c.pairs.p-index r (omega (arith, c.pairs-test.true)) in
    let b = subst (λ (z : Pairs). IsAbove z (get_or c.args.a.now c.pairs.p-index (0, 0)).0) (sym (c.pairs-in-pairs.ensures.value ∙ c.pairs.invariant.0)) a in
    let d : IsAbove c.pairs-in-pairs.result.now c.from.result = subst (λ (v : ℕ). IsAbove c.pairs-in-pairs.result.now v) (sym c.from.ensures) b in
    let z : false ≡ true = sym c.if-not-are_below.true ∙ c.are_below.ensures.1 d in
    cc
