use Rattle.std.proofs.Common.{◌<◌, ◌≤◌, ap, arith, length, get_or, sym, refl}
use Rattle.ln_tree.specs.Exps.{exponent}
use Rattle.ln_tree.proofs.Powers.{found}
use Rattle.ln_poly.proofs.Evaluations.Parts.{Pass, failed, passed}
use Rattle.ln_poly.proofs.Loads.Weighing.{variable-at}
use Rattle.ln_poly.proofs.values.is_covered.Goals as goal

pub returns-then-exponent_of-q : goal.returns-then-exponent_of-q
returns-then-exponent_of-q c =
    let a = c.args.a.now in
    let i = c.pairs.q-index in
    let h : i < length a = omega (arith, c.pairs-test.true) in
    let e : exponent (get_or a i (0, 0)).0 c.args.m.now < (get_or a i (0, 0)).1 =
    omega (arith, c.exponent_of.ensures.value, ap (exponent (get_or a i (0, 0)).0) c.pairs-pairs.ensures.value, c.if-exponent_of-q.true) in
    sym (failed (length c.args.s.now.vars) c.args.m.now a (get_or a i (0, 0)) (variable-at (length c.args.s.now.vars) a i c.requires.above h)
    (found (get_or a i (0, 0)).0 a i c.requires.rising h refl) e)

pub returns : goal.returns
returns c =
    let a = c.args.a.now in
    let p : Pass c.args.m.now a c.pairs.q-index = rw c.pairs-pairs.ensures.value at c.pairs.invariant in
    let h : length a ≤ c.pairs.q-index = omega (arith, c.pairs-test.false) in
    sym (passed (length c.args.s.now.vars) c.args.m.now a c.requires.rising (λ j l. p j (omega (arith, l, h))))
