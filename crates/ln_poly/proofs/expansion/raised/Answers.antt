use Rattle.std.proofs.Common.{◌≡◌, arith, subst, add-one}
use Rattle.std.proofs.lemmas.Result.{err_from_is_err_and}
use Rattle.ln_algebra.specs.Tree.{Pow}
use Rattle.ln_poly.specs.Expansion.{powers}
use Rattle.ln_poly.specs.Ready.{Expands}
use Rattle.ln_poly.proofs.Expansions.Expanding.{power-begin, power-powers, power-room, powers-more, powers-stop}
use Rattle.ln_poly.proofs.expansion.raised.Goals as goal

pub powers-init : goal.powers-init
powers-init c = λ n e q. power-begin n e c.in_ok-p.p (c.in_ok-p.ensures.some (λ z. cc))

pub product-requires-clause-room : goal.product-requires-clause-room
product-requires-clause-room c =
    let r = c.requires in
    power-room c.args.f.now c.powers.p c.args.k c.powers._j r (omega (arith, c.powers-test.true)) (c.powers.invariant r.n r.tree r.normal).normal

pub product-requires-clause-powers : goal.product-requires-clause-powers
product-requires-clause-powers c =
    let r = c.requires in
    power-powers c.args.f.now c.powers.p c.args.k c.powers._j r (omega (arith, c.powers-test.true)) (c.powers.invariant r.n r.tree r.normal).normal

pub returns-in_err-p-2-clause-err : goal.returns-in_err-p-2-clause-err
returns-in_err-p-2-clause-err c =
    let p = err_from_is_err_and c.from_residual-in_err-p-2.result c.from_residual-in_err-p-2.ensures.1 in
    rw (p.1, p.2) (λ n e q.
    let i = c.powers.invariant n e q in
    powers-stop n c.args.at e c.powers._j c.args.k c.powers.p c.in_err-p-2.field-0.0 (omega (arith, c.powers-test.true)) i
    (c.in_err-p-2.ensures.err n (Pow e c.powers._j) e i.normal q))

pub powers-preserved : goal.powers-preserved
powers-preserved c = λ n e q.
    let i = c.powers.invariant n e q in
    rw add-one (powers-more n c.args.at e c.powers._j c.powers.p c.in_ok-p-2.p i (c.in_ok-p-2.ensures.ok n (Pow e c.powers._j) e i.normal q))

pub returns-clause-ok : goal.returns-clause-ok
returns-clause-ok c = λ n e q.
    let k : c.powers._j ≡ c.args.k = omega (arith, c.powers-test.false, c.powers.auto) in
    subst (λ z. Expands n (powers c.args.at e z) (Pow e z) c.powers.p) k (c.powers.invariant n e q)
