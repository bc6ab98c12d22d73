use Rattle.std.proofs.Common.{◌≡◌, refl}
use Rattle.std.proofs.lemmas.Result.{IfOk-weaker}
use Rattle.ln_interval.specs.View.{range}
use Rattle.ln_bound.specs.Typed.{TNeg, TTwo, TPow, operation}
use Rattle.ln_bound.specs.View.{typed}
use Rattle.ln_bound.proofs.Trees.TypedOperands.{two_typed}
use Rattle.ln_lower.proofs.Subtrees.Numbering.{numbered_neg, numbered_two, numbered_pow}
use Rattle.ln_lower.proofs.distinct.+number.Goals as goal

pub returns-in_ok-a-in-Neg : goal.returns-in_ok-a-in-Neg
returns-in_ok-a-in-Neg t c =
    let e : typed c.args.t.now ≡ TNeg (typed c.deref.result.now) (range c.args.t.now.pair) c.args.t.now.width = rw (c.in-Neg.is, c.deref.ensures) refl in
    IfOk-weaker c.noted-in-Neg.result _ _ (λ k h. numbered_neg e c.in_ok-a-in-Neg.ensures h) c.noted-in-Neg.ensures

pub returns-in_ok-b-in-Add : goal.returns-in_ok-b-in-Add
returns-in_ok-b-in-Add t c =
    let e : typed c.args.t.now ≡ TTwo (operation (typed c.args.t.now)) (typed c.deref-in-Add.result.now) (typed c.deref-in-Add-2.result.now)
    (range c.args.t.now.pair) c.args.t.now.width =
    rw (c.deref-in-Add.ensures, c.deref-in-Add-2.ensures) (two_typed c.args.t.now.op _ _ _ (typed c.in-Add.x.value) (typed c.in-Add.y.value)
    (range c.args.t.now.pair) c.args.t.now.width c.in-Add.is refl refl refl) in
    IfOk-weaker c.noted-in-Add.result _ _ (λ k h. numbered_two e c.in_ok-a-in-Add.ensures c.in_ok-b-in-Add.ensures (rw c.operation.ensures at h))
    c.noted-in-Add.ensures

pub returns-in_ok-a-in-Pow : goal.returns-in_ok-a-in-Pow
returns-in_ok-a-in-Pow t c =
    let e : typed c.args.t.now ≡ TPow (typed c.deref-in-Pow.result.now) c.in-Pow.n (range c.args.t.now.pair) c.args.t.now.width =
    rw (c.in-Pow.is, c.deref-in-Pow.ensures) refl in
    IfOk-weaker c.noted-in-Pow.result _ _ (λ k h. numbered_pow e c.in_ok-a-in-Pow.ensures h) c.noted-in-Pow.ensures
