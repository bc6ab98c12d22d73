use Rattle.std.proofs.Common.{◌≡◌, ◌-◌, true, false, arith, refl, rules, suc, FitsSigned}
use mir.Syntax.{w128}
use Rattle.std.proofs.lemmas.Int.{to_z-of_z}
use Rattle.std.proofs.lemmas.Result.{IfOk-weaker}
use Rattle.ln_interval.specs.View.{range}
use Rattle.ln_bound.specs.Typed.{TLet, TNeg, TNum, TPow, operation}
use Rattle.ln_bound.specs.View.{typed}
use Rattle.ln_code.specs.StackCode as code
use Rattle.ln_code.proofs.Building.Operands as trees
use Rattle.ln_code.proofs.Building.Walks as walks
use Rattle.ln_code.proofs.walk.+put_tree.Goals as goal

pub put_power-requires-clause-is : goal.put_power-requires-clause-is
put_power-requires-clause-is g t c =
    let z : suc (c.in-Pow.n - 1) ≡ c.in-Pow.n = omega arith in
    (range c.args.t.now.pair, rw (z, c.in-Pow.is, c.deref-else-n-eq0-2.ensures) refl)

pub put_kept-requires-in-Add-clause-bound : goal.put_kept-requires-in-Add-clause-bound
put_kept-requires-in-Add-clause-bound g t c =
    let f = rw (c.deref-in-Add-7.ensures, c.deref-in-Add-8.ensures) at c.in_ok-c-in-Add.ensures in
    (f (range c.args.t.now.pair) (trees.two_is c.args.t.now c.in-Add.x c.in-Add.y c.in-Add.is)).bound

pub returns-in-Some : goal.returns-in-Some
returns-in-Some g t c =
    let m = c.args.m.now in
    IfOk-weaker c.put_leaf.result _ _ (λ z h. walks.puts_leaf false (walks.again_code (g.M.Marks.style m) (g.M.Marks.is_number m) (g.M.Marks.shares m)
    _ (typed c.args.t.now) c.args.k c.in-Some.j c.in-Some.ensures c.requires.numbered) h) c.put_leaf.ensures

pub returns-in-Num : goal.returns-in-Num
returns-in-Num g t c =
    let fits : FitsSigned w128 c.in-Num.c = search rules in
    let e : typed c.args.t.now ≡ TNum c.in-Num.c (range c.args.t.now.pair) c.args.t.now.width = rw c.in-Num.is refl in
    IfOk-weaker c.put_leaf-in-Num.result _ _ (λ z h. walks.puts_leaf true (λ kept are. rw e (code.number _ _ _)) h)
    (rw (to_z-of_z w128 c.in-Num.c fits) at c.put_leaf-in-Num.ensures)

pub returns-in-Let : goal.returns-in-Let
returns-in-Let g t c =
    let e : typed c.args.t.now ≡ TLet c.in-Let.j (range c.args.t.now.pair) c.args.t.now.width = rw c.in-Let.is refl in
    IfOk-weaker c.put_leaf-in-Let.result _ _ (λ z h. walks.puts_leaf true (λ kept are. rw e (code.name _ _ _)) h) c.put_leaf-in-Let.ensures

pub returns-in_ok-b-in-Neg : goal.returns-in_ok-b-in-Neg
returns-in_ok-b-in-Neg g t c =
    let e : typed c.args.t.now ≡ TNeg (typed c.deref.result.now) (range c.args.t.now.pair) c.args.t.now.width = rw (c.in-Neg.is, c.deref.ensures) refl in
    IfOk-weaker c.put_kept.result _ _ (λ r q. q _ (walks.done_neg e c.in_ok-a-in-Neg.ensures c.in_ok-b-in-Neg.ensures)) c.put_kept.ensures

pub returns-in_ok-b-in-Pow : goal.returns-in_ok-b-in-Pow
returns-in_ok-b-in-Pow g t c =
    let e : typed c.args.t.now ≡ TPow (typed c.in-Pow.x.value) 0 (range c.args.t.now.pair) c.args.t.now.width = rw (c.in-Pow.is, c.if-n-eq0.true) refl in
    IfOk-weaker c.put_kept-then-n-eq0.result _ _ (λ r q. q _ (walks.done_zeroth e c.in_ok-b-in-Pow.ensures)) c.put_kept-then-n-eq0.ensures

pub returns-in_ok-b-in-Pow-2 : goal.returns-in_ok-b-in-Pow-2
returns-in_ok-b-in-Pow-2 g t c =
    let z : suc (c.in-Pow.n - 1) ≡ c.in-Pow.n = omega arith in
    let e : typed c.args.t.now ≡ TPow (typed c.in-Pow.x.value) (suc (c.in-Pow.n - 1)) (range c.args.t.now.pair) c.args.t.now.width =
    rw (z, c.in-Pow.is) refl in
    let f = rw c.deref-else-n-eq0-2.ensures at c.in_ok-b-in-Pow-2.ensures in
    IfOk-weaker c.put_kept-else-n-eq0.result _ _ (λ r q. q _ (walks.done_power e (rw c.deref-else-n-eq0.ensures at c.in_ok-a-in-Pow.ensures) f.wrote))
    c.put_kept-else-n-eq0.ensures

pub returns-in_ok-c-in-Add : goal.returns-in_ok-c-in-Add
returns-in_ok-c-in-Add g t c =
    let e = trees.two_is c.args.t.now c.in-Add.x c.in-Add.y c.in-Add.is in
    let f = rw (c.deref-in-Add-7.ensures, c.deref-in-Add-8.ensures) at c.in_ok-c-in-Add.ensures in
    IfOk-weaker c.put_kept-in-Add.result _ _ (λ r q. q _ (walks.done_two e (rw c.deref-in-Add.ensures at c.in_ok-a-in-Add.ensures)
    (rw (c.operation.ensures, c.deref-in-Add-2.ensures, c.deref-in-Add-3.ensures) at c.in_ok-put_left-in-Add.ensures)
    (rw c.deref-in-Add-4.ensures at c.in_ok-b-in-Add.ensures) (f (range c.args.t.now.pair) e).wrote)) c.put_kept-in-Add.ensures
