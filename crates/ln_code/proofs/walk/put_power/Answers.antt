use Rattle.std.proofs.Common.{◌≡◌, ◌+◌, arith, suc}
use Rattle.ln_bound.specs.View.{typed}
use Rattle.ln_code.proofs.Building.Walks as walks
use Rattle.ln_code.proofs.walk.put_power.Goals as goal

pub factor-b-requires-clause-power : goal.factor-b-requires-clause-power
factor-b-requires-clause-power g c =
    let e : c.factors.j + 1 ≡ suc c.factors.j = omega arith in
    rw e c.factors.invariant.so_far.bound

pub factors-preserved : goal.factors-preserved
factors-preserved g c = record {
  within = omega (arith, c.factors-test.true);
  so_far = walks.raises_next g.M.Marks.told (g.M.Marks.style c.args.m.now) (typed c.args.x.now) c.args.t.now.width _ _ _ c.factors.j c.args.a
      c.factor-b.result c.factors.p _ c.requires.base c.factor-b.ensures.value
      (g.met.M.Marks.powers c.args.m.now (typed c.args.x.now) (suc c.factors.j) c.args.t.now.width) c.factors.invariant.so_far c.in_ok-q.ensures;
}

pub returns : goal.returns
returns g c =
    let r = walks.raises_all g.M.Marks.told (g.M.Marks.style c.args.m.now) (typed c.args.x.now) c.args.t.now.width _ _ c.factors.j c.args.n
    c.factors.p c.if-n-eq0.false c.factors.invariant.within c.factors-test.false c.factors.invariant.so_far in
    record { bound = c.left-2.ensures; wrote = r.wrote }
