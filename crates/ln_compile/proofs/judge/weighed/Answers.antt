use Rattle.std.proofs.Common.{arith}
use Rattle.ln_tree.specs.Table.{pred_of}
use Rattle.ln_compile.proofs.Refusing.Judging.{heavy_stops, not_heavy, own_token}
use Rattle.ln_compile.proofs.judge.weighed.Goals as goal

pub returns-in-Some-clause-whole : goal.returns-in-Some-clause-whole
returns-in-Some-clause-whole c = not_heavy (pred_of c.args.p.now) c.args.f.now c.requires.normal (omega (arith, c.in-Some.ensures.0, c.in-Some.ensures.1))

pub returns-in-None-clause-err : goal.returns-in-None-clause-err
returns-in-None-clause-err c = heavy_stops c.args.k (pred_of c.args.p.now) c.args.f.now c.args.p.now.root.at
    (own_token c.args.p.now.root) c.requires.light c.requires.few c.requires.normal c.in-None.ensures
