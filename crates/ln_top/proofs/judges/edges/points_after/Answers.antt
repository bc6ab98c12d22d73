use Rattle.std.proofs.Common.{subst}
use Rattle.ln_edges.specs.Read.{IsFound, coords_of}
use Rattle.ln_top.specs.Frame.Carried.{short, tells}
use Rattle.ln_top.specs.Judges.Edges.{fault, many, points}
use Rattle.ln_top.proofs.judges.edges.points_after.Goals as goal

pub returns-in-Ok-Points-clause-ok : goal.returns-in-Ok-Points-clause-ok
returns-in-Ok-Points-clause-ok c =
    let found = subst (IsFound (coords_of c.args.site.now) c.args.rows.now) c.in-Ok-Points.field-0-is c.in-Ok-Points.ensures in
    λ all e. points _ _ e found.0 found.1

pub returns-in-Ok-Many-clause-err : goal.returns-in-Ok-Many-clause-err
returns-in-Ok-Many-clause-err c =
    let found = subst (IsFound (coords_of c.args.site.now) c.args.rows.now) c.in-Ok-Many.field-0-is c.in-Ok-Many.ensures in
    λ all e. tells _ (many _ e found)

pub returns-in-Ok-NoPoint-clause-err : goal.returns-in-Ok-NoPoint-clause-err
returns-in-Ok-NoPoint-clause-err c =
    let found = subst (IsFound (coords_of c.args.site.now) c.args.rows.now) c.in-Ok-NoPoint.field-0-is c.in-Ok-NoPoint.ensures in
    λ all e. tells _ (fault _ _ e found.0 found.1)

pub returns-in-Err-clause-err : goal.returns-in-Err-clause-err
returns-in-Err-clause-err c = λ all e. short
