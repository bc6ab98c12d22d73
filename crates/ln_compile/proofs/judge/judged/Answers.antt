use Rattle.ln_compile.proofs.judge.judged.Goals as goal

pub returns-clause-basis : goal.returns-clause-basis
returns-clause-basis c =
    let f = c.in_ok-poly.ensures in let e = c.in_ok-stages.ensures in
    record { expanded = record { sound = e.sound; normal = f.normal; terms = f.terms; degrees = f.degrees }; stages = e.stages }
