-- Answers to the goals of `are_three` in src/edges.rt.
use Rattle.std.proofs.Common.{◌≡◌, length, arith, rules}
use Rattle.ln_trial_programs.proofs.ThreeSites.{three_args}
use Rattle.ln_trial_programs.proofs.edges.are_three.Goals as goal
use Rattle.ln_trial_programs.proofs.edges.are_three.Goals.{then-is_first, else-is_first}

pub returns-then-is_first-2 : goal.returns-then-is_first-2
returns-then-is_first-2 c = λ third.
    let n : length c.args.args.now ≡ 3 = omega (arith, c.in-len3.len_at_least, c.in-len3.len_below) in
    elim c.if-is_first.branch [
      | then-is_first w ↦ three_args c.args.args.now c.a-item.result c.b-item.result c.c-item.result n c.a-item.is c.b-item.is c.c-item.is
          (c.is_first.ensures (search rules)) (w.is_first-then-is_first.ensures (search rules)) (c.is_first-then-is_first-2.ensures third)
      | else-is_first w ↦ absurd (search rules)
    ]
