use Rattle.std.proofs.Common.{◌∙◌, ap}
use Rattle.ln_top.specs.Signs.Graded.{rank_kept}
use Rattle.ln_top.proofs.signs.generate.work.Goals as goal

pub returns : goal.returns
returns g c = λ given s. c.run_made.ensures given (c.in_ok-target.ensures.given given s).pred

pub one_target-requires-clause-kept : goal.one_target-requires-clause-kept
one_target-requires-clause-kept g c = rw c.requires.kept tt

pub run_made-requires : goal.run_made-requires
run_made-requires g c = c.in_ok-target.ensures.rank ∙ ap rank_kept c.requires.kept
