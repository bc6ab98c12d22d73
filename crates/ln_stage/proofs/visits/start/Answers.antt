use Rattle.std.proofs.Common.{◌∙◌, ap, replicate}
use Rattle.ln_stage.proofs.Walks.StartLemmas.{zeros-replicate}
use Rattle.ln_stage.proofs.Walks.VisitLemmas.{starts}
use Rattle.ln_stage.proofs.visits.start.Goals as goal

pub returns : goal.returns
returns c = starts c.args.s.now.vars c.args.f.now c.args.s.now.kept c.requires.prefix c.requires.below c.requires.rising c.requires.some c.in_ok-vars.ensures
    c.in_ok-kept.ensures (c.in_ok-exps.ensures ∙ ap (λ n. replicate n 0) c.len.ensures ∙ zeros-replicate _)
