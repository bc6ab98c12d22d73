use Rattle.std.proofs.Common.{◌∙◌, ap}
use Rattle.ln_top.proofs.SignsLemmas.ExplainedRows.{sound_pred}
use Rattle.ln_top.proofs.SignsLemmas.RunLaws.{has_records}
use Rattle.ln_top.specs.Signs.Graded.{rank_kept}
use Rattle.ln_top.proofs.signs.explain.work.Goals as goal

pub returns : goal.returns
returns g c = λ given s.
    let there = c.in_ok-target.ensures.given given s in
    let sound = sound_pred _ given _ s c.requires.stands.sound there in
    rw c.no_watchers.ensures at (c.put_lines.ensures given (sound, c.in_ok-target.ensures.rank ∙ ap rank_kept c.requires.kept)
    (has_records there.pred there.names (c.short_text.ensures.is given s)))

pub one_target-requires-clause-kept : goal.one_target-requires-clause-kept
one_target-requires-clause-kept g c = rw c.requires.kept tt
