use Rattle.std.proofs.Common.{map, refl}
use Rattle.std.proofs.lemmas.Result.{IfOk-weaker}
use Rattle.ln_tree.specs.Table.{pred_of}
use Rattle.ln_compile.proofs.Listing.FilteredLemmas.{answers_for}
use Rattle.ln_top.proofs.JudgesLemmas.EdgesLaws.{edges_said, one_given, points_for}
use Rattle.ln_compile.proofs.Numbers.{one_within}
use Rattle.ln_top.proofs.FrameLemmas.ReadyLaws.{one_name}
use Rattle.ln_top.proofs.judges.edges.lines.Goals as goal
use Rattle.ln_top.proofs.judges.edges.lines.Goals.{in-Ok, in-Err}

pub program-requires : goal.program-requires
program-requires c =
    rw c.as_slice.ensures.value (one_within c.args.ready.now.compiled.table.preds _ _ c.requires.ready.stands.stands.numbered
    (one_name _ _ _ c.requires.ready.fit refl refl))

pub edge_lines-lines-requires-clause-points : goal.edge_lines-lines-requires-clause-points
edge_lines-lines-requires-clause-points c =
    let s = c.requires.ready.stands in
    let one = one_given (map pred_of c.args.ready.now.compiled.table.preds) s.given.preds _ s.stands.numbered (one_name _ _ _ c.requires.ready.fit refl refl) in
    points_for c.args.ready.now s.given one.0 _ _ c.args.points.now s.stands one.1 one.2 c.blocks-blocks.ensures.kept
    (answers_for _ _ (rw c.as_slice.ensures.value at c.in_ok-program.ensures.program one.0 one.2)) (c.requires.points s.given s.stands)

pub returns : goal.returns
returns c = elim c.match-new.branch [
  | in-Ok w ↦ rw w.lines-is (IfOk-weaker w.edge_lines-lines.result _ _ (λ v h given s.
      let one = one_given (map pred_of c.args.ready.now.compiled.table.preds) given.preds _ s.numbered (one_name _ _ _ c.requires.ready.fit refl refl) in
      edges_said c.args.ready.now given one.0 _ _ c.args.points.now s one.1 one.2 c.blocks-blocks.ensures.kept
      (answers_for _ _ (rw c.as_slice.ensures.value at c.in_ok-program.ensures.program one.0 one.2)) (c.requires.points given s) _ h)
      w.edge_lines-lines.ensures)
  | in-Err w ↦ rw w.lines-is tt
]
