use Rattle.std.proofs.Common.{refl, rules}
use Rattle.ln_top.proofs.FrameLemmas.LinesLaws.{from_some}
use Rattle.ln_top.proofs.FrameLemmas.LinesLaws.{running_none, running_takes, running_stops, running_empties, running_breaks, running_gives_up}
use Rattle.ln_top.proofs.FrameLemmas.LinesLaws.{running_all}
use Rattle.ln_top.proofs.SignsLemmas.RowsLaws.{counted_on, next_few}
use Rattle.ln_top.proofs.signs.records.put_records.Goals as goal

pub rows-init : goal.rows-init
rows-init g c = (λ ps k. running_none c.requires.empty, c.requires.fits, c.requires.space, refl)

pub returns-then-not-put_piece : goal.returns-then-not-put_piece
returns-then-not-put_piece g c = λ ps k. running_breaks (c.rows.invariant.0 ps k) c.if-not-put_piece.ensures.empties

pub take_record-requires-clause-range : goal.take_record-requires-clause-range
take_record-requires-clause-range g c =
    let takes = from_some c.in-Ok-Some.field-0 c.in-Ok-Some.read _ (rw c.pred.ensures at c.in-Ok-Some.ensures.takes) (search rules) in takes.2.in_range

pub take_record-requires-clause-few : goal.take_record-requires-clause-few
take_record-requires-clause-few g c =
    let takes = from_some c.in-Ok-Some.field-0 c.in-Ok-Some.read _ (rw c.pred.ensures at c.in-Ok-Some.ensures.takes) (search rules) in
    next_few _ _ _ _ _ c.rows.invariant.3 takes.1 c.requires.few

pub returns-in-Ok-None : goal.returns-in-Ok-None
returns-in-Ok-None g c = λ ps k.
    let ends = c.in-Ok-None.ensures.end (search rules) in
    running_all (running_empties (c.rows.invariant.0 ps k) c.if-not-put_piece.ensures.empties) ends.0

pub returns-in-Err : goal.returns-in-Err
returns-in-Err g c = λ ps k. running_gives_up _ (running_empties (c.rows.invariant.0 ps k) c.if-not-put_piece.ensures.empties)

pub returns-in-Err-take_record : goal.returns-in-Err-take_record
returns-in-Err-take_record g c = λ ps k.
    let takes = from_some c.in-Ok-Some.field-0 c.in-Ok-Some.read _ (rw c.pred.ensures at c.in-Ok-Some.ensures.takes) (search rules) in
    running_stops (running_empties (c.rows.invariant.0 ps k) c.if-not-put_piece.ensures.empties) takes.1
    (c.in-Err-take_record.ensures.takes takes.0 takes.2 ps k)

pub rows-preserved : goal.rows-preserved
rows-preserved g c =
    let takes = from_some c.in-Ok-Some.field-0 c.in-Ok-Some.read _ (rw c.pred.ensures at c.in-Ok-Some.ensures.takes) (search rules) in (
      λ ps k. running_takes (running_empties (c.rows.invariant.0 ps k) c.if-not-put_piece.ensures.empties) takes.1
          (c.in-Ok.ensures.takes takes.0 takes.2 ps k) refl,
      c.take_record.ensures.fits,
      c.take_record.ensures.space,
      counted_on _ _ _ _ _ _ c.in-Ok.ensures.seen c.rows.invariant.3 takes.1,
    )
