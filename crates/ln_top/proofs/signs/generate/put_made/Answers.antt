use Rattle.std.proofs.Common.{sym}
use Rattle.ln_base.specs.declared.outside.Port.TheVariants.{Out}
use Rattle.ln_top.proofs.FrameLemmas.LinesLaws.{memory_write, ok_err}
use Rattle.ln_top.proofs.FrameLemmas.LinesCarry.{close_carried, early_carried, end_carried}
use Rattle.ln_top.proofs.SignsLemmas.GenLaws.{by_lines, no_part}
use Rattle.ln_top.proofs.SignsLemmas.WatchingLaws.{put_on, cut_on}
use Rattle.ln_top.proofs.signs.generate.put_made.Goals as goal

pub returns-then-not-put_rows : goal.returns-then-not-put_rows
returns-then-not-put_rows g c = λ given e.
    let ran = rw (c.new-panel.ensures, c.seed_from_u64-g.ensures) at c.if-not-put_rows.ensures in
    no_part (λ x. memory_write (sym x)) (early_carried (by_lines c.args.target.now c.requires.rank c.requires.belongs _ _ _ given e) ran)

pub returns-in-Err : goal.returns-in-Err
returns-in-Err g c = λ given e.
    let ran = rw (c.new-panel.ensures, c.seed_from_u64-g.ensures) at c.if-not-put_rows.ensures in
    no_part (λ x. memory_write (sym x))
    (close_carried (by_lines c.args.target.now c.requires.rank c.requires.belongs _ _ _ given e) ran
    (cut_on Out _ _ _ _ c.in-Err.ensures.step c.in-Err.ensures.cut))

pub returns-in-Ok : goal.returns-in-Ok
returns-in-Ok g c = λ given e.
    let ran = rw (c.new-panel.ensures, c.seed_from_u64-g.ensures) at c.if-not-put_rows.ensures in
    no_part (λ x. ok_err x)
    (end_carried (by_lines c.args.target.now c.requires.rank c.requires.belongs _ _ _ given e) ran
    (put_on Out _ _ _ _ c.in-Ok.ensures.fine c.in-Ok.ensures.puts))
