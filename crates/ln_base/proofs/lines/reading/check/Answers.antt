-- Answers to the goals of `check` in src/reading.rt.
use Rattle.std.proofs.Common.{◌≡◌, true, arith}
use Rattle.ln_base.proofs.Forms.Left.{so_far_fault, so_far_first, so_far_more, so_far_short, so_far_whole}
use Rattle.ln_base.proofs.lines.reading.check.Goals as goal

pub lines-init : goal.lines-init
lines-init g c = so_far_first _ c.args.bytes.now c.args.behind _ _ c.requires.first c.after-text.ensures c.start-state.ensures

pub returns-in_default-clause-err : goal.returns-in_default-clause-err
returns-in_default-clause-err g c = so_far_fault _ c.requires.sound c.args.bytes.now c.lines.state c.lines.text.now c.lines.number c.lines.invariant
    (rw c.in_default.is at c.in_ok-read.ensures)

pub lines-preserved : goal.lines-preserved
lines-preserved g c = so_far_more _ c.args.bytes.now c.lines.state c.lines.text.now c.lines.number c.in-Some.line c.in-Some.next c.in-Some.count
    c.after-text-in-lines.result.now c.lines.invariant (rw c.in-Some.is at c.in_ok-read.ensures) c.after-text-in-lines.ensures

pub returns-then-is_end-clause-ok : goal.returns-then-is_end-clause-ok
returns-then-is_end-clause-ok g c = so_far_whole _ c.args.bytes.now c.args.behind c.lines.state c.lines.text.now c.lines.number c.requires.short
    c.requires.first c.lines.invariant (omega arith) (c.is_end.ensures.0 c.if-is_end.true)

pub returns-else-is_end-clause-err : goal.returns-else-is_end-clause-err
returns-else-is_end-clause-err g c = so_far_short _ c.requires.sound c.args.bytes.now c.lines.state c.lines.text.now c.lines.number c.lines.invariant
    (omega arith) (λ e. let t : c.is_end.result ≡ true = c.is_end.ensures.1 e in let f = c.if-is_end.false in cc)
