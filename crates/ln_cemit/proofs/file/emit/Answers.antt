-- Answers to the goals of `emit` in src/file.rt.
use Rattle.std.proofs.Common.{◌≡◌, ◌<◌, ap, arith, get_or, length, subst, take}
use Rattle.ln_cemit.proofs.Writing.Whole.{all_begun, begun_is_emitted, more_begun}
use Rattle.ln_cemit.proofs.file.emit.Goals as goal

pub programs-preserved : goal.programs-preserved
programs-preserved c =
    let e = c.as_slice-program-items.ensures.value in
    more_begun c.put_program.new.out.items c.args.p.now c.programs.program-index c.program-item.result
    (subst (λ z. c.programs.program-index < length z) e c.programs-test.true)
    (subst (λ z. c.program-item.result ≡ get_or z c.programs.program-index c.program-item.result) e c.program-item.is)
    (c.in_ok-put_program.ensures.ok (take c.programs.program-index c.args.p.now) c.programs.invariant)

pub returns : goal.returns
returns c =
    let l = ap length c.as_slice-program-items.ensures.value in
    begun_is_emitted c.args.p.now c.programs.out.items c.as_slice-program-items.ensures.kept
    (all_begun c.programs.out.items c.args.p.now c.programs.program-index (omega (arith, l)) c.programs.invariant)
