-- Answers to the goals of `write_listing` in src/write.rt.
use Rattle.std.proofs.Common.{◌≡◌, ◌<◌, ap, arith, get_or, length, subst, take}
use Rattle.ln_cert.specs.Written.{listing_of}
use Rattle.ln_cert.proofs.Writing.Programmed.{all_listed, more_listed}
use Rattle.ln_cert.proofs.Reading.Whole.{one_text}
use Rattle.ln_cert.proofs.write.write_listing.Goals as goal

pub programs-preserved : goal.programs-preserved
programs-preserved c =
    let e = c.as_slice-program-items.ensures.value in
    more_listed c.put_program.new.out.items c.args.p.now c.programs.program-index c.program-item.result
    (subst (λ z. c.programs.program-index < length z) e c.programs-test.true)
    (subst (λ z. c.program-item.result ≡ get_or z c.programs.program-index c.program-item.result) e c.program-item.is)
    (c.in_ok-put_program.ensures.ok (take c.programs.program-index c.args.p.now) c.programs.invariant)

pub returns-clause-text : goal.returns-clause-text
returns-clause-text c =
    let l = ap length c.as_slice-program-items.ensures.value in
    all_listed c.programs.out.items c.args.p.now c.programs.program-index (omega (arith, l)) c.programs.invariant

pub returns-clause-back : goal.returns-clause-back
returns-clause-back c w qs t =
    let l = ap length c.as_slice-program-items.ensures.value in
    one_text c.programs.out.items w 2 qs (listing_of c.args.p.now) t
    (all_listed c.programs.out.items c.args.p.now c.programs.program-index (omega (arith, l)) c.programs.invariant)
