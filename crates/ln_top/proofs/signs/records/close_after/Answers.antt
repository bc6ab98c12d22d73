use Rattle.std.proofs.Common.{refl, ap, Ok}
use Rattle.ln_base.specs.declared.outside.Port.TheVariants as port
use Rattle.ln_top.proofs.FrameLemmas.Carry.{as_result}
use Rattle.ln_top.proofs.SignsLemmas.WatchingLaws.{cut_on, put_on}
use Rattle.ln_top.proofs.signs.records.close_after.Goals as goal

pub returns-in-Err : goal.returns-in-Err
returns-in-Err g c =
    as_result (λ e. cc) (λ e. refl) (λ e. absurd e) (cut_on port.Err _ _ _ _ c.in-Err.ensures.step c.in-Err.ensures.cut)

pub returns-in-Ok : goal.returns-in-Ok
returns-in-Ok g c =
    as_result (λ e. ap Ok c.end_of.ensures) (λ e. cc) (λ e. absurd e) (put_on port.Err _ _ _ _ c.in-Ok.ensures.fine c.in-Ok.ensures.puts)
