use Rattle.std.proofs.Common.{◌≡◌, ◌∙◌, false, true, sym}
use Rattle.std.proofs.lemmas.Result.{IfOk-weaker}
use Rattle.ln_trace.proofs.Premises.{of-sites}
use Rattle.ln_trace.proofs.exps.exps_of.Goals as goal

pub returns-then-not-are_of_sites : goal.returns-then-not-are_of_sites
returns-then-not-are_of_sites c r s = let z : false ≡ true = sym c.if-not-are_of_sites.true ∙ c.are_of_sites.ensures.1 s in cc

pub returns : goal.returns
returns c =
    IfOk-weaker c.exps_of.result _ _ (λ o. of-sites c.args.vars.now c.args.a.now o (c.are_of_sites.ensures.0 c.if-not-are_of_sites.false)) c.exps_of.ensures
