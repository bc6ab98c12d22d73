use Rattle.std.proofs.Common.{arith, length-take}
use Rattle.ln_csyn.specs.Sets.{names_in}
use Rattle.ln_cmean.proofs.Places.{named_before}
use Rattle.ln_cmean.proofs.functions.Functions.before.Goals as goal

pub invariant_of-result-clause-named : goal.invariant_of-result-clause-named
invariant_of-result-clause-named c =
    let s = c.args.self.now in
    named_before s.funs.now (names_in s.names.now) c.args.at _ c.requires (omega (arith, c.requires, length-take c.args.at s.funs.now)) s.named
