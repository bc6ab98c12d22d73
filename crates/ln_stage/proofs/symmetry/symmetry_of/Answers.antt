use Rattle.std.proofs.Common.{◌≡◌, false, rules}
use Rattle.ln_stage.proofs.Testing.Pairs.{neither}
use Rattle.ln_stage.proofs.symmetry.symmetry_of.Goals as goal

pub returns-then-has_symmetry-clause-found : goal.returns-then-has_symmetry-clause-found
returns-then-has_symmetry-clause-found c = c.has_symmetry.ensures.yes (search rules)

pub returns-then-has_symmetry-2-clause-found : goal.returns-then-has_symmetry-2-clause-found
returns-then-has_symmetry-2-clause-found c = c.has_symmetry-2.ensures.yes (search rules)

pub returns-clause-none : goal.returns-clause-none
returns-clause-none c =
    let q : c.has_symmetry.result ≡ false = search rules in
    let r : c.has_symmetry-2.result ≡ false = search rules in
    neither c.args.s.now.sites c.args.s.now.vars c.args.f.now (c.has_symmetry.ensures.no q) (c.has_symmetry-2.ensures.no r)
