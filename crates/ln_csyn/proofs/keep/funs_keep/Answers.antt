-- Answers to the goals of `funs_keep` in src/keep.rt.
use Rattle.ln_csyn.specs.Sets.{names_in}
use Rattle.ln_csyn.specs.Keeps.{rest_keeps}
use Rattle.ln_csyn.proofs.Keeping.KeepLemmas.{next_fun}
use Rattle.ln_csyn.proofs.keep.funs_keep.Goals as goal

pub funs-preserved : goal.funs-preserved
funs-preserved c =
    next_fun (rest_keeps (names_in c.args.names.now)) _ _ c.args.funs.now c.funs.f-index c.f-item.result c.funs-test.true c.f-item.is
    c.funs.invariant c.in_ok-fun_keeps.ensures c.if-not-branch.false
