use Rattle.std.proofs.Common.{◌≡◌, ◌∙◌, ◌++◌, [], ap, map}
use Rattle.ln_csyn.specs.Keeps.{fresh_on, names_of}
use Rattle.ln_csyn.specs.Sets.{names_in}
use Rattle.ln_csyn.specs.View.{fun_tree}
use Rattle.ln_csyn.proofs.Keeping.KeepLemmas.{distinct_is}
use Rattle.ln_cmean.proofs.need.names.Goals as goal

pub funs-init : goal.funs-init
funs-init c =
    let all = names_of (map fun_tree c.args.funs.now) in
    let none : names_in c.new-set.result ≡ [] = ap (map (λ k. k.now)) c.new-set.ensures.empty in
    record { fresh = ap (λ ns. fresh_on ns all) none ∙ distinct_is all ∙ c.requires; all = ap (λ ns. ns ++ all) none }
