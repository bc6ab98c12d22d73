-- Answers to the goals of `fun_keeps` in src/keep.rt.
use Rattle.std.proofs.Common.{rules, ◌≡◌, ◌∙◌, true, [], ap}
use Rattle.std.proofs.lemmas.Result.{IfOk-weaker}
use Rattle.ln_csyn.specs.View.{body_tree, fun_tree}
use Rattle.ln_csyn.specs.Sets.{names_in}
use Rattle.ln_csyn.specs.Keeps.{is_own, body_keeps}
use Rattle.ln_csyn.proofs.Keeping.KeepLemmas.{fun_is}
use Rattle.ln_csyn.proofs.keep.fun_keeps.Goals as goal

pub returns : goal.returns
returns c =
    let own : is_own c.args.f.now.name ≡ true = search rules in
    let names = names_in c.args.funs.now in
    let at = ap (λ b. body_keeps names c.args.f.now.indexed [] (body_tree b)) c.as_slice-2.ensures.value in
    IfOk-weaker c.body_keeps.result _ _ (λ v p. p ∙ at ∙ fun_is names (fun_tree c.args.f.now) own) c.body_keeps.ensures
