-- Answers to the goals of `put_inner` in src/constant.rt.
use Rattle.std.proofs.Common.{FitsSigned, rules, subst, ℤ}
use Rattle.std.proofs.lemmas.Int.{to_z-of_z}
use Rattle.std.proofs.lemmas.Result.{IfOk-weaker}
use mir.Syntax.{w128}
use Rattle.ln_csyn.specs.Spelling.{PutsTokens, spell}
use Rattle.ln_csyn.specs.Tree.{Inner}
use Rattle.ln_base.proofs.Texts.Putting.{puts_then}
use Rattle.ln_cemit.specs.Emit.{constant}
use Rattle.ln_cemit.proofs.constant.put_inner.Goals as goal

pub returns : goal.returns
returns c =
    let f : FitsSigned w128 c.args.z = search rules in
    IfOk-weaker c.put.result _ _ (λ _ p. subst (λ (z : ℤ). PutsTokens c.args.out.now.items c.put.new.out.items (spell (Inner c.args.kind (constant z))))
    (to_z-of_z w128 c.args.z f) (puts_then c.in_ok-put_cast.ensures (puts_then c.in_ok-put_whole.ensures p))) c.put.ensures
