-- Answers to the goals of `put_laid` in src/write.rt.
use Rattle.std.proofs.Common.{subst}
use Rattle.std.proofs.lemmas.Result.{IfOk-weaker}
use Rattle.ln_csyn.specs.View.{fun_tree}
use Rattle.ln_csyn.specs.Spelling.{PutsTokens, spell_fun}
use Rattle.ln_csyn.proofs.write.put_laid.Goals as goal

pub returns : goal.returns
returns c =
    IfOk-weaker c.lay_fun.result _ _
    (λ _ h. h (fun_tree c.args.f.now)
    (subst (λ z. PutsTokens z c.put_fun.new.out.items (spell_fun (fun_tree c.args.f.now))) c.new-tokens.ensures.items c.in_ok-put_fun.ensures))
    c.lay_fun.ensures
