-- Answers to the goals of `put_call` in src/file.rt.
use Rattle.std.proofs.Common.{subst}
use Rattle.std.proofs.lemmas.Result.{IfOk-weaker}
use Rattle.ln_csyn.specs.Spelling.{PutsTokens, spell_fun}
use Rattle.ln_cemit.specs.File.{two_fun}
use Rattle.ln_cemit.specs.Names.{entry_name}
use Rattle.ln_cemit.specs.Whole.{call_body, part_name}
use Rattle.ln_cemit.proofs.file.put_call.Goals as goal

pub returns : goal.returns
returns c =
    let f = two_fun (entry_name c.args.entry (part_name c.args.p.now)) (call_body c.args.p.now) in
    IfOk-weaker c.lay_fun.result _ _
    (λ _ h. h f (subst (λ z. PutsTokens z c.put_call_fun.new.out.items (spell_fun f)) c.new-tokens.ensures.items c.in_ok-put_call_fun.ensures))
    c.lay_fun.ensures
