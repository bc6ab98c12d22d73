use Rattle.std.proofs.Common.{◌∙◌, ◌++◌, ◌∷◌, [], ap, append_assoc, map}
use Rattle.ln_csyn.specs.Meaning.{CCall}
use Rattle.ln_csyn.specs.View.{fun_tree}
use Rattle.ln_cmean.specs.Answered.{told}
use Rattle.ln_cmean.specs.Carrying.Calls.{meaning_words}
use Rattle.ln_cmean.proofs.program.meaning.put_line.Goals as goal

pub returns-clause-line : goal.returns-clause-line
returns-clause-line c = λ _.
    let is = c.call-meaning.ensures.meaning
    ∙ (λ i. CCall (map fun_tree c.args.file.now.funs) c.in-Some.c.name.now (c.deref.ensures.value i) (c.deref-2.ensures.value i)) in
    let call = rw c.in-Some.is at c.in_ok-c.ensures in
    let words = meaning_words (told c.call-meaning.result) in
    record {
      out = words ++ (10 ∷ []);
      meaning = record { name = _; index = _; values = _; call = call; meaning = ap (λ m. meaning_words m ++ (10 ∷ [])) is };
      appended = c.in_ok-push.ensures.items ∙ ap (λ x. x ++ (10 ∷ [])) c.in_ok-put_meaning.ensures ∙ append_assoc c.args.out.now.items words (10 ∷ []);
    }
