-- Answers to the goals of `put_predicate` in src/put.rt.
use Rattle.std.proofs.Common.{ap, codes, ◌∙◌, ◌∷◌, ◌++◌}
use Rattle.ln_base.proofs.Texts.Putting.{line_is}
use Rattle.ln_cert.proofs.put.put_predicate.Goals as goal

pub returns : goal.returns
returns c = line_is c.args.out.now.items c.put.new.out.items c.put_word.new.out.items c.push.new.self.items (codes "predicate") (λ r. c.args.name.now ∷ r)
    (c.in_ok-put.ensures ∙ ap (λ z. c.args.out.now.items ++ z) c.as_slice.ensures) c.in_ok-put_word.ensures c.in_ok-push.ensures.items
