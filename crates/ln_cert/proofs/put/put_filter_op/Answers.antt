-- Answers to the goals of `put_filter_op` in src/put.rt.
use Rattle.std.proofs.Common.{◌≡◌, [], ◌∷◌, ◌++◌, subst}
use Rattle.ln_cert.specs.Text.{certificate, filter_word, number_words, triple_words}
use Rattle.ln_base.specs.Lines.{parted}
use Rattle.ln_base.proofs.Texts.Putting.{line_two}
use Rattle.ln_cert.proofs.put.put_filter_op.Goals as goal

pub returns : goal.returns
returns c =
    subst (λ v. c.push.new.self.items ≡ c.args.out.now.items
    ++ (parted (filter_word v ∷ (number_words c.args.op ++ certificate v (triple_words c.args.t))) ++ (10 ∷ []))) c.verb_of-verb.ensures
    (line_two c.args.out.now.items c.put.new.out.items c.put_op_number.new.out.items c.put_certificate_triple.new.out.items c.push.new.self.items
    c.filter_word.result.now (filter_word c.verb_of-verb.result) (number_words c.args.op) (certificate c.verb_of-verb.result (triple_words c.args.t))
    c.in_ok-put.ensures c.filter_word.ensures c.in_ok-put_op_number.ensures c.in_ok-put_certificate_triple.ensures c.in_ok-push.ensures.items)
