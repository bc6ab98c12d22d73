-- Answers to the goals of `put_range_op` in src/put.rt.
use Rattle.std.proofs.lemmas.Int.{to_z-of_z}
use Rattle.std.proofs.Common.{◌≡◌, [], ◌∷◌, ◌++◌, rules, subst}
use Rattle.std.specs.Int.{w128}
use Rattle.std.specs.Prelude.{FitsSigned}
use Rattle.ln_cert.specs.Text.{block_word, certificate, number_words, range_words}
use Rattle.ln_base.specs.Lines.{parted}
use Rattle.ln_cert.proofs.Writing.Wrote.{certificate_put}
use Rattle.ln_base.proofs.Texts.Putting.{line_two}
use Rattle.ln_cert.proofs.put.put_range_op.Goals as goal

pub returns : goal.returns
returns c =
    let low : FitsSigned w128 c.args.low = search rules in
    let high : FitsSigned w128 c.args.high = search rules in
    subst (λ v. c.push.new.self.items ≡ c.args.out.now.items
    ++ (parted (block_word v ∷ (number_words c.args.op ++ certificate v (range_words c.args.low c.args.high))) ++ (10 ∷ []))) c.verb_of-verb.ensures
    (line_two c.args.out.now.items c.put.new.out.items c.put_op_number.new.out.items c.put_certificate_ends.new.out.items
    c.push.new.self.items c.block_word.result.now (block_word c.verb_of-verb.result) (number_words c.args.op)
    (certificate c.verb_of-verb.result (range_words c.args.low c.args.high)) c.in_ok-put.ensures c.block_word.ensures c.in_ok-put_op_number.ensures
    (certificate_put c.put_op_number.new.out.items c.put_certificate_ends.new.out.items c.verb_of-verb.result c.args.low c.args.high _ _
    c.in_ok-put_certificate_ends.ensures (to_z-of_z w128 c.args.low low) (to_z-of_z w128 c.args.high high)) c.in_ok-push.ensures.items)
