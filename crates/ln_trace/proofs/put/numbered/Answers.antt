use Rattle.std.proofs.Common.{decimal, ◌∷◌}
use Rattle.std.proofs.lemmas.Result.{IfOk-weaker}
use Rattle.ln_base.proofs.Texts.Putting.{line_is, number_put}
use Rattle.ln_trace.proofs.put.numbered.Goals as goal

pub returns : goal.returns
returns c = IfOk-weaker c.put-2.result _ _ (λ x h. line_is c.args.text.now.items c.put.new.out.items c.put_number.new.out.items c.put-2.new.out.items
    c.args.word.now (λ r. decimal c.args.n ∷ r) c.in_ok-put.ensures (number_put c.put.new.out.items c.put_number.new.out.items c.from.result c.args.n
    c.in_ok-put_number.ensures c.from.ensures) (rw c.as_slice.ensures at h)) c.put-2.ensures
