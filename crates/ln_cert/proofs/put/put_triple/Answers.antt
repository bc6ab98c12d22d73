-- Answers to the goals of `put_triple` in src/put.rt.
use Rattle.std.proofs.lemmas.Result.{IfOk-weaker}
use Rattle.ln_base.proofs.Texts.Putting.{number_put}
use Rattle.ln_cert.proofs.Writing.Wrote.{triple_put}
use Rattle.ln_cert.proofs.put.put_triple.Goals as goal

pub returns : goal.returns
returns c = IfOk-weaker c.put_number-3.result _ _ (λ _ p. triple_put c.args.out.now.items c.put_number.new.out.items
    c.put_number-2.new.out.items c.put_number-3.new.out.items c.args.t
    (number_put c.args.out.now.items c.put_number.new.out.items c.from.result c.args.t.k c.in_ok-put_number.ensures c.from.ensures)
    (number_put c.put_number.new.out.items c.put_number-2.new.out.items c.from-2.result c.args.t.h c.in_ok-put_number-2.ensures c.from-2.ensures)
    (number_put c.put_number-2.new.out.items c.put_number-3.new.out.items c.from-3.result c.args.t.e p c.from-3.ensures)) c.put_number-3.ensures
