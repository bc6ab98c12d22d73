-- Answers to the goals of `put_exponent` in src/put.rt.
use Rattle.std.proofs.lemmas.Result.{IfOk-weaker}
use Rattle.ln_base.proofs.Texts.Putting.{exponent_is}
use Rattle.ln_base.proofs.put.put_exponent.Goals as goal

pub returns : goal.returns
returns c = IfOk-weaker c.put_digits.result _ _
    (λ _ p. exponent_is c.args.out.now.items c.put_number.new.out.items c.push.new.self.items c.put_digits.new.out.items c.args.v c.args.e
    c.from.result c.from-2.result c.in_ok-put_number.ensures c.from.ensures c.in_ok-push.ensures.items p c.from-2.ensures) c.put_digits.ensures
