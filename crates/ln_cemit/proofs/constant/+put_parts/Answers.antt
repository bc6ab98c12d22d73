-- Answers to the goals of `put_parts` in src/constant.rt.
use Rattle.std.proofs.Common.{◌≡◌, suc, ◌-◌, arith, refl, ◌/◌, ◌%◌, ◌^◌}
use Rattle.std.proofs.lemmas.Result.{IfOk-weaker}
use Rattle.ln_base.proofs.Texts.Putting.{puts_then}
use Rattle.ln_cemit.proofs.Writing.Parts.{parts_step}
use Rattle.ln_cemit.proofs.constant.+put_parts.Goals as goal

pub returns : goal.returns
returns t c =
    let e : c.args.k ≡ suc (c.args.k - 1) = omega (arith, c.if-k-eq0.false) in
    let r : c.args.n % 2147483648 ≡ c.args.n % 2 ^ 31 = refl in
    IfOk-weaker c.put.result _ _ (λ _ p. parts_step c.args.k c.args.n (c.args.k - 1) (c.args.n / 2147483648) (c.args.n % 2147483648) e refl refl
    (puts_then c.in_ok-put_tokens.ensures (puts_then c.in_ok-put_parts.ensures (puts_then c.in_ok-put_op.ensures (puts_then c.in_ok-put_constant.ensures
    (puts_then c.in_ok-put_tokens-2.ensures (puts_then c.in_ok-put_constant-2.ensures p))))))) c.put.ensures
