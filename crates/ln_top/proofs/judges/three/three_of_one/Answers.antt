use Rattle.std.proofs.Common.{arith}
use Rattle.ln_top.proofs.JudgesLemmas.ThreeLaws.{are_three, not_three}
use Rattle.ln_top.proofs.judges.three.three_of_one.Goals as goal

pub returns-in_default : goal.returns-in_default
returns-in_default c = not_three c.args.p.now.args (λ e. let l = rw c.as_slice.ensures at c.in_default.len_below in omega (arith, l, e))

pub returns-in_default-2 : goal.returns-in_default-2
returns-in_default-2 c = not_three c.args.p.now.args (λ e. let l = rw c.as_slice.ensures at c.in_default.len_at_least in omega (arith, l, e))

pub returns-in-len3 : goal.returns-in-len3
returns-in-len3 c =
    let least = rw c.as_slice.ensures at c.in-len3.len_at_least in
    let below = rw c.as_slice.ensures at c.in-len3.len_below in
    let a = rw c.as_slice.ensures at c.a-item.is in
    let b = rw c.as_slice.ensures at c.b-item.is in
    let d = rw c.as_slice.ensures at c.c-item.is in
    are_three c.args.p.now.args _ _ _ _ _ _ _ (omega (arith, least, below)) a b d c.type_of.ensures c.type_of-in-len3.ensures c.type_of-in-len3-2.ensures
    c.one_type.ensures
