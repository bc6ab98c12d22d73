use Rattle.std.proofs.Common.{◌<◌, ◌^◌, ◌≡◌, ap, arith, rules}
use Rattle.ln_code.specs.declared.op.Triple.{Triple}
use Rattle.ln_filter.proofs.Truncation.Bits.{bits_by_zeros}
use Rattle.ln_filter.proofs.marks.ScopeMarks.input.Goals as goal

pub undivided-requires-clause-divides : goal.undivided-requires-clause-divides
undivided-requires-clause-divides c =
    let small : c.whole.result.h < 2 ^ 64 = search rules in
    let k : c.whole.result.k ≡ 0 = ap (λ (t : Triple). t.k) c.whole.ensures.value in
    omega (arith, bits_by_zeros 64 c.whole.result.h small, k)
