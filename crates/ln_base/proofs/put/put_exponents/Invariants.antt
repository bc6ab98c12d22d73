-- The loop of `put_exponents` in src/put.rt.
use Rattle.std.proofs.Common.{◌++◌, drop, map}
use Rattle.ln_base.specs.Exponents.{exponent_word}
use Rattle.ln_base.specs.Lines.{Leaves, spaced}
use Rattle.ln_base.proofs.put.put_exponents.Given as goal

abbrev pub invariant-exps : goal.invariant-exps
invariant-exps l = Leaves spaced l.fn.out.items l.out.items (λ r. map exponent_word (drop l.pair-index l.exps) ++ r) (λ r. map exponent_word l.exps ++ r)
