use Rattle.std.proofs.Common.{◌≡◌, take}
use Rattle.ln_stage.specs.Kept.{high}
use Rattle.ln_stage.proofs.walk.with_exponent.Given as goal

abbrev pub invariant-kept : goal.invariant-kept
invariant-kept l = l.high.items ≡ high l.f l.v l.e (take l.i-index l.kept)
