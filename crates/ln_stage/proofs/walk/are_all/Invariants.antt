use Rattle.std.proofs.Common.{◌≡◌, drop}
use Rattle.ln_stage.specs.Kept.{all_have}
use Rattle.ln_stage.proofs.walk.are_all.Given as goal

abbrev pub invariant-kept : goal.invariant-kept
invariant-kept l = all_have l.f l.a (drop l.i-index l.kept) ≡ all_have l.f l.a l.kept
