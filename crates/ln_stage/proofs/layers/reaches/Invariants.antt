-- What goes through the loop of `reaches`.
use Rattle.std.proofs.Common.{◌≡◌, drop}
use Rattle.ln_stage.specs.Degrees.{any_reaches}
use Rattle.ln_stage.proofs.layers.reaches.Given as goal

abbrev pub invariant-kept : goal.invariant-kept
invariant-kept l = any_reaches l.f l.vs l.d (drop l.i-index l.kept) ≡ any_reaches l.f l.vs l.d l.kept
