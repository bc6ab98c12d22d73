use Rattle.std.proofs.Common.{◌≡◌, ◌≤◌, take}
use Rattle.ln_syntax.specs.Place.{depth_after}
use Rattle.ln_syntax.proofs.Recognising.Depth.{ShallowTo}
use Rattle.ln_syntax.proofs.nesting.nesting_fault.Given as goal

abbrev pub invariant-tokens : goal.invariant-tokens
invariant-tokens l = record { at : l.depth ≡ depth_after 0 (take l.i l.ts); within : l.depth ≤ 64; shallow : ShallowTo l.ts l.i }
