use Rattle.std.proofs.Common.{◌≡◌, ◌≤◌, length, drop, []}
use Rattle.ln_code.specs.Engine.{run}
use Rattle.ln_code.specs.Bare.{bare}
use Rattle.ln_code.specs.Memory.{at, seen, shifted}
use Rattle.ln_code.proofs.processor.run_filter.Given as goal

abbrev pub invariant-ops : goal.invariant-ops
invariant-ops l = record {
  room : l.top ≤ length l.stack;
  locals : 256 ≤ length l.locals;
  size : length l.stack ≡ length l.initial.stack;
  same_locals : length l.locals ≡ length l.initial.locals;
  rest : run (bare l.values (length l.initial.stack)) (shifted (drop l.i l.ops) (drop l.i l.triples)) (record {
    stack = seen l.stack l.top;
    locals = at l.locals;
  }) ≡ run (bare l.values (length l.initial.stack)) (shifted l.ops l.triples) (record { stack = []; locals = at l.initial.locals });
}
