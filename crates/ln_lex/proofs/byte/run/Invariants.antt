use Rattle.std.proofs.Common.{◌≡◌, ◌+◌, drop}
use Rattle.ln_lex.specs.Tokens.{in_class}
use Rattle.ln_base.specs.Runs.{run_len}
use Rattle.ln_lex.proofs.byte.run.Given as goal

abbrev pub invariant-loop-i : goal.invariant-loop-i
invariant-loop-i l = l.i + run_len (in_class l.class) (drop l.i l.bytes) ≡ run_len (in_class l.class) l.bytes
