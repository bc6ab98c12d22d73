-- The loop of `op_among` in src/word.rt.
use Rattle.std.proofs.Common.{◌≡◌, drop}
use Rattle.ln_csyn.specs.Spelling.{op_among}
use Rattle.ln_csyn.proofs.word.op_among.Given as goal

abbrev pub invariant-ops : goal.invariant-ops
invariant-ops l = op_among l.text (drop l.op-index l.ops) ≡ op_among l.text l.ops
