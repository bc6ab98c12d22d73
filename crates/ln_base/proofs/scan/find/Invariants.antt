use Rattle.std.proofs.Common.{◌≡◌, ◌+◌, ◌-◌, ◌≤◌, drop, length}
use Rattle.ln_base.specs.Lines.{span_to}
use Rattle.ln_base.proofs.scan.find.Given as goal

abbrev pub invariant-bytes : goal.invariant-bytes
invariant-bytes l = record {
  place : l.end + span_to l.stop (drop l.end l.bytes) ≡ l.at + span_to l.stop (drop l.at l.bytes);
  after : l.at ≤ l.end;
  within : l.end ≤ length l.bytes;
}

abbrev pub decreases-bytes : goal.decreases-bytes
decreases-bytes l = length l.bytes - l.end
