use Rattle.std.proofs.Common.{◌≡◌, length}
use Rattle.ln_names.specs.Machine.{settled, machine_in}
use Rattle.ln_names.proofs.reading.Reading.settle.Given as goal

abbrev pub invariant-waiting : goal.invariant-waiting
invariant-waiting l = settled l.bar (machine_in l.self) ≡ settled l.bar (machine_in l.initial.self)

abbrev pub decreases-waiting : goal.decreases-waiting
decreases-waiting l = length l.self.waiting.items
