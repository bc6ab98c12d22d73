use Rattle.std.proofs.Common.{drop, ℕ, List, ◌++◌}
use Rattle.std.specs.Prelude.{Option}
use Rattle.ln_code.specs.declared.verdict.Verdict.{Verdict}
use Rattle.ln_code.specs.Met.{IsMet}
use Rattle.ln_code.specs.Memory.{MadeFor}
use Rattle.ln_code.proofs.run.run_segment.Given as goal

abbrev pub invariant-stages : goal.invariant-stages
invariant-stages l = record {
  made : MadeFor l.p l.s;
  met : (answer : Option Verdict) (rest : List ℕ) → IsMet l.values l.p.blocks answer (l.segment ++ rest) l.fn.met
      → IsMet l.values l.p.blocks answer (drop l.number-index l.segment ++ rest) (record { place = l.place; wide = l.wide; calls = l.calls });
}
