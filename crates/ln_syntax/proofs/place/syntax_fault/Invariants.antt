use Rattle.std.proofs.Common.{◌≡◌, ◌≤◌, take, Some}
use Rattle.ln_syntax.specs.Automaton.{goes, start}
use Rattle.ln_syntax.proofs.place.syntax_fault.Given as goal

abbrev pub invariant-tokens : goal.invariant-tokens
invariant-tokens l = record { walked : goes start (take l.i l.ts) ≡ Some (l.state, l.depth); shallow : l.depth ≤ l.i }
