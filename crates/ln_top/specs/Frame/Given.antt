-- Defines what a step before the work comes to, and what the work of a command is done on.
use Rattle.std.specs.Prelude.{ℕ, List, find, bytes_eq, Option}
use Rattle.ln_tree.specs.Table.{TableOf, PredOf}
use Rattle.ln_top.specs.declared.frame.stop.Why.{Why}

-- what a step comes to: it stops the command, or a file that it wants isn't there, or it has a value to go on with
pub data Outcome (A : Type 0) : Type 0 where
  stops : Why → Outcome A
  missing : Outcome A
  gives : A → Outcome A

-- the first predicate of a name
abbrev pub named : List ℕ → List PredOf → Option PredOf
named name preds = find (λ p. bytes_eq p.name name) preds

-- what the work is done on: the source's table, the named predicates, the texts of the further files
pub record Given : Type 0 where
  pub table : TableOf
  pub preds : List PredOf
  pub texts : List (List ℕ)
