-- Defines what the work of a command owes, over the watchers that are handed in: what it is required to say, what may be left when memory runs out, and
-- how and where it ends. Names no command.
use Rattle.ln_watch.specs.Panel.{State}
use Rattle.std.specs.Prelude.{ℕ, List}
use Rattle.ln_tree.specs.Table.{PredOf}
use Rattle.ln_top.specs.declared.frame.status.End.{End}
use Rattle.ln_top.specs.declared.frame.status.End.TheVariants as end
use Rattle.ln_top.specs.Frame.Said.{Said}
use Rattle.ln_top.specs.Frame.Given.{Given}

-- the work of a command
pub record Work : Type 1 where
  -- what it is required to say: how it ends, and its bytes on both streams
  pub owes : List State → Given → Said → Type 0
  -- which bytes on both streams it may leave where an allocation fails
  pub part : List State → Given → List ℕ → List ℕ → Type 0
  -- how it ends on what it is given
  pub ends : Given → End → Type 0
  -- that it says one thing: not so where more than one text may be true of a source
  pub one : Type 0

-- the same work, which is required besides to be done by what is claimed of its predicates
abbrev pub work_by : (List PredOf → Type 0) → Work → Work
work_by claim w = record {
  owes = λ boxes g said. w.owes boxes g said × claim g.preds;
  part = w.part;
  ends = w.ends;
  one = w.one;
}

-- an end that works have; any other comes with its line alone
pub data IsWorkEnd : End → Type 0 where
  done : IsWorkEnd end.Done
  rows : IsWorkEnd end.Rows
  invalid : IsWorkEnd end.Invalid
  many : IsWorkEnd end.Many
