-- Defines what the program has ready for the work, and what it stands for.
use Rattle.std.specs.Prelude.{◌≡◌, ℕ, ◌≤◌, All, List, map, length}
use Rattle.ln_base.specs.Limits.{most_file}
use Rattle.ln_tree.specs.Table.{pred_of}
use Rattle.ln_compile.specs.Accepted.{AreSound}
use Rattle.ln_compile.specs.Compiled.{AreNumbered}
use Rattle.ln_top.specs.declared.frame.ready.Ready.{Ready}
use Rattle.ln_top.specs.Frame.Source.{view}
use Rattle.ln_top.specs.Frame.Given.{Given}
use Rattle.ln_top.specs.Frame.Signature.{AreAsked, Form, KeepsFor, Signature}

-- the further files are within their limit
abbrev pub AreShort : List (List ℕ) → Type 0
AreShort = All (λ t. length t ≤ most_file)

-- what is ready stands for this
pub record StandsFor (r : Ready) (g : Given) : Type 0 where
  pub table : g.table ≡ view r.compiled.table
  pub numbered : AreNumbered (map pred_of r.compiled.table.preds) r.numbers.items g.preds
  pub texts : g.texts ≡ map (λ v. v.items) r.texts.items

-- there are as many names and files as the command takes
pub record IsFit (f : Form) (numbers texts : ℕ) : Type 0 where
  pub least : f.least ≤ numbers
  pub most : numbers ≤ f.most
  pub files : texts ≡ f.files

-- it stands for something; no predicate of the source has a fault, and the further files are within their limit
pub record HasStanding (r : Ready) : Type 0 where
  pub given : Given
  pub stands : StandsFor r given
  pub sound : AreSound (map pred_of r.compiled.table.preds)
  pub short : AreShort given.texts

-- and is as much as the command takes and suits it: what each work asks of the steps before it
pub record IsReadyFor (s : Signature) (r : Ready) : Type 0 where
  pub stands : HasStanding r
  pub fit : IsFit s.form (length r.numbers.items) (length r.texts.items)
  pub suited : AreAsked s.suits stands.given.preds
  pub kept : KeepsFor s.suits (map pred_of r.compiled.table.preds) r.numbers.items r.kept
