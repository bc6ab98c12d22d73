-- States that the calls of the C that `emit` writes mean the perturbed signs.
use Rattle.std.specs.Prelude.{◌≡◌, ◌≢◌, ℕ, pos, All, List, [], map, Option, Some}
use Rattle.ln_base.specs.Outside.{Shelf, Shown}
use Rattle.ln_base.specs.declared.sign.Sign.{Sign}
use Rattle.ln_algebra.specs.Orders.{BySmallest}
use Rattle.ln_tree.specs.Row.{Row}
use Rattle.ln_tree.specs.Table.{PredOf}
use Rattle.ln_code.specs.declared.verdict.By.{By}
use Rattle.ln_code.specs.Part.{Part}
use Rattle.ln_due.specs.Due.{sign_number}
use Rattle.ln_csyn.specs.Tree.{Fun}
use Rattle.ln_csyn.specs.Text.{CText}
use Rattle.ln_csyn.specs.Meaning.{CCall, Counts, Signed}
use Rattle.ln_cemit.specs.Heads.{head, heads_of}
use Rattle.ln_cemit.specs.Names.{call_name}
use Rattle.ln_cemit.specs.Whole.{part_name}
use Rattle.ln_top.specs.declared.words.Command.TheVariants.{Emit}
use Rattle.ln_top.specs.Frame.Said.{put_both}
use Rattle.ln_top.specs.ByValue.{IsByValue, plain_value}
use Rattle.ln_top.specs.Perturbed.{FilterDecides, IsSignOn, NotZeroWithoutParams}
use Rattle.ln_top.specs.Steps.{WhereGiven}
use Rattle.ln_top.specs.Target.Target.{OnRows}

-- on this row the call of `ln_NAME` has a meaning: the perturbed sign of the predicate. Without params it isn't 0. Where the filter
-- decides, no operation is done in `__int128`. Where the value on the row isn't 0, that decides, with the calls of functions
-- that `counts` has
pub record CallsPerturbedSign (file : List Fun) (p : PredOf) (row : Row) : Type 0 where
  pub sign : Sign
  pub counts : Counts
  pub called : CCall file (call_name p.name) row.index row.values ≡ Some (Signed (sign_number sign) counts)
  pub perturbed : IsSignOn BySmallest p row sign
  pub never_zero : NotZeroWithoutParams p sign
  pub narrow : FilterDecides p row → counts.wide ≡ 0
  pub plain : plain_value p row ≢ pos 0 → (by : By) × IsByValue p row sign by counts.calls counts.wide

-- the functions of the file are those of programs with the predicates' names, in order, and no other: of each the filter's, if there is
-- one, the blocks', and `ln_NAME`, the one that isn't static; each is named after its predicate
pub record HasFunctionsFor (file : List Fun) (preds : List PredOf) : Type 0 where
  pub programs : List Part
  pub names : map part_name programs ≡ map (λ (p : PredOf). p.name) preds
  pub heads : map head file ≡ heads_of programs

-- what came to Out is the text of such a C file, and nothing came to Err
pub record PutC (preds : List PredOf) (was now : Option Shown) : Type 0 where
  pub bytes : List ℕ
  pub file : List Fun
  pub text : CText bytes file
  pub functions : HasFunctionsFor file preds
  pub signs : All (OnRows (CallsPerturbedSign file)) preds
  pub shown : now ≡ put_both bytes [] was

-- where the words are `emit FILE`, and the source that the files contain is accepted, C for its predicates came to Out
abbrev pub CallsArePerturbed : List (List ℕ) → Shelf → Option Shown → Option Shown → Type 0
CallsArePerturbed words shelf was now = WhereGiven words shelf Emit (λ g. PutC g.table.preds was now)
