-- Defines what the program has ready for the work, and what it stands for.
use Rattle.std.specs.Prelude.{ℕ, List, Option}
use Rattle.ln_base.specs.Outside.{Shelf}
use Rattle.ln_tree.specs.Table.{PredOf}
use Rattle.ln_top.specs.declared.frame.ready.Ready.{Ready}
use Rattle.ln_top.specs.Steps.{Each, Finds, Prepares}
use Rattle.ln_top.specs.Frame.Given.{Given, gives}
use Rattle.ln_top.specs.Plan.{Plan}
use Rattle.ln_compile.specs.Compiled.{AreNumbered}
use Rattle.ln_top.specs.Frame.Ready.{StandsFor}

-- names were found, at these numbers
pub record HasNumbers (table : List PredOf) (names : List (List ℕ)) (numbers : List ℕ) : Type 0 where
  pub preds : List PredOf
  pub found : Each (Finds table) names (gives preds)
  pub numbered : AreNumbered table numbers preds

-- it is the result of the steps of the plan
pub record IsReady (plan : Plan) (told : Option Shelf) (r : Ready) : Type 0 where
  pub given : Given
  pub prepared : Prepares plan told (gives given)
  pub stands : StandsFor r given
