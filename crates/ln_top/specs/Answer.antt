-- Defines what the program writes and how it ends, by its words, its files and the watchers that are handed in. Files
-- whose bytes aren't known may hold anything.
use Rattle.std.specs.Prelude.{◌≡◌, ℕ, List, Option, Some, None}
use Rattle.ln_base.specs.Outside.{Shelf}
use Rattle.ln_watch.specs.Panel.{State}
use Rattle.ln_top.specs.declared.frame.stop.Why.{Why}
use Rattle.ln_top.specs.declared.frame.stop.Why.TheVariants.{Usage}
use Rattle.ln_top.specs.Frame.Said.{Said}
use Rattle.ln_top.specs.Frame.Stop.{said_of}
use Rattle.ln_top.specs.Plan.{Plan, plan_of}
use Rattle.ln_top.specs.Frame.Given.{stops, missing, gives, Given}
use Rattle.ln_top.specs.Steps.{Prepares}
use Rattle.ln_top.specs.Works.{WorkOwes, WorkPart}

-- what a plan requires: the line of the step that stops, or what its work requires
pub data PlanOwes (plan : Plan) (told : Option Shelf) (boxes : List State) : Said → Type 0 where
  stopped : (why : Why) → Prepares plan told (stops why) → PlanOwes plan told boxes (said_of why)
  worked : (g : Given) {said : Said} → Prepares plan told (gives g) → WorkOwes plan.command boxes g said
      → PlanOwes plan told boxes said

-- a part of it that may be left when memory runs out
pub record PlanPart (plan : Plan) (told : Option Shelf) (boxes : List State) (out err : List ℕ) : Type 0 where
  pub given : Given
  pub ready : Prepares plan told (gives given)
  pub part : WorkPart plan.command boxes given out err

-- a file that it names and its steps reach isn't there
abbrev pub PlanLacks : Plan → Option Shelf → Type 0
PlanLacks plan told = Prepares plan told missing

-- what words require: the usage line where they are no command, else what their plan requires
pub data Answer (words : List (List ℕ)) (told : Option Shelf) (boxes : List State) : Said → Type 0 where
  usage : plan_of words ≡ None → Answer words told boxes (said_of Usage)
  planned : (plan : Plan) {said : Said} → plan_of words ≡ Some plan → PlanOwes plan told boxes said → Answer words told boxes said

-- the words are a plan, and where an allocation fails these bytes on the two streams are a part that its work may leave
pub record Part (words : List (List ℕ)) (told : Option Shelf) (boxes : List State) (out err : List ℕ) : Type 0 where
  pub plan : Plan
  pub form : plan_of words ≡ Some plan
  pub part : PlanPart plan told boxes out err

-- a file that the words name and the steps reach isn't there
pub record IsMissing (words : List (List ℕ)) (told : Option Shelf) : Type 0 where
  pub plan : Plan
  pub form : plan_of words ≡ Some plan
  pub lacks : PlanLacks plan told
