-- Defines the causes of each status: the ends of the steps in their order, and the faults that may come in their place.
use Rattle.std.specs.Prelude.{◌≡◌, ◌≢◌, ◌⊎◌, ℕ, List, [], Option, Some, None}
use Rattle.ln_base.specs.Limits.{most_file, most_source}
use Rattle.ln_base.specs.Outside.{Shelf, Shown, refused as out_of_memory}
use Rattle.ln_tree.specs.Table.{PredOf, TableOf}
use Rattle.ln_compile.specs.declared.refusal.Refusal.{Refusal}
use Rattle.ln_top.specs.declared.frame.status.End.{End}
use Rattle.ln_top.specs.declared.frame.status.End.TheVariants as end
use Rattle.ln_top.specs.declared.frame.status.Status.{Status}
use Rattle.ln_top.specs.declared.frame.status.Status.TheVariants as status
use Rattle.ln_top.specs.declared.frame.stop.Place.{Place}
use Rattle.ln_top.specs.declared.frame.stop.Why.{Why}
use Rattle.ln_top.specs.declared.frame.stop.Why.TheVariants.{TooLong, NoPredicate}
use Rattle.ln_top.specs.Frame.Said.{Said, line, put_both, end_status}
use Rattle.ln_top.specs.Frame.Stop.{why_end, why_text}
use Rattle.ln_top.specs.Plan.{Plan, plan_of}
use Rattle.ln_top.specs.Frame.Source.{IsRefusedAt}
use Rattle.ln_top.specs.Frame.Given.{stops, gives, Given}
use Rattle.ln_top.specs.Steps.{Prepares, Reads, Compiles, Finds, Each, MayPass}
use Rattle.ln_top.specs.Signature.{Asks, objection}
use Rattle.ln_top.specs.Works.{WorkEnds}

-- a status that was required: any but those of faults of the outside and of running out of memory
pub record IsSettled (s : Status) : Type 0 where
  pub read : s ≢ status.Read
  pub write : s ≢ status.Write
  pub memory : s ≢ status.Memory out_of_memory

-- what is required was written, with its status
pub record Answered (owes : Said → Type 0) (result : Status) (was now : Option Shown) : Type 0 where
  pub said : Said
  pub owed : owes said
  pub status : result ≡ end_status said.end
  pub shown : now ≡ put_both said.out said.err was

-- the words are a plan, its source file is read and has this table
pub record HasTable (words : List (List ℕ)) (told : Option Shelf) (plan : Plan) (table : TableOf) : Type 0 where
  pub form : plan_of words ≡ Some plan
  pub bytes : List ℕ
  pub read : Reads told most_source plan.source (gives bytes)
  pub accepted : Compiles bytes (gives table)

-- each end and its causes, in the order of the steps
pub data Ends (words : List (List ℕ)) (told : Option Shelf) (e : End) : Type 0 where
  -- the words are no command
  usage : plan_of words ≡ None → e ≡ end.Usage → Ends words told e
  -- the source file is over its limit
  long_source : (plan : Plan) → plan_of words ≡ Some plan → MayPass told most_source plan.source
      → e ≡ end.TooLong → Ends words told e
  -- the source is refused
  refused : (plan : Plan) (bytes : List ℕ) (r : Refusal) (place : Place) → plan_of words ≡ Some plan
      → Reads told most_source plan.source (gives bytes) → IsRefusedAt bytes r place
      → e ≡ end.Refused → Ends words told e
  -- it has no predicate of a name
  no_predicate : (plan : Plan) (table : TableOf) → HasTable words told plan table
      → Each (Finds table.preds) plan.names (stops NoPredicate)
      → e ≡ end.NoPredicate → Ends words told e
  -- the named predicates don't suit the command
  unsuited : (plan : Plan) (table : TableOf) (preds : List PredOf) (h : HasTable words told plan table)
      → Each (Finds table.preds) plan.names (gives preds) → (Asks plan.command preds → ⊥)
      → e ≡ why_end (objection plan.command h.bytes preds) → Ends words told e
  -- a further file is over its limit
  long_file : (plan : Plan) (table : TableOf) (preds : List PredOf) → HasTable words told plan table
      → Each (Finds table.preds) plan.names (gives preds) → Asks plan.command preds
      → Each (Reads told most_file) plan.files (stops TooLong)
      → e ≡ end.TooLong → Ends words told e
  -- the work ends so, by the command's own file
  worked : (plan : Plan) (g : Given) → plan_of words ≡ Some plan → Prepares plan told (gives g)
      → WorkEnds plan.command g e → Ends words told e

-- memory ran out, or a count of faults of reading or of writing rose
abbrev pub Yields : Status → Type 0 → Type 0 → Type 0
Yields result reads puts = (result ≡ status.Memory out_of_memory) ⊎ ((result ≡ status.Read) × reads) ⊎ ((result ≡ status.Write) × puts)

-- a status comes exactly where its cause is, but yields to running out of memory and to a fault of reading or writing, whose count then rose
pub record ExactlyWhere (s : Status) (cause : Type 0) (result : Status) (reads puts : Type 0) : Type 0 where
  pub only : result ≡ s → cause
  pub comes : cause → (result ≡ s) ⊎ Yields result reads puts

-- each status that is required comes exactly where the steps end so
abbrev pub EndsExactly : List (List ℕ) → Shelf → Status → Type 0 → Type 0 → Type 0
EndsExactly words shelf result reads puts = (e : End) → ExactlyWhere (end_status e) (Ends words (Some shelf) e) result reads puts

-- an end that no work has came with the line of its stop alone
pub record SaysLine (e : End) (was now : Option Shown) : Type 0 where
  pub why : Why
  pub is : e ≡ why_end why
  pub shown : now ≡ put_both [] (line (why_text why)) was
