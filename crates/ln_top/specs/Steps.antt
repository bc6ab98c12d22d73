-- The steps before the work, as a chain: the first that stops decides.
use Rattle.std.specs.Prelude.{◌≡◌, ℕ, ◌≤◌, ◌<◌, List, [], ◌∷◌, length, Option, Some, None}
use Rattle.ln_base.specs.Limits.{most_file, most_source}
use Rattle.ln_base.specs.Outside.{Shelf, bytes_of, IsAbsent}
use Rattle.ln_tree.specs.Table.{TableOf, PredOf}
use Rattle.ln_compile.specs.declared.refusal.Refusal.{Refusal}
use Rattle.ln_top.specs.declared.frame.stop.Place.{Place}
use Rattle.ln_top.specs.declared.frame.stop.Why.{Why}
use Rattle.ln_top.specs.declared.frame.stop.Why.TheVariants.{TooLong, Refused, NoPredicate}
use Rattle.ln_top.specs.declared.words.Command.{Command}
use Rattle.ln_top.specs.Plan.{Plan, plan_of}
use Rattle.ln_top.specs.Frame.Source.{IsAccepted, IsRefusedAt}
use Rattle.ln_top.specs.Signature.{Asks, objection}
use Rattle.ln_top.specs.Frame.Given.{Outcome, stops, missing, gives, named, Given}

-- one step, and where it has a value the next one
pub data Then {A B : Type 0} (first : Outcome A → Type 0) (next : A → Outcome B → Type 0) : Outcome B → Type 0 where
  stopped : (why : Why) → first (stops why) → Then first next (stops why)
  lacks : first missing → Then first next missing
  goes : (a : A) {o : Outcome B} → first (gives a) → next a o → Then first next o

-- the end of a chain
abbrev pub ChainEnds : {A : Type 0} → A → Outcome A → Type 0
ChainEnds a o = o ≡ gives a

-- the same step for each member of a list, in order
abbrev pub Each : {A B : Type 0} → (A → Outcome B → Type 0) → List A → Outcome (List B) → Type 0
Each step [] = ChainEnds []
Each step (a ∷ rest) = Then (step a) (λ b. Then (Each step rest) (λ bs. ChainEnds (b ∷ bs)))

-- a file may hold these bytes: where files tell theirs it does, else any file may
abbrev pub MayHold : Option Shelf → List ℕ → List ℕ → Type 0
MayHold None name bytes = Unit {0}
MayHold (Some shelf) name bytes = bytes_of name shelf ≡ Some bytes

-- a file may hold more bytes than the limit
abbrev pub MayPass : Option Shelf → ℕ → List ℕ → Type 0
MayPass None limit name = Unit {0}
MayPass (Some shelf) limit name = (bytes : List ℕ) × (bytes_of name shelf ≡ Some bytes) × (limit < length bytes)

-- a file is read
pub data Reads (told : Option Shelf) (limit : ℕ) (name : List ℕ) : Outcome (List ℕ) → Type 0 where
  there : (bytes : List ℕ) → MayHold told name bytes → length bytes ≤ limit → Reads told limit name (gives bytes)
  long : MayPass told limit name → Reads told limit name (stops TooLong)
  absent : IsAbsent name told → Reads told limit name missing

-- a source is compiled
pub data Compiles (bytes : List ℕ) : Outcome TableOf → Type 0 where
  accepted : (t : TableOf) → IsAccepted bytes t → Compiles bytes (gives t)
  refused : (r : Refusal) (place : Place) → IsRefusedAt bytes r place → Compiles bytes (stops (Refused r place))

-- a predicate is looked for
pub data Finds (preds : List PredOf) (name : List ℕ) : Outcome PredOf → Type 0 where
  found : (p : PredOf) → named name preds ≡ Some p → Finds preds name (gives p)
  none : named name preds ≡ None → Finds preds name (stops NoPredicate)

-- the named predicates suit the command, or it objects
pub data Suits (c : Command) (bytes : List ℕ) (preds : List PredOf) : Outcome (Unit {0}) → Type 0 where
  suited : Asks c preds → Suits c bytes preds (gives tt)
  unsuited : (Asks c preds → ⊥) → Suits c bytes preds (stops (objection c bytes preds))

-- the source is read and compiled, the names are looked for, their predicates suit the command, the further files are read
abbrev pub Prepares : Plan → Option Shelf → Outcome Given → Type 0
Prepares plan told =
    Then (Reads told most_source plan.source) (λ bytes.
    Then (Compiles bytes) (λ table.
    Then (Each (Finds table.preds) plan.names) (λ preds.
    Then (Suits plan.command bytes preds) (λ fine.
    Then (Each (Reads told most_file) plan.files) (λ texts.
    ChainEnds (record { table = table; preds = preds; texts = texts }))))))

-- a claim on what is given where these words are this command and the files prepare it
abbrev pub WhereGiven : List (List ℕ) → Shelf → Command → (Given → Type 0) → Type 0
WhereGiven words shelf command claim =
    (plan : Plan) (g : Given) → plan_of words ≡ Some plan → plan.command ≡ command
    → Prepares plan (Some shelf) (gives g) → claim g
