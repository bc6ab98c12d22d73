-- The first fault of a file: a token that has one, after tokens that have none.
use Rattle.std.specs.Prelude.{◌≡◌, ℕ, List, [], ◌∷◌, ◌++◌, Option, Some, None}
use Rattle.ln_syntax.specs.Raw.{Token, Item}
use Rattle.ln_names.specs.declared.faults.Found.{Found}
use Rattle.ln_names.specs.declared.faults.NamesStop.{NamesStop}
use Rattle.ln_names.specs.declared.faults.NamesStop.TheVariants as stop
use Rattle.ln_names.specs.Rules.{Use, fault_at}
use Rattle.ln_names.specs.Visits.{Visit, visit, file_visits}

-- no token has a fault
abbrev pub Clean : List ℕ → List Visit → Type 0
Clean bytes [] = Unit {0}
Clean bytes (v ∷ vs) = (fault_at bytes v.use_of v.at ≡ None) × Clean bytes vs

-- a token that has this fault, and no token before it has one
pub record IsFirst (bytes : List ℕ) (vs : List Visit) (f : Found) : Type 0 where
  pub before : List Visit
  pub use_of : Use
  pub after : List Visit
  pub stands : vs ≡ before ++ (visit use_of f.at ∷ after)
  pub clean : Clean bytes before
  pub fault : fault_at bytes use_of f.at ≡ Some f.fault

-- the first fault of names and limits of a file with these tokens and items
abbrev pub FirstFault : List ℕ → List Token → List Item → Found → Type 0
FirstFault bytes ts is f = IsFirst bytes (file_visits ts is) f

-- a file with these tokens and items has no fault of names and limits
abbrev pub NoFault : List ℕ → List Token → List Item → Type 0
NoFault bytes ts is = Clean bytes (file_visits ts is)

-- a stop at this first fault, or out of memory
abbrev pub NamesStopAt : Option Found → NamesStop → Type 0
NamesStopAt o (stop.Found f) = o ≡ Some f
NamesStopAt o (stop.NoMemory e) = Unit {0}

-- a stop at the first fault of a file with these tokens and items, or out of memory
abbrev pub StopsNames : List ℕ → List Token → List Item → NamesStop → Type 0
StopsNames bytes ts is (stop.Found f) = FirstFault bytes ts is f
StopsNames bytes ts is (stop.NoMemory e) = Unit {0}
