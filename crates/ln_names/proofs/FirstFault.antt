-- The first fault as a fold is the first fault.
use Rattle.std.proofs.Common.{◌≡◌, ℕ, List, [], ◌∷◌, Option, Some, None, refl, ap, subst}
use Rattle.ln_names.specs.declared.faults.Fault.{Fault}
use Rattle.ln_syntax.specs.Raw.{Token, Item}
use Rattle.ln_names.specs.declared.faults.Found.{Found}
use Rattle.ln_names.specs.declared.faults.NamesStop.{NamesStop}
use Rattle.ln_names.specs.declared.faults.NamesStop.TheVariants as stop
use Rattle.ln_names.specs.Rules.{fault_at}
use Rattle.ln_names.specs.Visits.{Visit, visit, first_fault, or_later, file_visits}
use Rattle.ln_names.specs.First.{Clean, IsFirst, NamesStopAt, StopsNames}
use Rattle.ln_names.proofs.Walking.{first_append}

here : (bytes : List ℕ) (v : Visit) (vs : List Visit) (a : Fault) (f : Found) → fault_at bytes v.use_of v.at ≡ Some a
    → or_later (Some a) v.at (first_fault bytes vs) ≡ Some f → IsFirst bytes (v ∷ vs) f
here bytes v vs a f e h =
    let q : record { fault = a; at = v.at } ≡ f = cc in
    subst (λ (g : Found). IsFirst bytes (v ∷ vs) g) q (record { before = []; use_of = v.use_of; after = vs; stands = refl; clean = tt; fault = e })

later : (bytes : List ℕ) (v : Visit) (vs : List Visit) (f : Found) → fault_at bytes v.use_of v.at ≡ None → IsFirst bytes vs f → IsFirst bytes (v ∷ vs) f
later bytes v vs f e r = record {
  before = v ∷ r.before;
  use_of = r.use_of;
  after = r.after;
  stands = ap (λ (w : List Visit). v ∷ w) r.stands;
  clean = (e, r.clean);
  fault = r.fault;
}

found : (bytes : List ℕ) (v : Visit) (vs : List Visit) (f : Found) (o : Option Fault) → fault_at bytes v.use_of v.at ≡ o
    → or_later o v.at (first_fault bytes vs) ≡ Some f → (first_fault bytes vs ≡ Some f → IsFirst bytes vs f) → IsFirst bytes (v ∷ vs) f
found bytes v vs f None e h on = later bytes v vs f e (on h)
found bytes v vs f (Some a) e h on = here bytes v vs a f e h

-- the fault that the fold finds is the first one
pub is_first : (bytes : List ℕ) (vs : List Visit) (f : Found) → first_fault bytes vs ≡ Some f → IsFirst bytes vs f
is_first bytes [] f h = absurd (cc)
is_first bytes (v ∷ vs) f h = found bytes v vs f (fault_at bytes v.use_of v.at) refl h (is_first bytes vs f)

clean_at : (bytes : List ℕ) (v : Visit) (vs : List Visit) (o : Option Fault) → fault_at bytes v.use_of v.at ≡ o
    → or_later o v.at (first_fault bytes vs) ≡ None → (first_fault bytes vs ≡ None → Clean bytes vs) → Clean bytes (v ∷ vs)
clean_at bytes v vs None e h on = (e, on h)
clean_at bytes v vs (Some a) e h on = absurd (cc)

-- where the fold finds none, no token has a fault
pub is_clean : (bytes : List ℕ) (vs : List Visit) → first_fault bytes vs ≡ None → Clean bytes vs
is_clean bytes [] h = tt
is_clean bytes (v ∷ vs) h = clean_at bytes v vs (fault_at bytes v.use_of v.at) refl h (is_clean bytes vs)

-- where no token has a fault, the fold finds none
pub none_of_clean : (bytes : List ℕ) (vs : List Visit) → Clean bytes vs → first_fault bytes vs ≡ None
none_of_clean bytes [] h = refl
none_of_clean bytes (v ∷ vs) h = rw h.0 (none_of_clean bytes vs h.1)

-- the first fault is the one that the fold finds
pub first_of : (bytes : List ℕ) (vs : List Visit) (f : Found) → IsFirst bytes vs f → first_fault bytes vs ≡ Some f
first_of bytes vs f r =
    let a = none_of_clean bytes r.before r.clean in
    let b = r.fault in
    rw (r.stands, first_append bytes r.before (visit r.use_of f.at ∷ r.after), a, b) refl

-- a stop at the first fault of a file's tokens is one at the file's first fault
pub stops_names : (bytes : List ℕ) (ts : List Token) (is : List Item) (e : NamesStop) → NamesStopAt (first_fault bytes (file_visits ts is)) e
    → StopsNames bytes ts is e
stops_names bytes ts is (stop.Found f) h = is_first bytes (file_visits ts is) f h
stops_names bytes ts is (stop.NoMemory e) h = tt
