-- First sight read aloud: the members of the lists, each once, in the order in which they are first come upon.
use Rattle.std.specs.Prelude.{◌≡◌, ◌↔◌, List, ◌++◌, ℕ}
use Rattle.ln_algebra.specs.Earlier.{IsSortedIn}
use Rattle.ln_algebra.specs.Vector.{In}
use Rattle.ln_order.specs.Prefixes.{joined}
use Rattle.ln_stage.specs.Lists.{first_seen}

-- going through the list one comes upon a before b: some beginning of it has a and not b. So the two differ
abbrev pub SightedBefore : List (List ℕ) → List ℕ → List ℕ → Type 0
SightedBefore all a b = (begin : List (List ℕ)) × (rest : List (List ℕ)) × (all ≡ begin ++ rest) × In begin a × (In begin b → ⊥)

-- these are the members of the lists, each once, in the order in which one comes upon them going through list after list
pub record AreByFirstSight (lists : List (List (List ℕ))) (found : List (List ℕ)) : Type 0 where
  pub members : (a : List ℕ) → In found a ↔ In (joined lists) a
  pub in_order : IsSortedIn (SightedBefore (joined lists)) found

-- the vectors that are first seen are just these
abbrev pub FirstSeenAreSighted : Type 0
FirstSeenAreSighted = (lists : List (List (List ℕ))) → AreByFirstSight lists (first_seen lists)
