-- The watchers of the program, as one type.
use Rattle.std.specs.Prelude.{ℕ, List, [], ◌∷◌}
use Rattle.ln_watch.specs.declared.watcher.Watcher.{Watcher}
use Rattle.ln_watch.specs.declared.watcher.Watcher.TheVariants.{Signs, Deciders, First}
use Rattle.ln_watch.specs.Panel.{State}

-- the number of its kind
abbrev pub watcher_kind : Watcher → ℕ
watcher_kind (Signs w) = 1
watcher_kind (Deciders w) = 2
watcher_kind (First w) = 3

-- what it gathered
abbrev pub tally_of : Watcher → List ℕ
tally_of (Signs w) = w.plus ∷ w.zero ∷ w.minus ∷ []
tally_of (Deciders w) = w.filter ∷ w.plain ∷ w.stages ∷ w.nothing ∷ w.deepest ∷ []
tally_of (First w) = w

-- before any row: the state of a watcher of signs
abbrev pub signs : State
signs = record { kind = 1; tally = 0 ∷ 0 ∷ 0 ∷ [] }

-- the state of a watcher of deciders
abbrev pub deciders : State
deciders = record { kind = 2; tally = 0 ∷ 0 ∷ 0 ∷ 0 ∷ 0 ∷ [] }

-- the state of a watcher of the first n perturbed rows
abbrev pub first : ℕ → State
first n = record { kind = 3; tally = n ∷ [] }

-- those that see the rows of `gen`, in order
abbrev pub those_of_gen : List State
those_of_gen = signs ∷ deciders ∷ first 3 ∷ []
