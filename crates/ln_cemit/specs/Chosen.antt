-- States what is to be proved of the body by prefixes.
use Rattle.std.specs.Prelude.{◌≡◌, ℕ, ◌<◌, true, List, [], ◌∷◌, ◌++◌, length, map, take, Some, if◌then◌else◌, ℤ, pos}
use Rattle.std.proofs.Common.{suc}
use Rattle.std.specs.List.{range_with_len}
use Rattle.ln_algebra.specs.Walk.{Member}
use Rattle.ln_order.specs.Order.{IsOrder, index_at}
use Rattle.ln_order.specs.Prefixes.{joined}
use Rattle.ln_csyn.specs.Meaning.{Counts}
use Rattle.ln_csyn.specs.declared.tree.CType.TheVariants.{Int, Int64}
use Rattle.ln_csyn.specs.Meaning.{Scene, Said, Gives, runs, is_zero, has}
use Rattle.ln_cemit.specs.Choose.{first_of_signs}
use Rattle.ln_cemit.specs.Checked.{ups}
use Rattle.ln_cemit.specs.Walked.{body_for, calls_in}

-- the list of an order of k sites: the segments of its prefixes, one after the other
abbrev pub list_of_order : (List ℕ → List ℕ) → ℕ → List ℕ → List ℕ
list_of_order segment k places = joined (map (λ j. segment (take j places)) (range_with_len 0 (suc k)))

-- each block that is named below m returns its sign
abbrev pub Answers : Scene → (ℕ → List ℕ) → ℕ → (ℕ → ℤ) → (ℕ → Counts → Counts) → Type 0
Answers s block m sign after = (b : ℕ) → b < m → ((k : Counts) → s.call (block b) k ≡ Gives Int (sign b) (after b k))
    × (has Int (sign b) ≡ true)

-- the numbers of a list are below m
abbrev pub AreNumbers : ℕ → List ℕ → Type 0
AreNumbers m bs = (b : ℕ) → Member bs b → b < m

-- On a row whose indices differ, which is where it has an order, the body returns what the filter and then the blocks of the row's order
-- return, one after the other.
abbrev pub FindsTheOrder : Type 0
FindsTheOrder =
    (block : ℕ → List ℕ) (own : List ℕ) (s : Scene) (m : ℕ) (sign : ℕ → ℤ) (after : ℕ → Counts → Counts)
    (segment : List ℕ → List ℕ) (before places : List ℕ) (indices : List ℤ) (k : Counts) →
    Answers s block m sign after → AreNumbers m before → ((p : List ℕ) → AreNumbers m (segment p)) →
    s.index ≡ Some indices → ((i : ℕ) → i < length indices → has Int64 (index_at indices i) ≡ true) → IsOrder indices places →
    runs s [] (body_for block own segment before (length indices)) k
    ≡ first_of_signs sign after (before ++ list_of_order segment (length indices) places) k

-- the first sign that isn't 0, and how many blocks were entered up to it
abbrev pub decided : (ℕ → ℤ) → List ℕ → ℤ × ℕ
decided sign [] = (pos 0, 0)
decided sign (b ∷ bs) = if is_zero (sign b) then ((decided sign bs).0, suc (decided sign bs).1) else (sign b, 1)

-- Where the blocks keep the count of calls, the result is that sign, and this many calls are counted.
abbrev pub CallsAreCounted : Type 0
CallsAreCounted =
    (sign : ℕ → ℤ) (after : ℕ → Counts → Counts) (bs : List ℕ) (k : Counts) →
    ((b : ℕ) → Member bs b → (j : Counts) → (after b j).calls ≡ j.calls) →
    (j : Counts) × (first_of_signs sign after bs k ≡ Said (decided sign bs).0 j) × (j.calls ≡ ups (decided sign bs).1 k.calls)

-- ---- a worked one
-- one block for the empty prefix, two for each site, two for each pair, none for whole orders
abbrev pub orient_segment : List ℕ → List ℕ
orient_segment [] = 0 ∷ []
orient_segment (a ∷ []) = 1 ∷ 2 ∷ []
orient_segment (a ∷ b ∷ []) = 3 ∷ 4 ∷ []
orient_segment (a ∷ b ∷ c ∷ p) = []

-- three sites have 19 calls, where whole lists would have 30
abbrev pub OrientCalls : Type 0
OrientCalls = (block : ℕ → List ℕ) (own : List ℕ) → calls_in (body_for block own orient_segment [] 3) ≡ 19
