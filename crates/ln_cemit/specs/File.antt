-- Defines the functions of blocks, and after them the one with two parameters.
use Rattle.std.specs.Prelude.{◌≡◌, ◌≢◌, ℕ, ◌<◌, Bool, true, false, List, [], ◌∷◌, ◌++◌, length, slice_index_or, Some, ℤ}
use Rattle.std.proofs.Common.{suc}
use Rattle.ln_order.specs.Order.{IsOrder, index_at}
use Rattle.ln_csyn.specs.declared.tree.CType.TheVariants.{Int64}
use Rattle.ln_csyn.specs.Tree.{Body, End, Fun}
use Rattle.ln_csyn.specs.Meaning.{CCall, Counts, Said, Signed, has}
use Rattle.ln_cemit.specs.Emit.{touching_index}
use Rattle.ln_cemit.specs.Checked.{ups}
use Rattle.ln_cemit.specs.Walked.{body_for}
use Rattle.ln_cemit.specs.Law.{Means}
use Rattle.ln_cemit.specs.Choose.{first_of_signs}
use Rattle.ln_cemit.specs.Chosen.{AreNumbers, decided, list_of_order}

-- a function with one parameter
abbrev pub one_fun : List ℕ → Body → Fun
one_fun name body = record { own = true; name = name; indexed = false; body = body; end = 2 }

-- one function for each body, numbered from i on
abbrev pub one_funs : (ℕ → List ℕ) → ℕ → List Body → List Fun
one_funs name i [] = []
one_funs name i (b ∷ bs) = one_fun (name i) b ∷ one_funs name (suc i) bs

-- a function with two parameters, which is called from outside
abbrev pub two_fun : List ℕ → Body → Fun
two_fun name body = record { own = false; name = name; indexed = true; body = body; end = 2 }

-- none of these functions has the name
abbrev pub AreAway : List Fun → List ℕ → Type 0
AreAway [] x = Unit {0}
AreAway (f ∷ fs) x = (f.name ≢ x) × AreAway fs x

-- On a row whose indices differ a call of the function with two parameters returns the first sign that isn't 0 along what is before all
-- blocks and the list of the row's order, and counts as many calls as functions were entered; its counts are those of the functions
-- entered. Other functions may come before and after.
abbrev pub FileMeans : Type 0
FileMeans =
    (front rest : List Fun) (block : ℕ → List ℕ) (own name : List ℕ) (touch : Bool) (bodies : List Body) (sign : ℕ → ℤ)
    (after : ℕ → Counts → Counts) (segment : List ℕ → List ℕ) (before places : List ℕ) (indices values : List ℤ) →
    AreAway front name → ((b : ℕ) → b < length bodies → AreAway front (block b)) →
    ((i j : ℕ) → i < length bodies → j < length bodies → block i ≡ block j → i ≡ j) →
    ((b : ℕ) → b < length bodies → Means values (slice_index_or bodies b End) (sign b) (after b)) →
    AreNumbers (length bodies) before → ((p : List ℕ) → AreNumbers (length bodies) (segment p)) →
    ((i : ℕ) → i < length indices → has Int64 (index_at indices i) ≡ true) → IsOrder indices places →
    (j : Counts)
    × (CCall (front ++ (one_funs block 0 bodies
    ++ two_fun name (touching_index touch (body_for block own segment before (length indices))) ∷ rest)) name indices values
    ≡ Some (Signed (decided sign (before ++ list_of_order segment (length indices) places)).0 j))
    × (j.calls ≡ ups (decided sign (before ++ list_of_order segment (length indices) places)).1 0)
    × (first_of_signs sign after (before ++ list_of_order segment (length indices) places) (record { wide = 0; calls = 0 })
    ≡ Said (decided sign (before ++ list_of_order segment (length indices) places)).0 j)
