-- The names of the emitted file. Functions begin with l: `lf_NAME` is the filter of a predicate, `lb0_NAME`, `lb1_NAME`, .. its
-- blocks, `ln_NAME`, `la_NAME` or `ls_NAME` the function that is called from outside. Declarations begin with n, with which no keyword begins.
use Rattle.std.specs.Prelude.{◌≡◌, ℕ, ◌≤◌, ◌^◌, ◌==◌, ◌&&◌, Bool, true, false, List, [], ◌∷◌, ◌++◌, codes, decimal}
use Rattle.ln_cemit.specs.declared.entry.Entry.{Entry}
use Rattle.ln_cemit.specs.declared.entry.Entry.TheVariants.{Alternating, EveryRow, Symmetric}
use Rattle.ln_cemit.specs.Checked.{AreNames}
use Rattle.ln_cemit.specs.Conditions.{AreFree}

-- a declaration by its number
abbrev pub decl_name : ℕ → List ℕ
decl_name n = 110 ∷ decimal n

-- the one declaration of the function with two parameters
abbrev pub answer_name : List ℕ
answer_name = codes "answer"

-- `lf_NAME`, the function of the filter of predicate x
abbrev pub filter_name : List ℕ → List ℕ
filter_name x = 108 ∷ 102 ∷ 95 ∷ x

-- `lbN_NAME`, the function of block number b of predicate x
abbrev pub block_name : List ℕ → ℕ → List ℕ
block_name x b = 108 ∷ 98 ∷ (decimal b ++ 95 ∷ x)

-- `ln_NAME`, the function of predicate x that is called from outside, for every row
abbrev pub call_name : List ℕ → List ℕ
call_name x = 108 ∷ 110 ∷ 95 ∷ x

-- that for every row, or `la_NAME` or `ls_NAME`, for rows whose indices rise
abbrev pub entry_name : Entry → List ℕ → List ℕ
entry_name EveryRow x = call_name x
entry_name Alternating x = 108 ∷ 97 ∷ 95 ∷ x
entry_name Symmetric x = 108 ∷ 115 ∷ 95 ∷ x

-- the name begins with l
abbrev pub begins_with_l : List ℕ → Bool
begins_with_l [] = false
begins_with_l (b ∷ bs) = b == 108

-- each of these names begins with l
abbrev pub all_begin : List (List ℕ) → Bool
all_begin [] = true
all_begin (x ∷ xs) = begins_with_l x && all_begin xs

-- they serve for a block of at most this many operations
abbrev pub NamesServe : Type 0
NamesServe = (names : List (List ℕ)) (top : ℕ) → top ≤ 2 ^ 63 → all_begin names ≡ true → AreNames decl_name top
    × AreFree names decl_name top
