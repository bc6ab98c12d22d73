-- The functions of the emitted file, as their heads show them.
use Rattle.std.specs.Prelude.{ℕ, zero, suc, Bool, true, false, List, [], ◌∷◌, ◌++◌, length, map, Option, Some, None}
use Rattle.ln_code.specs.Part.{FilterCode, Part}
use Rattle.ln_csyn.specs.Tree.{Fun}
use Rattle.ln_cemit.specs.Names.{block_name, filter_name}
use Rattle.ln_cemit.specs.Whole.{Entered, every_row, outer_name, part_name}

-- whether a function is static, whether it takes indices beside values, and its name
pub record Head : Type 0 where
  pub own : Bool
  pub indexed : Bool
  pub name : List ℕ

-- the head of a function
abbrev pub head : Fun → Head
head f = record { own = f.own; indexed = f.indexed; name = f.name }

-- a function that the others call: static, of values alone
abbrev pub inner : List ℕ → Head
inner name = record { own = true; indexed = false; name = name }

-- the function that is called from outside
abbrev pub outer : List ℕ → Head
outer name = record { own = false; indexed = true; name = name }

-- `lf_NAME`, where there is a filter
abbrev pub filter_heads : List ℕ → Option FilterCode → List Head
filter_heads x None = []
filter_heads x (Some f) = inner (filter_name x) ∷ []

-- this many of `lb0_NAME`, `lb1_NAME`, .., from number i on
abbrev pub block_heads : List ℕ → ℕ → ℕ → List Head
block_heads x i zero = []
block_heads x i (suc k) = inner (block_name x i) ∷ block_heads x (suc i) k

-- the functions of a program: its filter's, its blocks', and the one that is called from outside, which isn't static
abbrev pub part_heads : Entered → List Head
part_heads x =
    filter_heads (part_name x.part) x.part.filter ++ (block_heads (part_name x.part) 0 (length x.part.blocks) ++ outer (outer_name x) ∷ [])

-- those of each program in turn
abbrev pub heads_as : List Entered → List Head
heads_as [] = []
heads_as (x ∷ xs) = part_heads x ++ heads_as xs

-- where each has `ln_NAME`
abbrev pub heads_of : List Part → List Head
heads_of parts = heads_as (map every_row parts)
