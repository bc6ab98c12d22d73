-- The rows that `gen` makes: a row takes a word of the generator for each column, in order.
use Rattle.std.specs.Prelude.{◌≡◌, ℕ, zero, suc, ◌+◌, ◌-◌, ◌*◌, ◌%◌, ◌^◌, ◌==◌}
use Rattle.std.specs.Prelude.{Bool, ◌&&◌, if◌then◌else◌}
use Rattle.std.specs.Prelude.{ℤ, pos, neg_ℤ, ◌+ℤ◌, ◌-ℤ◌, unsigned_abs, int_le, int_lt, List, [], ◌∷◌, length, take}
use Rattle.rand_pcg.specs.Lcg.{Lcg}
use Rattle.rand_pcg.specs.Pcg.{pcg64}
use Rattle.ln_tree.specs.declared.shape.VarInfo.{VarInfo}
use Rattle.ln_tree.specs.Row.{Row}
use Rattle.ln_code.specs.declared.row.Row as code
use Rattle.ln_code.specs.RowOf.{IsZeroPast}
use Rattle.ln_rows.specs.Record.{Column, SiteIndex, Variable, columns}

-- the next k words of a generator, and the generator just past them
abbrev pub words : ℕ → Lcg → List ℕ
words zero g = []
words (suc k) g = (pcg64 g).0 ∷ words k (pcg64 g).1

-- the generator after its next k words
abbrev pub past : ℕ → Lcg → Lcg
past zero g = g
past (suc k) g = past k (pcg64 g).1

-- a site at place j has the index (word mod 2^32) * 8 + j, so no two sites of a row have the same
abbrev pub index_by : ℕ → ℕ → ℤ
index_by j word = pos (word % 2 ^ 32 * 8 + j)

-- a value from lo to hi
abbrev pub value_by : ℤ → ℤ → ℕ → ℤ
value_by lo hi word = lo +ℤ pos (word % (unsigned_abs (hi -ℤ lo) + 1))

-- the low end of the part of a range from -2 to 2
abbrev pub low_part : ℤ → ℤ
low_part lo = if int_lt lo (neg_ℤ (pos 2)) then neg_ℤ (pos 2) else lo

-- its high end
abbrev pub high_part : ℤ → ℤ
high_part hi = if int_lt (pos 2) hi then pos 2 else hi

-- on an even row a range is narrowed to that part, if it isn't empty
abbrev pub is_narrowed : ℕ → ℤ → ℤ → Bool
is_narrowed n lo hi = (n % 2 == 0) && int_le (low_part lo) (high_part hi)

-- the low end that the range of a variable has on row n
abbrev pub low_end : ℕ → ℤ → ℤ → ℤ
low_end n lo hi = if is_narrowed n lo hi then low_part lo else lo

-- the high end that the range of a variable has on row n
abbrev pub high_end : ℕ → ℤ → ℤ → ℤ
high_end n lo hi = if is_narrowed n lo hi then high_part hi else hi

-- the value of a variable on row n
abbrev pub variable_by : ℕ → VarInfo → ℕ → ℤ
variable_by n i word = value_by (low_end n i.lo i.hi) (high_end n i.lo i.hi) word

-- the indices of the sites, of which the first is at place j, and the values of the variables on row n, by the words of their columns
abbrev pub indices_by : ℕ → List Column → List ℕ → List ℤ
indices_by j [] ws = []
indices_by j (c ∷ cs) [] = []
indices_by j (SiteIndex ∷ cs) (w ∷ ws) = index_by j w ∷ indices_by (suc j) cs ws
indices_by j (Variable i ∷ cs) (w ∷ ws) = indices_by j cs ws

-- the values of the variables on row n, by the words of their columns
abbrev pub values_by : ℕ → List Column → List ℕ → List ℤ
values_by n [] ws = []
values_by n (c ∷ cs) [] = []
values_by n (SiteIndex ∷ cs) (w ∷ ws) = values_by n cs ws
values_by n (Variable i ∷ cs) (w ∷ ws) = variable_by n i w ∷ values_by n cs ws

-- row n over these variables, by a word for each column
abbrev pub row_by : ℕ → List VarInfo → List ℕ → Row
row_by n vars ws = record { index = indices_by 0 (columns vars) ws; values = values_by n (columns vars) ws }

-- the first places of its arrays are row n by the next words, one for each column, and the places past them are 0
pub record IsMade (n : ℕ) (vars : List VarInfo) (g : Lcg) (r : code.Row) : Type 0 where
  pub index : take (length (columns vars) - length vars) r.index ≡ indices_by 0 (columns vars) (words (length (columns vars)) g)
  pub values : take (length vars) r.values ≡ values_by n (columns vars) (words (length (columns vars)) g)
  pub zeros : IsZeroPast (length (columns vars) - length vars) (length vars) r
