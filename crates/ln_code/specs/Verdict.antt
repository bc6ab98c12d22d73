-- What the machine returns on a row: the filter's sign where it decides, else that of the first block, along the list of the
-- row's order, that isn't 0.
use Rattle.std.specs.Prelude.{◌≡◌, ℕ, zero, suc, ◌+◌, nat_lt, ℤ, pos, negsuc, unsigned_abs}
use Rattle.std.specs.Prelude.{List, [], ◌∷◌, Option, Some, None, slice_get, if◌then◌else◌}
use Rattle.ln_base.specs.declared.sign.Sign.{Sign}
use Rattle.ln_base.specs.declared.sign.Sign.TheVariants.{Minus, Zero, Plus}
use Rattle.ln_tree.specs.Row as tree
use Rattle.ln_order.specs.Order.{IsOrder}
use Rattle.ln_code.specs.declared.verdict.Verdict.{Verdict}
use Rattle.ln_code.specs.declared.verdict.By.TheVariants.{Filter, Stage, Nothing}
use Rattle.ln_code.specs.Engine.{next}
use Rattle.ln_code.specs.Exact.{Held}
use Rattle.ln_code.specs.Part.{Code, FilterCode, Part, block_value, filter_value, wide_in}
use Rattle.ln_code.specs.Lists.{IsListOf}

-- the sign of an integer
abbrev pub sign_of : ℤ → Sign
sign_of (pos zero) = Zero
sign_of (pos (suc n)) = Plus
sign_of (negsuc n) = Minus

-- the block at this place of the list has the value z: it decides where that isn't 0, else what follows does
abbrev pub settled : ℤ → ℕ → ℕ → ℕ → Option Verdict → Option Verdict
settled (pos zero) place wide calls rest = rest
settled (pos (suc n)) place wide calls rest = Some (record { sign = Plus; by = Stage place; wide = wide; calls = calls })
settled (negsuc n) place wide calls rest = Some (record { sign = Minus; by = Stage place; wide = wide; calls = calls })

-- the blocks with these numbers, from this place of the list on, after this many wide operations and this many calls; no verdict where a block
-- has no value
abbrev pub along : List ℤ → List Code → List ℕ → ℕ → ℕ → ℕ → Option Verdict
along zs blocks [] place wide calls = Some (record { sign = Zero; by = Nothing; wide = wide; calls = calls })
along zs blocks (n ∷ ns) place wide calls =
    next (slice_get blocks n) (λ c. next (block_value zs c)
    (λ z. settled z place (wide + wide_in c.ops) (calls + 1) (along zs blocks ns (place + 1) (wide + wide_in c.ops) (calls + 1))))

-- the filter decides where what it leaves is above the error of the operation that pushed it
abbrev pub decides : Held → Option Verdict → Option Verdict
decides h rest = if nat_lt h.error (unsigned_abs h.number)
    then Some (record { sign = sign_of h.number; by = Filter; wide = 0; calls = 1 }) else rest

-- the verdict on a row with these values: the filter's, where there is one and it decides, else that of the blocks along the list
abbrev pub through : Option FilterCode → List ℤ → List Code → List ℕ → Option Verdict
through None zs blocks list = along zs blocks list 0 0 0
through (Some f) zs blocks list = next (filter_value zs f) (λ h. decides h (along zs blocks list 0 0 1))

-- the machine's verdict on a row: the list is that of the order of the row's indices
pub record IsVerdict (part : Part) (row : tree.Row) (v : Verdict) : Type 0 where
  pub places : List ℕ
  pub order : IsOrder row.index places
  pub list : List ℕ
  pub chosen : IsListOf part places list
  pub answered : through part.filter row.values part.blocks list ≡ Some v
