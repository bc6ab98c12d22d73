-- A file has few records: each takes a byte, but for the last.
use Rattle.std.specs.Prelude.{if◌then◌else◌}
use Rattle.std.proofs.Common.{◌≡◌, ◌≤◌, ◌<◌, ℕ, zero, suc, ◌+◌, Bool, true, false, List, [], ◌∷◌, length, ap, arith, Option, Some, None}
use Rattle.csv.specs.Machine.{Read, next_record}
use Rattle.csv.specs.Reading.{default_config, is_bom, records_from, records_next, strip_bom}
use Rattle.csv.specs.declared.parser.State.{State}
use Rattle.csv.specs.declared.parser.State.TheVariants as st
use Rattle.ln_base.specs.Limits.{most_file}
use Rattle.ln_rows.specs.Left.{Records, records_in}

few_next : (n : ℕ) (o : Option Read) → ((t : State) (ys : List ℕ) → length (records_from default_config n t ys) ≤ n)
    → length (records_next (records_from default_config n) o) ≤ suc n
few_next n None h = omega arith
few_next n (Some p) h = omega (arith, h p.1 p.2)

few_from : (n : ℕ) (s : State) (xs : List ℕ) → length (records_from default_config n s xs) ≤ n
unfolding records_from
few_from zero s xs = omega arith
few_from (suc n) s xs = few_next n (next_record default_config s [] [] xs) (λ t ys. few_from n t ys)

strip_less : (xs : List ℕ) → length (strip_bom xs) ≤ length xs
unfolding strip_bom
strip_less [] = omega arith
strip_less (a ∷ []) = omega arith
strip_less (a ∷ b ∷ []) = omega arith
strip_less (a ∷ b ∷ c ∷ rest) = by_mark (is_bom a b c)
  where
    by_mark : (m : Bool) → length (if m then rest else a ∷ b ∷ c ∷ rest) ≤ length (a ∷ b ∷ c ∷ rest)
    by_mark true = omega arith
    by_mark false = omega arith

-- at most one more than there are bytes
pub few_records : (bytes : List ℕ) → length (records_in bytes) ≤ length bytes + 1
few_records bytes = omega (arith, few_from (length (strip_bom bytes) + 1) st.StartRecord (strip_bom bytes), strip_less bytes)

-- within the limit of a file
pub few_in : (bytes : List ℕ) (records : Records) → records ≡ records_in bytes → length bytes ≤ most_file → length records < 4294967296
few_in bytes records e h = omega (arith, ap length e, few_records bytes, h)
