-- Facts on the memory.
use Rattle.std.proofs.Common.{◌≡◌, ◌≢◌, ℕ, ℤ, ◌≤◌, ◌<◌, List, ◌∷◌, length, refl, zero, suc, ap, arith, pos}
use Rattle.std.proofs.Common.{get_or-set_same, get_or-set_other}
use Rattle.std.specs.Prelude.{slice_set}
use Rattle.ln_code.specs.Memory.{seen}

-- a write above the top isn't seen
pub seen-above : (xs : List ℤ) (k n : ℕ) (z : ℤ) → n ≤ k → seen (slice_set xs k z) n ≡ seen xs n
seen-above xs k zero z h = refl
seen-above xs k (suc n) z h =
    let ne : n ≢ k = omega arith in
    let ih : seen (slice_set xs k z) n ≡ seen xs n = seen-above xs k n z (omega arith) in
    rw (get_or-set_other xs k n z (pos 0) ne, ih) refl

-- after a write at the top, the number that was written is seen first, and then what was seen before
pub seen_push : (xs : List ℤ) (n : ℕ) (z : ℤ) → n < length xs → seen (slice_set xs n z) (suc n) ≡ z ∷ seen xs n
seen_push xs n z h = rw (get_or-set_same xs n z (pos 0) h, seen-above xs n n z (omega arith)) refl

-- below the top n there are n numbers
pub seen-length : (xs : List ℤ) (n : ℕ) → length (seen xs n) ≡ n
seen-length xs zero = refl
seen-length xs (suc n) = ap suc (seen-length xs n)
