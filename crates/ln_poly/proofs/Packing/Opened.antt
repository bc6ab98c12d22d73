-- The exponents of a number are those that it was made of.
use Rattle.std.proofs.Common.{◌≡◌, ◌⊎◌, inl, inr, ℕ, ◌+◌, ◌<◌, ◌≤◌, zero, suc, List, [], ◌∷◌, length, get_or, refl, sym, ◌∙◌, ap, arith}
use Rattle.std.proofs.lemmas.Bool.{cases_lt}
use Rattle.ln_tree.specs.Exps.{IsRising, exponent}
use Rattle.ln_tree.proofs.Powers.{vector-get}
use Rattle.ln_poly.specs.Packed.{AreFields, AreSmall, number, opened, pairs_from, taken}
use Rattle.ln_poly.proofs.Packing.Numbers.{number-taken, values_from}
use Rattle.ln_poly.proofs.Sorting.Merging.{above-none}
use Rattle.ln_poly.proofs.TermLists.Vectors.{pairs-above, pairs-all-above, pairs-vector}

-- ---- exponents as a list
values-length : (v n : ℕ) (m : ℕ → ℕ) → length (values_from v n m) ≡ n
values-length v zero m = refl
values-length v (suc n) m = ap suc (values-length (suc v) n m)

values-get : (v n u : ℕ) (m : ℕ → ℕ) → u < n → get_or (values_from v n m) u 0 ≡ m (v + u)
values-get v zero u m h = absurd (omega arith)
values-get v (suc n) zero m h = ap m (omega arith)
values-get v (suc n) (suc u) m h = values-get (suc v) n u m (omega arith) ∙ ap m (omega arith)

values-small : (v n : ℕ) (m : ℕ → ℕ) → ((u : ℕ) → m u < 128) → AreSmall (values_from v n m)
values-small v zero m h = tt
values-small v (suc n) m h = (h v, values-small (suc v) n m h)

-- ---- and as pairs
pairs-exponent : (ms : List ℕ) (v : ℕ) → v < length ms → exponent v (pairs_from 0 ms) ≡ get_or ms v 0
pairs-exponent ms v h = sym (vector-get (length ms) v (pairs_from 0 ms) h) ∙ ap (λ z. get_or z v 0) (pairs-vector 0 ms)

-- pairs of small exponents rise
pub small-rising : (v : ℕ) (ms : List ℕ) → AreSmall ms → IsRising (pairs_from v ms)
small-rising v [] h = tt
small-rising v (zero ∷ ms) h = small-rising (suc v) ms h.1
small-rising v (suc k ∷ ms) h = (omega arith, h.0, pairs-all-above v (suc v) ms (omega arith), small-rising (suc v) ms h.1)

-- the exponents of the number of m are m
pub opened-exponent : (top : ℕ → ℕ) (left : ℕ) (ws : List ℕ) (m : ℕ → ℕ) → AreFields top left 0 ws → ((u : ℕ) → m u ≤ top u)
    → ((u : ℕ) → length ws ≤ u → m u ≡ 0) → (v : ℕ) → exponent v (opened ws (number ws 0 m)) ≡ m v
opened-exponent top left ws m f h none v = rw list (by_case (cases_lt v (length ws))) where
  list : taken ws (number ws 0 m) ≡ values_from 0 (length ws) m
  list = number-taken top left 0 ws m f h

  long : length (values_from 0 (length ws) m) ≡ length ws
  long = values-length 0 (length ws) m

  by_case : (v < length ws) ⊎ (length ws ≤ v) → exponent v (pairs_from 0 (values_from 0 (length ws) m)) ≡ m v
  by_case (inl l) = pairs-exponent (values_from 0 (length ws) m) v (omega (arith, l, long)) ∙ values-get 0 (length ws) v m l ∙ ap m (omega arith)
  by_case (inr g) =
      above-none (length ws) v (pairs_from 0 (values_from 0 (length ws) m)) (pairs-above 0 (length ws) (values_from 0 (length ws) m) (omega (arith, long))) g
      ∙ sym (none v g)

-- they are small where those of m are
pub taken-small : (top : ℕ → ℕ) (left : ℕ) (ws : List ℕ) (m : ℕ → ℕ) → AreFields top left 0 ws → ((u : ℕ) → m u ≤ top u) → ((u : ℕ) → m u < 128)
    → AreSmall (taken ws (number ws 0 m))
taken-small top left ws m f h s = let list : taken ws (number ws 0 m) ≡ values_from 0 (length ws) m = number-taken top left 0 ws m f h in
    rw list (values-small 0 (length ws) m s)
