-- Proves what a write did by how many bytes it took.
use Rattle.std.proofs.Common.{◌≡◌, ℕ, ◌≤◌, List, [], ◌∷◌, length, take, Option, arith}
use Rattle.std.specs.Prelude.{Result, Ok, Err, MatchResult}
use Rattle.std.specs.Io.{WritesAtMost}
use Rattle.std.specs.Io.KnownBytes.{Appends, Keeps, WriteAppends}
use Rattle.std.proofs.KnownBytes.{Appends-kept, Appends-nil}
use Rattle.ln_base.specs.declared.outside.Failed.{Failed}

kept_none : (a b : Option (List ℕ)) (bytes : List ℕ) → Keeps a b → Appends a b (take 0 bytes)
kept_none a b [] k = Appends-kept a a b [] (Appends-nil a) k
kept_none a b (x ∷ bytes) k = Appends-kept a a b [] (Appends-nil a) k

-- what was taken is what was written, none where the write failed
pub taken_written : (a b : Option (List ℕ)) (bytes : List ℕ) (r : Result ℕ Failed) (n : ℕ) → WriteAppends a b r bytes
    → MatchResult r (λ m. n ≡ m) (λ _. n ≡ 0) → Appends a b (take n bytes)
taken_written a b bytes (Ok m) n w e = rw e w
taken_written a b bytes (Err x) n w e = rw e (kept_none a b bytes w)

-- no more was taken than there was
pub taken_within : (bytes : List ℕ) (r : Result ℕ Failed) (n : ℕ) → WritesAtMost r bytes → MatchResult r (λ m. n ≡ m) (λ _. n ≡ 0)
    → n ≤ length bytes
taken_within bytes (Ok m) n w e = omega (arith, e, w)
taken_within bytes (Err x) n w e = omega (arith, e)
