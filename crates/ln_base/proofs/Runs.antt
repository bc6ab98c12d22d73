-- How far bytes of a class run.
use Rattle.std.proofs.Common.{◌≡◌, ℕ, zero, suc, ◌<◌, ◌≤◌, Bool, true, false, cond, List, [], ◌∷◌, length, take, refl, arith}
use Rattle.ln_base.specs.Words.{every}
use Rattle.ln_base.specs.Runs.{run_len}

-- by cases of the first byte: each byte of the run passes
every_front_by : (p : ℕ → Bool) (b : ℕ) (bs : List ℕ) (v : Bool) → p b ≡ v → every p (take (run_len p bs) bs) ≡ true
    → every p (take (cond v (suc (run_len p bs)) 0) (b ∷ bs)) ≡ true
every_front_by p b bs true e h = rw e h
every_front_by p b bs false e h = refl

-- each byte of the run passes
pub every_front : (p : ℕ → Bool) (bs : List ℕ) → every p (take (run_len p bs) bs) ≡ true
every_front p [] = refl
every_front p (b ∷ bs) = every_front_by p b bs (p b) refl (every_front p bs)

-- by cases of the first byte: of more bytes than the run has, one doesn't pass
every_more_by : (p : ℕ → Bool) (b : ℕ) (bs : List ℕ) (m : ℕ) (v : Bool) → p b ≡ v → cond v (suc (run_len p bs)) 0 < suc m
    → (run_len p bs < m → every p (take m bs) ≡ false) → every p (b ∷ take m bs) ≡ false
every_more_by p b bs m true e l h = rw e (h (omega arith))
every_more_by p b bs m false e l h = rw e refl

-- of more bytes than the run has, one doesn't pass
pub every_more : (p : ℕ → Bool) (bs : List ℕ) (m : ℕ) → run_len p bs < m → m ≤ length bs → every p (take m bs) ≡ false
every_more p [] m l w = absurd (omega arith)
every_more p (b ∷ bs) zero l w = absurd (omega arith)
every_more p (b ∷ bs) (suc m) l w = every_more_by p b bs m (p b) refl l (λ q. every_more p bs m q (omega arith))

-- by cases of the first byte: a run is within its bytes
run_within_by : (p : ℕ → Bool) (b : ℕ) (bs : List ℕ) (v : Bool) → run_len p bs ≤ length bs → cond v (suc (run_len p bs)) 0 ≤ length (b ∷ bs)
run_within_by p b bs true h = omega arith
run_within_by p b bs false h = omega arith

-- a run is within its bytes
pub run_within : (p : ℕ → Bool) (bs : List ℕ) → run_len p bs ≤ length bs
run_within p [] = omega arith
run_within p (b ∷ bs) = run_within_by p b bs (p b) (run_within p bs)
