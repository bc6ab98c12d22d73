-- How deep the stacks of blocks are.
use Rattle.std.proofs.Common.{◌≡◌, ℕ, ◌+◌, ◌≤◌, ◌<◌, List, [], ◌∷◌, ◌++◌, length, take, zero, suc, arith, get_or, max}
use Rattle.std.specs.Prelude.{All}
use Rattle.std.proofs.lemmas.List.{take_more}
use Rattle.ln_code.specs.Part.{Code}

-- one block more
pub deeper : (blocks : List Code) (i : ℕ) (b : Code) (m n : ℕ) → i < length blocks → b ≡ get_or blocks i b → n ≡ max b.depth m
    → All (λ (c : Code). c.depth ≤ m) (take i blocks) → All (λ (c : Code). c.depth ≤ n) (take (i + 1) blocks)
deeper blocks i b m n h e q a =
    let t : take (i + 1) blocks ≡ take i blocks ++ (b ∷ []) = rw e (take_more blocks i b h) in
    rw t (grown (take i blocks) a)
  where
    grown : (xs : List Code) → All (λ (c : Code). c.depth ≤ m) xs → All (λ (c : Code). c.depth ≤ n) (xs ++ (b ∷ []))
    grown [] p zero d r = omega (arith, q)
    grown [] p (suc k) d r = absurd (omega arith)
    grown (x ∷ xs) p zero d r = let s : x.depth ≤ m = p zero d (omega arith) in omega (arith, s, q)
    grown (x ∷ xs) p (suc k) d r = grown xs (λ j c l. p (suc j) c (omega arith)) k d (omega arith)
