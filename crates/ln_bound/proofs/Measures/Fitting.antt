-- Lists without a node past the limit, and powers within it.
use Rattle.std.proofs.Common.{◌≡◌, inl, inr, ℕ, ◌*◌, ◌^◌, ◌≤◌, ◌<◌, List, [], ◌∷◌, ◌++◌, zero, suc, ap, arith}
use Rattle.std.proofs.lemmas.Bool.{cases_lt}
use Rattle.std.proofs.Math.Nat.{pow-suc, pow-zero, pow-le-pow_right}
use Rattle.ln_base.specs.declared.span.Span.{Span}
use Rattle.ln_bound.specs.Light.{most, AreLight}

-- where no weight is too large in two lists of nodes, one after the other, none is in either
pub light_parts : (xs ys : List (Span × ℕ)) → AreLight (xs ++ ys) → AreLight xs × AreLight ys
light_parts [] ys h = (tt, h)
light_parts (x ∷ xs) ys h = let r = light_parts xs ys h.1 in ((h.0, r.0), r.1)

-- a lower power is at most the largest of 1 and the power
pub lower : (b k n : ℕ) → k ≤ n → b ^ n ≤ most → b ^ k ≤ most
lower zero zero n h l = rw pow-zero (omega arith)
lower zero (suc k) n h l = rw pow-suc (omega arith)
lower (suc b) k n h l = let m = pow-le-pow_right {n = suc b} (omega arith) {i = k} {j = n} h in omega (arith, l, m)

-- a power is too large where a lower one is
pub heavier : (b k n p : ℕ) → k < n → p ≡ b ^ k → most < p * b → most < b ^ n
heavier b k n p h e l = elim (cases_lt most (b ^ n)) [
  | inl m ↦ m
  | inr m ↦ absurd (let f = lower b (suc k) n (omega arith) m in
      let g : b ^ suc k ≡ b ^ k * b = pow-suc b k in let t : p * b ≡ b ^ k * b = ap (λ z. z * b) e in omega (arith, l, f, g, t))
]
