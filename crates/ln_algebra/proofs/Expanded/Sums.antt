use Rattle.std.proofs.Common.{◌≡◌, ℕ, zero, suc, refl, ◌∙◌, ap, arith, List, [], ◌∷◌, ◌++◌, map}
use Rattle.std.proofs.lemmas.Int.{ints}
use Rattle.std.proofs.Math.IntN.{ℤ, pos, ◌+ℤ◌, ◌*ℤ◌}
use Rattle.ln_algebra.proofs.Expanded.Ring.{mul_add}
use Rattle.ln_algebra.specs.Vector.{sum_over, parts, splits, each_way}

-- the sum over two lists
pub sum_over-append : {A : Type 0} (f : A → ℤ) (xs ys : List A) → sum_over f (xs ++ ys) ≡ sum_over f xs +ℤ sum_over f ys
sum_over-append f [] ys = omega (arith, ints)
sum_over-append f (x ∷ xs) ys = omega (arith, ints, sum_over-append f xs ys)

-- the sum over a list of images
pub sum_over-map : {A B : Type 0} (f : B → ℤ) (g : A → B) (xs : List A) → sum_over f (map g xs) ≡ sum_over (λ x. f (g x)) xs
sum_over-map f g [] = refl
sum_over-map f g (x ∷ xs) = ap (λ t. f (g x) +ℤ t) (sum_over-map f g xs)

-- sums of equal terms are equal
pub sum_over-same : {A : Type 0} (f g : A → ℤ) (xs : List A) → ((x : A) → f x ≡ g x) → sum_over f xs ≡ sum_over g xs
sum_over-same f g [] h = refl
sum_over-same f g (x ∷ xs) h = omega (arith, ints, h x, sum_over-same f g xs h)

-- a common factor moves out
pub sum_over-scale : {A : Type 0} (c : ℤ) (f : A → ℤ) (xs : List A) → sum_over (λ x. c *ℤ f x) xs ≡ c *ℤ sum_over f xs
sum_over-scale c f [] = omega (arith, ints)
sum_over-scale c f (x ∷ xs) = omega (arith, ints, sum_over-scale c f xs, mul_add c (f x) (sum_over f xs))

-- a sum of zeros is 0
pub sum_over-zero : {A : Type 0} (xs : List A) → sum_over (λ x. pos 0) xs ≡ pos 0
sum_over-zero [] = refl
sum_over-zero (x ∷ xs) = omega (arith, ints, sum_over-zero xs)

-- ---- the sum over the splits, variable by variable
-- the sum over the parts of n, by recursion
abbrev pub sum_parts : ℕ → (ℕ → ℕ → ℤ) → ℤ
sum_parts zero f = f 0 0
sum_parts (suc n) f = f 0 (suc n) +ℤ sum_parts n (λ i j. f (suc i) j)

-- the sum over the splits of a, by recursion
abbrev pub sum_splits : List ℕ → (List ℕ → List ℕ → ℤ) → ℤ
sum_splits [] f = f [] []
sum_splits (n ∷ a) f = sum_parts n (λ i j. sum_splits a (λ b c. f (i ∷ b) (j ∷ c)))

-- it is the sum over the list of parts
pub sum_parts_is : (n : ℕ) (f : ℕ → ℕ → ℤ) → sum_over (λ p. f p.0 p.1) (parts n) ≡ sum_parts n f
sum_parts_is zero f = omega (arith, ints)
sum_parts_is (suc n) f = ap (λ t. f 0 (suc n) +ℤ t) (sum_over-map (λ p. f p.0 p.1) (λ p. (suc p.0, p.1)) (parts n) ∙ sum_parts_is n (λ i j. f (suc i) j))

-- the sum over all ways is a sum of sums
sum_joined : (f : List ℕ → List ℕ → ℤ) (ps : List (ℕ × ℕ)) (rest : List (List ℕ × List ℕ))
    → sum_over (λ s. f s.0 s.1) (each_way ps rest) ≡ sum_over (λ p. sum_over (λ s. f (p.0 ∷ s.0) (p.1 ∷ s.1)) rest) ps
sum_joined f [] rest = refl
sum_joined f (p ∷ ps) rest =
    sum_over-append (λ s. f s.0 s.1) (map (λ s. (p.0 ∷ s.0, p.1 ∷ s.1)) rest) (each_way ps rest)
    ∙ ap (λ t. t +ℤ sum_over (λ s. f s.0 s.1) (each_way ps rest)) (sum_over-map (λ s. f s.0 s.1) (λ s. (p.0 ∷ s.0, p.1 ∷ s.1)) rest)
    ∙ ap (λ t. sum_over (λ s. f (p.0 ∷ s.0) (p.1 ∷ s.1)) rest +ℤ t) (sum_joined f ps rest)

-- it is the sum over the list of splits
pub sum_splits_is : (a : List ℕ) (f : List ℕ → List ℕ → ℤ) → sum_over (λ s. f s.0 s.1) (splits a) ≡ sum_splits a f
sum_splits_is [] f = omega (arith, ints)
sum_splits_is (n ∷ a) f =
    sum_joined f (parts n) (splits a)
    ∙ sum_over-same (λ p. sum_over (λ s. f (p.0 ∷ s.0) (p.1 ∷ s.1)) (splits a)) (λ p. sum_splits a (λ b c. f (p.0 ∷ b) (p.1 ∷ c))) (parts n)
    (λ p. sum_splits_is a (λ b c. f (p.0 ∷ b) (p.1 ∷ c)))
    ∙ sum_parts_is n (λ i j. sum_splits a (λ b c. f (i ∷ b) (j ∷ c)))
