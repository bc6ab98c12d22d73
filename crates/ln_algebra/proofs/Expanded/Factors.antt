-- The coefficients of a product of any number of factors.
use Rattle.std.proofs.Common.{◌≡◌, ℕ, zero, suc, refl, sym, ◌∙◌, ap, arith, List, [], ◌∷◌, map, length, Bool, true, false, ◌&&◌, if◌then◌else◌}
use Rattle.std.proofs.lemmas.Int.{ints}
use Rattle.std.proofs.lemmas.List.{length-map}
use Rattle.std.proofs.Math.IntN.{ℤ, pos, ◌+ℤ◌, ◌*ℤ◌}
use Rattle.ln_algebra.proofs.Expanded.Ring.{choose_times, mul_assoc, mul_comm}
use Rattle.ln_algebra.proofs.Expanded.Shift.{product_is}
use Rattle.ln_algebra.proofs.Expanded.Sums.{sum_over-scale, sum_parts, sum_splits}
use Rattle.ln_algebra.proofs.Deriving.Taylor.{sum_parts-add, sum_parts-same, sum_splits-add, sum_splits-same, sum_splits-scale, sum_splits-zero}
use Rattle.ln_algebra.proofs.Vectors.Ways.{sum_ways}
use Rattle.ln_algebra.specs.Coefficient.{Series, coefficient, constant, product, product_at}
use Rattle.ln_algebra.specs.Tree.{Mul, Tree, multiplied}
use Rattle.ln_algebra.specs.Vector.{is_zero, is_zero_number, sum_over, ways}

-- ---- sums over the ways to write a number or a vector as a sum of three
-- the two ways to sum over n as a sum of three
sum_parts-assoc : (n : ℕ) (f : ℕ → ℕ → ℕ → ℤ) → sum_parts n (λ i j. sum_parts i (λ u v. f u v j)) ≡ sum_parts n (λ u r. sum_parts r (λ v j. f u v j))
sum_parts-assoc zero f = refl
sum_parts-assoc (suc n) f =
    omega (
      arith,
      ints,
      sum_parts-add n (λ i j. f 0 (suc i) j) (λ i j. sum_parts i (λ u v. f (suc u) v j)),
      sum_parts-assoc n (λ u v j. f (suc u) v j),
    )

-- the two sums change places
pub sum_splits-parts : (a : List ℕ) (n : ℕ) (f : ℕ → ℕ → List ℕ → List ℕ → ℤ)
    → sum_splits a (λ b c. sum_parts n (λ i j. f i j b c)) ≡ sum_parts n (λ i j. sum_splits a (f i j))
sum_splits-parts a zero f = refl
sum_splits-parts a (suc n) f =
    sum_splits-add a (f 0 (suc n)) (λ b c. sum_parts n (λ i j. f (suc i) j b c))
    ∙ ap (λ z. sum_splits a (f 0 (suc n)) +ℤ z) (sum_splits-parts a n (λ i j. f (suc i) j))

-- the two ways to sum over a vector as a sum of three
sum_splits-assoc : (a : List ℕ) (f : List ℕ → List ℕ → List ℕ → ℤ)
    → sum_splits a (λ b c. sum_splits b (λ d e. f d e c)) ≡ sum_splits a (λ d r. sum_splits r (λ e c. f d e c))
sum_splits-assoc [] f = refl
sum_splits-assoc (n ∷ a) f =
    let left : ℕ → ℕ → ℕ → ℤ = λ u v j. sum_splits a (λ b c. sum_splits b (λ d e. f (u ∷ d) (v ∷ e) (j ∷ c))) in
    let right : ℕ → ℕ → ℕ → ℤ = λ u v j. sum_splits a (λ d r. sum_splits r (λ e c. f (u ∷ d) (v ∷ e) (j ∷ c))) in
    sum_parts-same n (λ i j. sum_splits a (λ b c. sum_parts i (λ u v. sum_splits b (λ d e. f (u ∷ d) (v ∷ e) (j ∷ c)))))
    (λ i j. sum_parts i (λ u v. left u v j))
    (λ i j. sum_splits-parts a i (λ u v b c. sum_splits b (λ d e. f (u ∷ d) (v ∷ e) (j ∷ c))))
    ∙ sum_parts-same n (λ i j. sum_parts i (λ u v. left u v j)) (λ i j. sum_parts i (λ u v. right u v j))
    (λ i j. sum_parts-same i (λ u v. left u v j) (λ u v. right u v j) (λ u v. sum_splits-assoc a (λ d e c. f (u ∷ d) (v ∷ e) (j ∷ c))))
    ∙ sum_parts-assoc n right
    ∙ sum_parts-same n (λ u r. sum_parts r (λ v j. right u v j))
    (λ u r. sum_splits a (λ d s. sum_parts r (λ v j. sum_splits s (λ e c. f (u ∷ d) (v ∷ e) (j ∷ c)))))
    (λ u r. sym (sum_splits-parts a r (λ v j d s. sum_splits s (λ e c. f (u ∷ d) (v ∷ e) (j ∷ c)))))

-- ---- the ring of series
-- the product of series is associative
pub product-assoc : (f g h : Series) (a : List ℕ) → product (product f g) h a ≡ product f (product g h) a
product-assoc f g h a =
    product_is (product f g) h a
    ∙ sum_splits-same a (λ b c. product f g b *ℤ h c) (λ b c. sum_splits b (λ d e. (f d *ℤ g e) *ℤ h c)) (λ b c. left b c)
    ∙ sum_splits-assoc a (λ d e c. (f d *ℤ g e) *ℤ h c)
    ∙ sum_splits-same a (λ d r. sum_splits r (λ e c. (f d *ℤ g e) *ℤ h c)) (λ d r. f d *ℤ product g h r) (λ d r. right d r)
    ∙ sym (product_is f (product g h) a) where
      left : (b c : List ℕ) → product f g b *ℤ h c ≡ sum_splits b (λ d e. (f d *ℤ g e) *ℤ h c)
      left b c =
          ap (λ z. z *ℤ h c) (product_is f g b)
          ∙ mul_comm (sum_splits b (λ d e. f d *ℤ g e)) (h c)
          ∙ sym (sum_splits-scale b (h c) (λ d e. f d *ℤ g e))
          ∙ sum_splits-same b (λ d e. h c *ℤ (f d *ℤ g e)) (λ d e. (f d *ℤ g e) *ℤ h c) (λ d e. mul_comm (h c) (f d *ℤ g e))

      right : (d r : List ℕ) → sum_splits r (λ e c. (f d *ℤ g e) *ℤ h c) ≡ f d *ℤ product g h r
      right d r =
          sum_splits-same r (λ e c. (f d *ℤ g e) *ℤ h c) (λ e c. f d *ℤ (g e *ℤ h c)) (λ e c. mul_assoc (f d) (g e) (h c))
          ∙ sum_splits-scale r (f d) (λ e c. g e *ℤ h c)
          ∙ ap (λ z. f d *ℤ z) (sym (product_is g h r))

-- a sum of which only the last part counts
sum_parts-last : (n : ℕ) (g : ℕ → ℤ) → sum_parts n (λ i j. if is_zero_number j then g i else pos 0) ≡ g n
sum_parts-last zero g = refl
sum_parts-last (suc n) g = omega (arith, ints, sum_parts-last n (λ i. g (suc i)))

-- the same over vectors
sum_splits-last : (a : List ℕ) (g : List ℕ → ℤ) → sum_splits a (λ b c. if is_zero c then g b else pos 0) ≡ g a
sum_splits-last [] g = refl
sum_splits-last (n ∷ a) g =
    sum_parts-same n (λ i j. sum_splits a (λ b c. if is_zero_number j && is_zero c then g (i ∷ b) else pos 0))
    (λ i j. if is_zero_number j then g (i ∷ a) else pos 0) (λ i j. by_case i (is_zero_number j) (sum_splits-last a (λ b. g (i ∷ b))))
    ∙ sum_parts-last n (λ i. g (i ∷ a)) where
      by_case : (i : ℕ) (z : Bool) → sum_splits a (λ b c. if is_zero c then g (i ∷ b) else pos 0) ≡ g (i ∷ a)
          → sum_splits a (λ b c. if z && is_zero c then g (i ∷ b) else pos 0) ≡ if z then g (i ∷ a) else pos 0
      by_case i true ih = ih
      by_case i false ih = sum_splits-zero a

-- the number 1 is its unit
pub product-one : (f : Series) (a : List ℕ) → product f (constant (pos 1)) a ≡ f a
product-one f a =
    product_is f (constant (pos 1)) a
    ∙ sum_splits-same a (λ b c. f b *ℤ constant (pos 1) c) (λ b c. if is_zero c then f b else pos 0) (λ b c. choose_times (f b) (is_zero c))
    ∙ sum_splits-last a f

-- ---- any number of factors
-- the product of a list of series, grouped to the right
abbrev product_of : List Series → Series
product_of [] = constant (pos 1)
product_of (f ∷ fs) = product f (product_of fs)

-- the product of a list of series is the sum over all ways
product_of-ways : (fs : List Series) (a : List ℕ) → product_of fs a ≡ sum_over (product_at fs) (ways (length fs) a)
product_of-ways [] a = by_case (is_zero a) where
  by_case : (z : Bool) → (if z then pos 1 else pos 0) ≡ sum_over (product_at []) (if z then ([] ∷ []) else [])
  by_case true = refl
  by_case false = refl
product_of-ways (f ∷ fs) a =
    product_is f (product_of fs) a
    ∙ sum_splits-same a (λ b r. f b *ℤ product_of fs r) (λ b r. sum_over (λ bs. f b *ℤ product_at fs bs) (ways (length fs) r))
    (λ b r. ap (λ z. f b *ℤ z) (product_of-ways fs r) ∙ sym (sum_over-scale (f b) (product_at fs) (ways (length fs) r)))
    ∙ sym (sum_ways (product_at (f ∷ fs)) (length fs) a)

-- the product of trees, grouped to the left, has the coefficients of the product of series
multiplied-product_of : (p : ℕ → Bool) (x : ℕ → ℤ) (e : Tree) (es : List Tree) (a : List ℕ)
    → coefficient p x (multiplied e es) a ≡ product_of (map (coefficient p x) (e ∷ es)) a
multiplied-product_of p x e [] a = sym (product-one (coefficient p x e) a)
multiplied-product_of p x e (f ∷ fs) a =
    multiplied-product_of p x (Mul e f) fs a
    ∙ product-assoc (coefficient p x e) (coefficient p x f) (product_of (map (coefficient p x) fs)) a

-- the coefficient of a product of factors is the sum over all ways
pub factors-ways : (p : ℕ → Bool) (x : ℕ → ℤ) (e : Tree) (es : List Tree) (a : List ℕ)
    → coefficient p x (multiplied e es) a ≡ sum_over (product_at (map (coefficient p x) (e ∷ es))) (ways (length (e ∷ es)) a)
factors-ways p x e es a =
    multiplied-product_of p x e es a
    ∙ product_of-ways (map (coefficient p x) (e ∷ es)) a
    ∙ ap (λ k. sum_over (product_at (map (coefficient p x) (e ∷ es))) (ways k a)) (length-map (e ∷ es) (coefficient p x))
