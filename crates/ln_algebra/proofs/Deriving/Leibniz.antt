-- The product rule of scaled derivatives, coefficient by coefficient.
use Rattle.std.proofs.Common.{◌≡◌, ℕ, ◌+◌, ◌*◌, ◌<◌, zero, suc, refl, sym, ◌∙◌, ap, arith, List, [], ◌∷◌, length, Bool, true, false, leb, ◌⊎◌, inl, inr}
use Rattle.std.proofs.lemmas.Bool.{and_cases, and_left, and_right}
use Rattle.std.proofs.lemmas.Bool.Decides.{nat_tests}
use Rattle.std.proofs.lemmas.Int.{ints}
use Rattle.std.proofs.Math.IntN.{ℤ, pos, ◌+ℤ◌, ◌*ℤ◌}
use Rattle.ln_algebra.proofs.Vectors.Covering.{factor_at-derived}
use Rattle.ln_algebra.proofs.Expanded.Degree.{sum_parts-on, sum_splits-on}
use Rattle.ln_algebra.proofs.Deriving.Derived.{binomial-above, tau-covered, tau-uncovered}
use Rattle.ln_algebra.proofs.Expanded.Expansion.{length-plus, tau, tau_plus}
use Rattle.ln_algebra.proofs.Expanded.Factors.{sum_splits-parts}
use Rattle.ln_algebra.proofs.Expanded.Normal.{everywhere, within_all}
use Rattle.ln_algebra.proofs.Expanded.Ring.{four, mul_comm, mul_one}
use Rattle.ln_algebra.proofs.Expanded.Shift.{product_is, sum_splits-within}
use Rattle.ln_algebra.proofs.Expanded.Sums.{sum_parts, sum_splits, sum_splits_is}
use Rattle.ln_algebra.proofs.Deriving.Taylor.{sum_parts-same, sum_parts-zero, sum_splits-same, sum_splits-scale, sum_splits-zero}
use Rattle.ln_algebra.specs.Coefficient.{product}
use Rattle.ln_algebra.specs.Terms.{IsProductOf, Over, Term, binomial, binomials, derived, factor_at, monomial, power_of}
use Rattle.ln_algebra.specs.Vector.{IsSplit, covers, minus, plus, splits, sum_over}

-- ---- sums whose terms are 0 below some part
-- of all parts of c only the first has a second number of c
sum_parts-first : (c : ℕ) (f : ℕ → ℕ → ℤ) → ((u v : ℕ) → v < c → f u v ≡ pos 0) → sum_parts c f ≡ f 0 c
sum_parts-first zero f h = refl
sum_parts-first (suc c) f h =
    let z : sum_parts c (λ i j. f (suc i) j) ≡ pos 0 =
    sum_parts-on c (λ i j. f (suc i) j) (λ i j. pos 0) (λ i j e. h (suc i) j (omega arith)) ∙ sum_parts-zero c in
    omega (arith, ints, z)

-- where the first number is at least b
sum_parts-left : (n b : ℕ) (f : ℕ → ℕ → ℤ) → ((u v : ℕ) → u < b → f u v ≡ pos 0) → sum_parts (n + b) f ≡ sum_parts n (λ i j. f (i + b) j)
sum_parts-left n zero f h =
    let e : n + 0 ≡ n = omega arith in
    ap (λ k. sum_parts k f) e ∙ sum_parts-same n f (λ i j. f (i + 0) j) (λ i j. ap (λ k. f k j) (let z : i ≡ i + 0 = omega arith in z))
sum_parts-left n (suc b) f h =
    let e : n + suc b ≡ suc (n + b) = omega arith in
    let z : f 0 (suc (n + b)) ≡ pos 0 = h 0 (suc (n + b)) (omega arith) in
    let ih : sum_parts (n + b) (λ i j. f (suc i) j) ≡ sum_parts n (λ i j. f (suc (i + b)) j) =
    sum_parts-left n b (λ i j. f (suc i) j) (λ u v l. h (suc u) v (omega arith)) in
    let y : sum_parts n (λ i j. f (suc (i + b)) j) ≡ sum_parts n (λ i j. f (i + suc b) j) =
    sum_parts-same n (λ i j. f (suc (i + b)) j) (λ i j. f (i + suc b) j) (λ i j. ap (λ k. f k j) (let x : suc (i + b) ≡ i + suc b = omega arith in x)) in
    ap (λ k. sum_parts k f) e
    ∙ (let w : f 0 (suc (n + b)) +ℤ sum_parts (n + b) (λ i j. f (suc i) j) ≡ sum_parts n (λ i j. f (i + suc b) j) = omega (arith, ints, z, ih, y) in w)

-- where the second number is at least c
sum_parts-right : (n c : ℕ) (f : ℕ → ℕ → ℤ) → ((u v : ℕ) → v < c → f u v ≡ pos 0) → sum_parts (n + c) f ≡ sum_parts n (λ i j. f i (j + c))
sum_parts-right zero c f h =
    let e : 0 + c ≡ c = omega arith in
    ap (λ k. sum_parts k f) e ∙ sum_parts-first c f h ∙ ap (f 0) (sym e)
sum_parts-right (suc n) c f h =
    let e : suc n + c ≡ suc (n + c) = omega arith in
    ap (λ k. sum_parts k f) e
    ∙ ap (λ z. z +ℤ sum_parts (n + c) (λ i j. f (suc i) j)) (ap (f 0) (sym e))
    ∙ ap (λ z. f 0 (suc n + c) +ℤ z) (sum_parts-right n c (λ i j. f (suc i) j) (λ u v l. h (suc u) v l))

-- where both are
sum_parts-both : (n b c : ℕ) (f : ℕ → ℕ → ℤ) → ((u v : ℕ) → u < b → f u v ≡ pos 0) → ((u v : ℕ) → v < c → f u v ≡ pos 0)
    → sum_parts (n + (b + c)) f ≡ sum_parts n (λ i j. f (i + b) (j + c))
sum_parts-both n b c f h k =
    let e : n + (b + c) ≡ (n + c) + b = omega arith in
    ap (λ z. sum_parts z f) e ∙ sum_parts-left (n + c) b f h ∙ sum_parts-right n c (λ i j. f (i + b) j) (λ u v l. k (u + b) v l)

-- f is 0 at vectors of m's length of which the first doesn't cover b, or the second doesn't cover c
record NoneBelow (m b c : List ℕ) (f : List ℕ → List ℕ → ℤ) : Type 0 where
  left : (u v : List ℕ) → length u ≡ length m → length v ≡ length m → covers u b ≡ false → f u v ≡ pos 0
  right : (u v : List ℕ) → length u ≡ length m → length v ≡ length m → covers v c ≡ false → f u v ≡ pos 0

-- the sum of three vectors is as long as each
length-whole : (m b c : List ℕ) → length b ≡ length m → length c ≡ length m → length (plus m (plus b c)) ≡ length m
length-whole m b c e d =
    let l : length (plus b c) ≡ length m = length-plus b c (e ∙ sym d) ∙ d in
    length-plus m (plus b c) (sym l) ∙ l

-- the same over vectors, where the first covers b and the second covers c
sum_splits-both : (m b c : List ℕ) (f : List ℕ → List ℕ → ℤ) → length b ≡ length m → length c ≡ length m → NoneBelow m b c f
    → sum_splits (plus m (plus b c)) f ≡ sum_splits m (λ i j. f (plus i b) (plus j c))
sum_splits-both [] [] [] f e d h = refl
sum_splits-both [] (p ∷ b) c f e d h = absurd (omega arith)
sum_splits-both [] [] (q ∷ c) f e d h = absurd (omega arith)
sum_splits-both (n ∷ m) [] c f e d h = absurd (omega arith)
sum_splits-both (n ∷ m) (p ∷ b) [] f e d h = absurd (omega arith)
sum_splits-both (n ∷ m) (p ∷ b) (q ∷ c) f e d h =
    let whole : List ℕ = plus m (plus b c) in
    let size : length whole ≡ length m = length-whole m b c (omega arith) (omega arith) in
    sum_parts-both n p q (λ i j. sum_splits whole (λ u v. f (i ∷ u) (j ∷ v)))
    (λ i j l. sum_splits-within whole (λ u v. f (i ∷ u) (j ∷ v)) (λ u v. pos 0) (λ u v x y. h.left (i ∷ u) (j ∷ v) (ap suc (x ∙ size))
    (ap suc (y ∙ size)) (and_left (leb p i) (covers u b) (grind (arith, nat_tests)))) ∙ sum_splits-zero whole)
    (λ i j l. sum_splits-within whole (λ u v. f (i ∷ u) (j ∷ v)) (λ u v. pos 0) (λ u v x y. h.right (i ∷ u) (j ∷ v) (ap suc (x ∙ size))
    (ap suc (y ∙ size)) (and_left (leb q j) (covers v c) (grind (arith, nat_tests)))) ∙ sum_splits-zero whole)
    ∙ sum_parts-same n (λ i j. sum_splits whole (λ u v. f ((i + p) ∷ u) ((j + q) ∷ v)))
    (λ i j. sum_splits m (λ u v. f ((i + p) ∷ plus u b) ((j + q) ∷ plus v c)))
    (λ i j. sum_splits-both m b c (λ u v. f ((i + p) ∷ u) ((j + q) ∷ v)) (omega arith) (omega arith) (record {
      left = λ u v x y z. h.left ((i + p) ∷ u) ((j + q) ∷ v) (ap suc x) (ap suc y) (and_right (leb p (i + p)) (covers u b) z);
      right = λ u v x y z. h.right ((i + p) ∷ u) ((j + q) ∷ v) (ap suc x) (ap suc y) (and_right (leb q (j + q)) (covers v c) z);
    }))

-- two sums over splits change places
sum_splits-swap : (a b : List ℕ) (f : List ℕ → List ℕ → List ℕ → List ℕ → ℤ)
    → sum_splits a (λ u v. sum_splits b (λ p q. f u v p q)) ≡ sum_splits b (λ p q. sum_splits a (λ u v. f u v p q))
sum_splits-swap [] b f = refl
sum_splits-swap (n ∷ a) b f =
    sum_parts-same n (λ i j. sum_splits a (λ u v. sum_splits b (λ p q. f (i ∷ u) (j ∷ v) p q)))
    (λ i j. sum_splits b (λ p q. sum_splits a (λ u v. f (i ∷ u) (j ∷ v) p q))) (λ i j. sum_splits-swap a b (λ u v. f (i ∷ u) (j ∷ v)))
    ∙ sym (sum_splits-parts b n (λ i j p q. sum_splits a (λ u v. f (i ∷ u) (j ∷ v) p q)))

-- ---- Vandermonde's identity over all variables
abbrev ones : ℕ → ℤ
ones v = pos 1

-- each power of 1 is 1
power-one : (n : ℕ) → power_of (pos 1) n ≡ pos 1
power-one zero = refl
power-one (suc n) = ap (λ z. pos 1 *ℤ z) (power-one n)

-- and so each monomial
monomial-ones : (m : List ℕ) → monomial ones m ≡ pos 1
monomial-ones [] = refl
monomial-ones (n ∷ m) = ap (λ z. z *ℤ monomial ones m) (power-one n) ∙ ap (λ z. pos 1 *ℤ z) (monomial-ones m)

-- there is no way to choose more than all in any variable
binomials-uncovered : (m a : List ℕ) → length m ≡ length a → covers m a ≡ false → binomials m a ≡ 0
binomials-uncovered [] [] e c = cc
binomials-uncovered [] (k ∷ a) e c = absurd (omega arith)
binomials-uncovered (n ∷ m) [] e c = absurd (omega arith)
binomials-uncovered (n ∷ m) (k ∷ a) e c = by_case (and_cases (leb k n) (covers m a) c) (λ z. binomials-uncovered m a (omega arith) z) where
  by_case : (leb k n ≡ false) ⊎ (covers m a ≡ false) → (covers m a ≡ false → binomials m a ≡ 0) → binomial n k * binomials m a ≡ 0
  by_case (inl l) ih =
      let z : binomial n k ≡ 0 = binomial-above n k (grind (arith, nat_tests)) in
      ap (λ y. y * binomials m a) z ∙ (let w : 0 * binomials m a ≡ 0 = omega arith in w)
  by_case (inr r) ih = ap (λ y. binomial n k * y) (ih r) ∙ (let w : binomial n k * 0 ≡ 0 = omega arith in w)

-- at x = 1 the coefficients of a monomial are the binomials
tau-ones : (m a : List ℕ) → length m ≡ length a → (b : Bool) → covers m a ≡ b → tau everywhere ones m a ≡ pos (binomials m a)
tau-ones m a e true c = tau-covered everywhere ones m a e (within_all a) c ∙ ap (λ z. pos (binomials m a) *ℤ z) (monomial-ones (minus m a))
    ∙ mul_one (pos (binomials m a))
tau-ones m a e false c = tau-uncovered everywhere ones m a e (within_all a) c ∙ ap pos (sym (binomials-uncovered m a e c))

-- Vandermonde's identity
binomials-plus : (u v a : List ℕ) → length u ≡ length a → length v ≡ length a
    → pos (binomials (plus u v) a) ≡ sum_splits a (λ b c. pos (binomials u b) *ℤ pos (binomials v c))
binomials-plus u v a e f =
    sym (tau-ones (plus u v) a (length-plus u v (e ∙ sym f) ∙ f) (covers (plus u v) a) refl)
    ∙ tau_plus everywhere ones u v a e f
    ∙ sum_splits-within a (λ b c. tau everywhere ones u b *ℤ tau everywhere ones v c) (λ b c. pos (binomials u b) *ℤ pos (binomials v c))
    (λ b c i j. ap (λ z. z *ℤ tau everywhere ones v c) (tau-ones u b (e ∙ sym i) (covers u b) refl)
    ∙ ap (λ z. pos (binomials u b) *ℤ z) (tau-ones v c (f ∙ sym j) (covers v c) refl))

-- ---- the product rule
-- a series times the binomials is 0 where the vector isn't covered
weighed-zero : (x : ℤ) (u b : List ℕ) → length u ≡ length b → covers u b ≡ false → x *ℤ pos (binomials u b) ≡ pos 0
weighed-zero x u b e c = ap (λ z. x *ℤ pos z) (binomials-uncovered u b e c) ∙ (let z : x *ℤ pos 0 ≡ pos 0 = omega (arith, ints) in z)

module _ (f g : List Term) where
  -- the coefficient of f at u, times the binomials of u and b
  abbrev left_part : List ℕ → List ℕ → ℤ
  left_part u b = factor_at f u *ℤ pos (binomials u b)

  -- and the same of g
  abbrev right_part : List ℕ → List ℕ → ℤ
  right_part v c = factor_at g v *ℤ pos (binomials v c)

  -- their product is 0 where one isn't covered
  parts_below : (m b c : List ℕ) → length b ≡ length m → length c ≡ length m → NoneBelow m b c (λ u v. left_part u b *ℤ right_part v c)
  parts_below m b c e d = record {
    left = λ u v x y z. ap (λ k. k *ℤ right_part v c) (weighed-zero (factor_at f u) u b (x ∙ sym e) z)
        ∙ (let w : pos 0 *ℤ right_part v c ≡ pos 0 = omega (arith, ints) in w);
    right = λ u v x y z. ap (λ k. left_part u b *ℤ k) (weighed-zero (factor_at g v) v c (y ∙ sym d) z)
        ∙ (let w : left_part u b *ℤ pos 0 ≡ pos 0 = omega (arith, ints) in w);
  }

  -- one split of a: the parts of m + a that count are those of m, moved
  one_split : (m a b c : List ℕ) → length m ≡ length a → IsSplit a b c → Over (length a) f → Over (length a) g
      → sum_splits (plus m a) (λ u v. left_part u b *ℤ right_part v c) ≡ product (factor_at (derived b f)) (factor_at (derived c g)) m
  one_split m a b c l s o p =
      ap (λ k. sum_splits (plus m k) (λ u v. left_part u b *ℤ right_part v c)) (sym s.sum)
      ∙ sum_splits-both m b c (λ u v. left_part u b *ℤ right_part v c) (s.left ∙ sym l) (s.right ∙ sym l) (parts_below m b c (s.left ∙ sym l) (s.right ∙ sym l))
      ∙ sum_splits-within m (λ i j. left_part (plus i b) b *ℤ right_part (plus j c) c) (λ i j. factor_at (derived b f) i *ℤ factor_at (derived c g) j)
      (λ i j x y.
      ap (λ k. k *ℤ right_part (plus j c) c) (sym (factor_at-derived b f i (rw s.left o) (x ∙ l ∙ sym s.left)))
      ∙ ap (λ k. factor_at (derived b f) i *ℤ k) (sym (factor_at-derived c g j (rw s.right p) (y ∙ l ∙ sym s.right))))
      ∙ sym (product_is (factor_at (derived b f)) (factor_at (derived c g)) m)

  -- the binomials of a sum, split
  spread_term : (m a u v : List ℕ) → length m ≡ length a → IsSplit (plus m a) u v
      → pos (binomials (plus m a) a) *ℤ (factor_at f u *ℤ factor_at g v) ≡ sum_splits a (λ b c. left_part u b *ℤ right_part v c)
  spread_term m a u v l s =
      let size : length (plus m a) ≡ length a = length-plus m a l in
      let F : ℤ = factor_at f u in
      let G : ℤ = factor_at g v in
      mul_comm (pos (binomials (plus m a) a)) (F *ℤ G)
      ∙ ap (λ k. (F *ℤ G) *ℤ pos (binomials k a)) (sym s.sum)
      ∙ ap (λ k. (F *ℤ G) *ℤ k) (binomials-plus u v a (s.left ∙ size) (s.right ∙ size))
      ∙ sym (sum_splits-scale a (F *ℤ G) (λ b c. pos (binomials u b) *ℤ pos (binomials v c)))
      ∙ sum_splits-same a (λ b c. (F *ℤ G) *ℤ (pos (binomials u b) *ℤ pos (binomials v c))) (λ b c. left_part u b *ℤ right_part v c)
      (λ b c. four F G (pos (binomials u b)) (pos (binomials v c)))

-- the product rule, at each coefficient
pub product-rule-coefficients : (n : ℕ) (f g h : List Term) (a m : List ℕ) → IsProductOf n f g h → length a ≡ n → length m ≡ n
    → factor_at (derived a h) m ≡ sum_over (λ s. product (factor_at (derived s.0 f)) (factor_at (derived s.1 g)) m) (splits a)
product-rule-coefficients n f g h a m p e d =
    let l : length m ≡ length a = d ∙ sym e in
    let N : List ℕ = plus m a in
    let B : ℤ = pos (binomials N a) in
    factor_at-derived a h m (rw e p.over) l
    ∙ ap (λ k. k *ℤ B) (p.coefficients N (length-plus m a l ∙ e) ∙ product_is (factor_at f) (factor_at g) N)
    ∙ mul_comm (sum_splits N (λ u v. factor_at f u *ℤ factor_at g v)) B
    ∙ sym (sum_splits-scale N B (λ u v. factor_at f u *ℤ factor_at g v))
    ∙ sum_splits-on N (λ u v. B *ℤ (factor_at f u *ℤ factor_at g v)) (λ u v. sum_splits a (λ b c. left_part f g u b *ℤ right_part f g v c))
    (λ u v s. spread_term f g m a u v l s)
    ∙ sum_splits-swap N a (λ u v b c. left_part f g u b *ℤ right_part f g v c)
    ∙ sum_splits-on a (λ b c. sum_splits N (λ u v. left_part f g u b *ℤ right_part f g v c))
    (λ b c. product (factor_at (derived b f)) (factor_at (derived c g)) m) (λ b c s. one_split f g m a b c l s (rw e p.left) (rw e p.right))
    ∙ sym (sum_splits_is a (λ b c. product (factor_at (derived b f)) (factor_at (derived c g)) m))
