-- A term pair by pair, and a polynomial term by term, by the remaining ones.
use Rattle.std.proofs.Common.{◌≡◌, ℕ, ◌+◌, ◌-◌, ◌*◌, ◌^◌, ◌<◌, ◌≤◌, zero, suc, refl, sym, ◌∙◌, ap, arith, List, [], ◌∷◌, length, get_or}
use Rattle.std.proofs.Common.{drop, unsigned_abs, true}
use Rattle.std.proofs.Math.IntN.{ℤ, pos, ◌+ℤ◌, ◌*ℤ◌}
use Rattle.std.proofs.Math.Nat.{le-mul_of_pos_right, mul-le-mul, mul-le-mul_left, mul-le-mul_right, pow-le-pow_left, pow-suc, pow-zero}
use Rattle.std.proofs.Math.Nat.{mul_assoc as nat_mul_assoc}
use Rattle.std.proofs.lemmas.Int.{ints, unsigned_abs-mul}
use Rattle.std.proofs.lemmas.List.{drop_all, drop_more}
use Rattle.ln_algebra.proofs.Expanded.Ring.{mul_assoc, mul_one}
use Rattle.ln_algebra.specs.Terms.{binomial, derived, power_of, value}
use Rattle.ln_bound.specs.Light.{most}
use Rattle.ln_bound.specs.Value.{weights}
use Rattle.ln_tree.specs.declared.shape.VarInfo.{VarInfo}
use Rattle.ln_tree.specs.Exps.{IsAbove, IsRising, Pairs, exponent, vector}
use Rattle.ln_tree.specs.Row.{AreWithin, values}
use Rattle.ln_poly.specs.Sparse.{Sparse, terms_of}
use Rattle.ln_poly.specs.Weight.{pairs_weight, term_weight, total_weight}
use Rattle.ln_poly.proofs.Loads.Weighing.{grown-one, grown-some, total-cons, variable-at, weight-some}
use Rattle.ln_poly.specs.Values.{part, parts, term_value}
use Rattle.ln_tree.proofs.Powers.{found}
use Rattle.ln_algebra.specs.Terms.{covers}
use Rattle.ln_algebra.proofs.Bounding.Bounds.{binomial-power}
use Rattle.ln_poly.proofs.Evaluations.Parts.{covered-at, term-adds}
use Rattle.ln_poly.proofs.Evaluations.Room.{row-size, size}

power-abs : (x : ℤ) (n : ℕ) → unsigned_abs (power_of x n) ≤ size x ^ n
power-abs x zero = rw pow-zero (omega arith)
power-abs x (suc n) =
    let m : ℕ = size x in
    let h : unsigned_abs x ≤ m = omega arith in
    let l : unsigned_abs x * unsigned_abs (power_of x n) ≤ m * m ^ n = mul-le-mul h (power-abs x n) in
    omega (arith, l, unsigned_abs-mul x (power_of x n), pow-suc m n)

-- what a pair adds is at most its power of the weight
part-abs : (x : ℤ) (w e k : ℕ) → k ≤ e → size x + 1 ≤ w → unsigned_abs (pos (binomial e k) *ℤ power_of x (e - k)) ≤ w ^ e
part-abs x w e k h g =
    let m : ℕ = size x in
    let a : binomial e k * unsigned_abs (power_of x (e - k)) ≤ binomial e k * m ^ (e - k) = mul-le-mul_left (binomial e k) (power-abs x (e - k)) in
    omega (arith, unsigned_abs-mul (pos (binomial e k)) (power_of x (e - k)), a, binomial-power m e k h, pow-le-pow_left g e)

-- ---- a term
-- a number times what the pairs from number i on add
pub record IsProduct (vars : List VarInfo) (x : ℕ → ℤ) (a ps : Pairs) (c y : ℤ) (i : ℕ) : Type 0 where
  pub value : y *ℤ parts x a (drop i ps) ≡ c *ℤ parts x a ps
  pub room : unsigned_abs y * pairs_weight (weights vars) (drop i ps) ≤ unsigned_abs c * pairs_weight (weights vars) ps

weight-there : (vars : List VarInfo) (v : ℕ) → v < length vars → 0 < weights vars v
weight-there vars v h = omega (arith, grown-some 1 vars v h, grown-one vars v)

above-after : (n : ℕ) (ps : Pairs) (i : ℕ) → IsAbove ps n → IsAbove (drop i ps) n
above-after n ps zero h = h
above-after n [] (suc i) h = tt
above-after n (p ∷ ps) (suc i) h = above-after n ps i h.1

module _ (vars : List VarInfo) (zs : List ℤ) (a ps : Pairs) (c y : ℤ) (i : ℕ) (there : i < length ps) (row : AreWithin vars zs)
    (above : IsAbove ps (length vars)) (r : IsProduct vars (values zs) a ps c y i) where
  after : drop i ps ≡ get_or ps i (0, 0) ∷ drop (i + 1) ps
  after = drop_more ps i (0, 0) there

  heavy : unsigned_abs y * (weights vars (get_or ps i (0, 0)).0 ^ (get_or ps i (0, 0)).1 * pairs_weight (weights vars) (drop (i + 1) ps))
      ≤ unsigned_abs c * pairs_weight (weights vars) ps
  heavy = rw after at r.room

  sized : size (values zs (get_or ps i (0, 0)).0) + 1 ≤ weights vars (get_or ps i (0, 0)).0
  sized = row-size vars zs (get_or ps i (0, 0)).0 row (variable-at (length vars) ps i above there)

  rest-some : 0 < pairs_weight (weights vars) (drop (i + 1) ps)
  rest-some = weight-some (length vars) (weights vars) (weight-there vars) (drop (i + 1) ps) (above-after (length vars) ps (i + 1) above)

  -- there is room for the product so far times what the next pair adds, where the term's weight is within the limit
  pub product-room : unsigned_abs c * pairs_weight (weights vars) ps ≤ most
      → unsigned_abs y * (size (values zs (get_or ps i (0, 0)).0) + 1) ^ (get_or ps i (0, 0)).1 ≤ most
  product-room h =
      let w : ℕ = weights vars (get_or ps i (0, 0)).0 in
      let e : ℕ = (get_or ps i (0, 0)).1 in
      let W : ℕ = pairs_weight (weights vars) (drop (i + 1) ps) in
      let p : (size (values zs (get_or ps i (0, 0)).0) + 1) ^ e ≤ w ^ e = pow-le-pow_left sized e in
      let q : w ^ e ≤ w ^ e * W = le-mul_of_pos_right (w ^ e) rest-some in
      let s : unsigned_abs y * (size (values zs (get_or ps i (0, 0)).0) + 1) ^ e ≤ unsigned_abs y * (w ^ e * W) =
      mul-le-mul_left (unsigned_abs y) (let t : (size (values zs (get_or ps i (0, 0)).0) + 1) ^ e ≤ w ^ e * W = omega (arith, p, q) in t) in
      omega (arith, s, heavy, h)

  -- where no more is taken off than the pair's exponent, the product so far times what the pair adds is that of one pair more
  pub product-on : (z : ℤ) → exponent (get_or ps i (0, 0)).0 a ≤ (get_or ps i (0, 0)).1 → z ≡ y *ℤ part (values zs) a (get_or ps i (0, 0))
      → IsProduct vars (values zs) a ps c z (i + 1)
  product-on z k q =
      let w : ℕ = weights vars (get_or ps i (0, 0)).0 in
      let e : ℕ = (get_or ps i (0, 0)).1 in
      let W : ℕ = pairs_weight (weights vars) (drop (i + 1) ps) in
      let P : ℤ = part (values zs) a (get_or ps i (0, 0)) in
      let v : z *ℤ parts (values zs) a (drop (i + 1) ps) ≡ y *ℤ parts (values zs) a (drop i ps) = ap (λ j. j *ℤ parts (values zs) a (drop (i + 1) ps)) q
      ∙ mul_assoc y P (parts (values zs) a (drop (i + 1) ps)) ∙ ap (λ j. y *ℤ parts (values zs) a j) (sym after) in
      let s : unsigned_abs P ≤ w ^ e = part-abs (values zs (get_or ps i (0, 0)).0) w e (exponent (get_or ps i (0, 0)).0 a) k sized in
      let t : unsigned_abs y * unsigned_abs P ≤ unsigned_abs y * w ^ e = mul-le-mul_left (unsigned_abs y) s in
      let u : (unsigned_abs y * unsigned_abs P) * W ≤ (unsigned_abs y * w ^ e) * W = mul-le-mul_right W t in
      let f : unsigned_abs z ≡ unsigned_abs y * unsigned_abs P = ap unsigned_abs q ∙ unsigned_abs-mul y P in
      record { value = v ∙ r.value; room = omega (arith, u, heavy, nat_mul_assoc (unsigned_abs y) (w ^ e) W, ap (λ j. j * W) f) }

-- the end of the loop in `product`: the factor times what all pairs add, which is at most the term's weight
pub product-end : (vars : List VarInfo) (x : ℕ → ℤ) (a ps : Pairs) (c y : ℤ) (i : ℕ) → length ps ≤ i → IsProduct vars x a ps c y i
    → (y ≡ c *ℤ parts x a ps) × (unsigned_abs y ≤ unsigned_abs c * pairs_weight (weights vars) ps)
product-end vars x a ps c y i h r =
    let e : drop i ps ≡ [] = drop_all i ps h in
    let v : y *ℤ pos 1 ≡ c *ℤ parts x a ps = rw e at r.value in
    let s : unsigned_abs y * 1 ≤ unsigned_abs c * pairs_weight (weights vars) ps = rw e at r.room in
    (sym (mul_one y) ∙ v, omega (arith, s))

-- no exponent of a pair is below what is taken off
pub pair-within : (n : ℕ) (ps m a : Pairs) (i : ℕ) → ps ≡ m → IsRising ps → IsAbove ps n → i < length ps
    → covers (vector n m) (vector n a) ≡ true → exponent (get_or ps i (0, 0)).0 a ≤ (get_or ps i (0, 0)).1
pair-within n ps m a i e r b h c =
    let v : ℕ = (get_or ps i (0, 0)).0 in
    omega (arith, covered-at 0 n v m a (omega arith) (omega (arith, variable-at n ps i b h)) c, ap (exponent v) e, found v ps i r h refl)

-- ---- a polynomial
-- a sum and the value of the terms from number i on
pub record IsSummed (vars : List VarInfo) (x : ℕ → ℤ) (a : Pairs) (f : Sparse) (sum : ℤ) (i : ℕ) : Type 0 where
  pub value : sum +ℤ value x (derived (vector (length vars) a) (terms_of (length vars) (drop i f)))
      ≡ value x (derived (vector (length vars) a) (terms_of (length vars) f))
  pub room : unsigned_abs sum + total_weight (weights vars) (drop i f) ≤ most

-- the loop in `value_at` begins with 0, where the weight of all terms is within the limit
pub summed-begin : (vars : List VarInfo) (x : ℕ → ℤ) (a : Pairs) (f : Sparse) → total_weight (weights vars) f ≤ most → IsSummed vars x a f (pos 0) 0
summed-begin vars x a f h = record { value = omega (arith, ints); room = omega (arith, h) }

-- the terms from one on weigh as much as that one and those after it
pub total-at : (w : ℕ → ℕ) (f : Sparse) (i : ℕ) (t : Pairs × ℤ) → i < length f → t ≡ get_or f i t
    → total_weight w (drop i f) ≡ term_weight w t + total_weight w (drop (i + 1) f)
total-at w f i t h e =
    ap (total_weight w) (drop_more f i t h) ∙ total-cons w (get_or f i t) (drop (i + 1) f) ∙ ap (λ z. term_weight w z + total_weight w (drop (i + 1) f)) (sym e)

-- each term is light
pub term-light : (w : ℕ → ℕ) (f : Sparse) (i : ℕ) (t : Pairs × ℤ) (s : ℕ) → i < length f → t ≡ get_or f i t
    → s + total_weight w (drop i f) ≤ most → term_weight w t ≤ most
term-light w f i t s h e l = omega (arith, total-at w f i t h e, l)

module _ (vars : List VarInfo) (x : ℕ → ℤ) (a : Pairs) (f : Sparse) (sum : ℤ) (i : ℕ) (t : Pairs × ℤ) (there : i < length f)
    (is : t ≡ get_or f i t) (r : IsSummed vars x a f sum i) where
  -- a value that isn't above the next term's weight keeps the sum within the limit
  pub sum-fits : (z : ℤ) → unsigned_abs z ≤ term_weight (weights vars) t → unsigned_abs (sum +ℤ z) ≤ most
  sum-fits z h = omega (arith, ints, h, total-at (weights vars) f i t there is, r.room)

  -- the sum so far with the value of the next term is that of one term more
  pub summed-on : (z : ℤ) → IsRising t.0 → IsAbove t.0 (length vars) → z ≡ term_value (length vars) x a t
      → unsigned_abs z ≤ term_weight (weights vars) t → IsSummed vars x a f (sum +ℤ z) (i + 1)
  summed-on z rising above q h =
      let n : ℕ = length vars in
      let A : List ℕ = vector n a in
      let e : drop i f ≡ t ∷ drop (i + 1) f = drop_more f i t there ∙ ap (λ y. y ∷ drop (i + 1) f) (sym is) in
      let s : value x (derived A (terms_of n (drop i f))) ≡ term_value n x a t +ℤ value x (derived A (terms_of n (drop (i + 1) f))) =
      ap (λ g. value x (derived A (terms_of n g))) e ∙ term-adds n x a t (terms_of n (drop (i + 1) f)) rising above in
      record { value = omega (arith, ints, r.value, s, q); room = omega (arith, ints, h, total-at (weights vars) f i t there is, r.room) }

-- the end of the loop in `value_at`: the sum is the value of the derivative
pub summed-end : (vars : List VarInfo) (x : ℕ → ℤ) (a : Pairs) (f : Sparse) (sum : ℤ) (i : ℕ) → length f ≤ i → IsSummed vars x a f sum i
    → sum ≡ value x (derived (vector (length vars) a) (terms_of (length vars) f))
summed-end vars x a f sum i h r =
    let e : drop i f ≡ [] = drop_all i f h in
    let v : sum +ℤ pos 0 ≡ value x (derived (vector (length vars) a) (terms_of (length vars) f)) = rw e at r.value in
    (let z : sum ≡ sum +ℤ pos 0 = omega (arith, ints) in z) ∙ v
