-- The steps of a tree by squares, with their ranges.
use Rattle.std.proofs.Common.{◌≡◌, ℕ, ◌-◌, ◌*◌, ◌≤◌, true, false, List, [], ◌∷◌, length, refl, zero, suc, ap, arith, map}
use Rattle.std.proofs.Common.{◌∙◌, sym}
use Rattle.std.proofs.lemmas.Nat.{mul-le}
use Rattle.std.proofs.Math.Nat.{mul-le-mul_left}
use Rattle.ln_algebra.specs.Terms.{Term}
use Rattle.ln_algebra.specs.Tree.{Tree, Pow}
use Rattle.ln_algebra.specs.Weights.{weighted_sum}
use Rattle.ln_interval.specs.Range.{magnitude, product}
use Rattle.ln_interval.specs.Range as ranged
use Rattle.ln_interval.proofs.Magnitudes.{power_magnitude, product_magnitude}
use Rattle.ln_tree.specs.declared.shape.VarInfo.{VarInfo}
use Rattle.ln_bound.specs.Light.{most}
use Rattle.ln_bound.specs.Typed.{Typed, pair}
use Rattle.ln_nest.specs.Lean.{HasNoZero}
use Rattle.ln_nest.specs.Nested.{by_squares, half_term, is_power, nested, rest_term}
use Rattle.ln_nest.specs.View.{Has, product_of, scale, square_of, terms_in}
use Rattle.ln_nest.specs.declared.work.Work.{Work}
use Rattle.ln_nest.proofs.Terms.Powers.{power_two}
use Rattle.ln_nest.proofs.Forms.Bounds.{some_weight}
use Rattle.ln_nest.proofs.Forms.Squares.{halves_weight}
use Rattle.ln_nest.proofs.Forms.Steps.{has_as, product_has, scale_some}

-- ---- without a square
-- the tree is the nested one
without : (d n k b : ℕ) (f : List Term) → (1 ≤ k → is_power b f ≡ false) → by_squares d n k b f ≡ nested d n 0 f
without d n zero b f q = refl
without d n (suc k) b f q = rw (q (omega arith)) refl

-- so the nested one serves
pub without_has : (vars : List VarInfo) (t : Typed) (k b w : ℕ) (f : List Term) → (1 ≤ k → is_power b f ≡ false)
    → Has vars t (nested 126 (length vars - 0) 0 f) w → Has vars t (by_squares 126 (length vars) k b f) w
without_has vars t k b w f q h =
    let z : length vars - 0 ≡ length vars = omega arith in
    has_as vars t _ _ w w (ap (λ n. nested 126 n 0 f) z ∙ sym (without 126 (length vars) k b f q)) (omega arith) h

-- ---- with one
-- no half has a factor 0
pub halves_some : (f : List Term) → HasNoZero (map half_term f)
halves_some [] = tt
halves_some (t ∷ f) = ((λ q. cc), halves_some f)

-- nor have the rests, where the terms have none
pub rests_some : (f : List Term) → HasNoZero f → HasNoZero (map rest_term f)
rests_some [] z = tt
rests_some (t ∷ f) z = (z.0, rests_some f z.1)

-- what the code has where it takes a square: the terms f are one, and g and h are its half and its rest
pub record Taken (k b : ℕ) (f g h : List Term) : Type 0 where
  pub some : 1 ≤ k
  pub power : is_power b f ≡ true
  pub half : g ≡ map half_term f
  pub rest : h ≡ map rest_term f

-- from what its calls ensure
pub taken_of : (k b : ℕ) (ws s u v half rest : List Work) → s ≡ ws → u ≡ ws → v ≡ ws → (1 ≤ k) × (is_power b (terms_in s) ≡ true)
    → terms_in half ≡ map half_term (terms_in u) → terms_in rest ≡ map rest_term (terms_in v)
    → Taken k b (terms_in ws) (terms_in half) (terms_in rest)
taken_of k b ws s u v half rest p q r y e g = record {
  some = y.0;
  power = ap (λ z. is_power b (terms_in z)) (sym p) ∙ y.1;
  half = e ∙ ap (λ z. map half_term (terms_in z)) q;
  rest = g ∙ ap (λ z. map rest_term (terms_in z)) r;
}

module _ (vars : List VarInfo) where
  abbrev weight_of : List Term → ℕ
  weight_of f = weighted_sum (scale vars) f

  -- the weight is the square of that of the half, times that of the rest
  parts : (b : ℕ) (f : List Term) → is_power b f ≡ true
      → weight_of (map half_term f) * weight_of (map half_term f) * weight_of (map rest_term f) ≡ weight_of f
  parts b [] q = cc
  parts b (t ∷ []) q = halves_weight (scale vars) (scale_some vars) t
  parts b (t ∷ s ∷ f) q = cc

  -- both weigh at least 1
  some : (b : ℕ) (f : List Term) → is_power b f ≡ true → HasNoZero f → (1 ≤ weight_of (map half_term f)) × (1 ≤ weight_of (map rest_term f))
  some b [] q z = cc
  some b (t ∷ []) q z = (
    some_weight (scale vars) (scale_some vars) (half_term t) [] (halves_some (t ∷ [])),
    some_weight (scale vars) (scale_some vars) (rest_term t) [] z,
  )
  some b (t ∷ s ∷ f) q z = cc

  -- the square of a tree within a
  square_small : (x : Typed) (e : Tree) (a : ℕ) → Has vars x e a → magnitude (ranged.power (pair x) 2) ≤ a * a
  square_small x e a h =
      let m = power_magnitude (pair x) 2 ∙ power_two (magnitude (pair x)) in
      let k : magnitude (pair x) * magnitude (pair x) ≤ a * a = mul-le _ _ _ _ h.small h.small in
      omega (arith, m, k)

  module _ (k b : ℕ) (f g h : List Term) (t : Taken k b f g h) where
    -- the parts of the weight, as the code has them
    both : weight_of g * weight_of g * weight_of h ≡ weight_of f
    both = rw (t.half, t.rest) (parts b f t.power)

    -- the square of a tree of the half, times one of the rest, is within the weight
    product_small : (x y : Typed) (e i : Tree) → Has vars x e (weight_of g) → Has vars y i (weight_of h)
        → magnitude (ranged.power (pair x) 2) * magnitude (pair y) ≤ weight_of f
    product_small x y e i p q =
        let s = square_small x e _ p in
        let m : magnitude (ranged.power (pair x) 2) * magnitude (pair y) ≤ weight_of g * weight_of g * weight_of h = mul-le _ _ _ _ s q.small in
        omega (arith, m, both)

    -- the half, its square and the rest weigh no more than the term, and have no factor 0
    pub parts_fit : HasNoZero f → weight_of f ≤ most
        → (HasNoZero g × (weight_of g ≤ most)) × (weight_of g * weight_of g ≤ most) × (HasNoZero h × (weight_of h ≤ most))
    parts_fit z l =
        let s = some b f t.power z in
        let a : 1 ≤ weight_of g = rw t.half s.0 in
        let c : 1 ≤ weight_of h = rw t.rest s.1 in
        let r = within (weight_of g) (weight_of h) a c (omega (arith, both, l)) in
        ((rw t.half (halves_some f), r.0), r.1, (rw t.rest (rests_some f z), r.2))
      where
        within : (a c : ℕ) → 1 ≤ a → 1 ≤ c → a * a * c ≤ most → (a ≤ most) × (a * a ≤ most) × (c ≤ most)
        within a c o p l =
            let y : a * 1 ≤ a * a = mul-le-mul_left a o in
            let z : a * a * 1 ≤ a * a * c = mul-le-mul_left (a * a) p in
            let j : c * 1 ≤ c * (a * a) = mul-le-mul_left c (omega (arith, y, o)) in
            (omega (arith, y, z, l), omega (arith, z, l), omega (arith, j, l))

    -- so the square is within the limit
    pub square_fits : (x : Typed) (e : Tree) → HasNoZero f → weight_of f ≤ most → Has vars x e (weight_of g) → magnitude (ranged.power (pair x) 2) ≤ most
    square_fits x e z l p = omega (arith, square_small x e _ p, (parts_fit z l).1)

    -- and its product with a tree of the rest
    pub product_fits : (x p y : Typed) (e i : Tree) → weight_of f ≤ most → Has vars x e (weight_of g) → Has vars y i (weight_of h)
        → p ≡ square_of x → magnitude (product (pair p) (pair y)) ≤ most
    product_fits x p y e i l q r s =
        let m = product_magnitude (pair (square_of x)) (pair y) in
        rw s (omega (arith, m, product_small x y e i q r, l))

  -- the square of a tree of the half times one of the rest is the tree by squares
  pub taken_has : (k b : ℕ) (f g h : List Term) (x p y z : Typed) → Taken k b f g h → Has vars x (by_squares 126 (length vars) (k - 1) 4 g) (weight_of g)
      → Has vars y (nested 126 (length vars - 0) 0 h) (weight_of h) → p ≡ square_of x → z ≡ product_of p y
      → Has vars z (by_squares 126 (length vars) k b f) (weight_of f)
  taken_has zero b f g h x p y z t i j q r = absurd (omega (arith, t.some))
  taken_has (suc k) b f g h x p y z t i j q r =
      let n = length vars in
      let c : suc k - 1 ≡ k = omega arith in
      let d : n - 0 ≡ n = omega arith in
      let own : Has vars x (by_squares 126 n k 4 (map half_term f)) (weight_of g) =
      has_as vars x _ _ _ _ (rw (c, t.half) refl) (omega arith) i in
      let rest : Has vars y (nested 126 n 0 (map rest_term f)) (weight_of h) =
      has_as vars y _ _ _ _ (rw (d, t.rest) refl) (omega arith) j in
      let square : Has vars (square_of x) (Pow (by_squares 126 n k 4 (map half_term f)) 2) (magnitude (ranged.power (pair x) 2)) =
      record { same = ap (λ e. Pow e 2) own.same; exact = (own.exact, refl, refl); small = omega arith } in
      let m = product_small (suc k) b f g h t x y _ _ own rest in
      rw (r, q, t.power) (has_as vars (product_of (square_of x) y) _ _ _ (weight_of f) refl m (product_has vars (square_of x) y _ _ _ _ square rest))
