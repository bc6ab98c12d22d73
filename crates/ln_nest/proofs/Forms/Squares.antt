-- One term by squares: the square of its half times the rest.
use Rattle.std.proofs.Common.{◌≡◌, ℕ, ℤ, ◌+◌, ◌*◌, ◌/◌, ◌%◌, ◌^◌, ◌≤◌, max, nat_le, Bool, true, false, List, [], ◌∷◌, length, refl, zero, suc, ap, arith}
use Rattle.std.proofs.Common.{pos, ◌+ℤ◌, ◌||◌, ◌∙◌, sym, if◌then◌else◌}
use Rattle.std.specs.Prelude.{◌≢◌}
use Rattle.std.proofs.lemmas.Int.{ints}
use Rattle.std.proofs.lemmas.List.{length-map}
use Rattle.std.proofs.lemmas.Bool.Decides.{nat_tests}
use Rattle.std.proofs.lemmas.Nat.{mul-le}
use Rattle.std.proofs.Math.Nat.{mul-le-mul_left}
use Rattle.ln_algebra.specs.Terms.{Term, Over, factor_at, same_vector}
use Rattle.ln_algebra.specs.Tree.{InputsBelow, Tree, Neg, Mul, Pow}
use Rattle.ln_algebra.specs.Vector.{degree, plus, zeros}
use Rattle.ln_algebra.specs.Weights.{monomial_weight, weighted_sum}
use Rattle.ln_algebra.proofs.Expanded.Expansion.{expanded}
use Rattle.ln_algebra.proofs.Expanded.Normal.{same_vector-is, same_vector-refl}
use Rattle.ln_algebra.proofs.Expanded.Ring.{one_mul}
use Rattle.ln_bound.specs.UpTo.{AreUpTo}
use Rattle.ln_nest.specs.Lean.{AreLean, AreUnder, HasNoZero, IsLean}
use Rattle.ln_nest.specs.Nested.{by_squares, exponent_of, half_term, halved, has_power, is_power, nested, odd_part, rest_term, scaled}
use Rattle.ln_nest.specs.Reach.{weighs}
use Rattle.ln_nest.proofs.Terms.Parts.{AllFit, plus_zeros}
use Rattle.ln_nest.proofs.Terms.Powers.{power_sum, power_two}
use Rattle.ln_nest.proofs.Terms.Scaled.{expanded_scaled, inputs_scaled, scaled_cases}
use Rattle.ln_nest.proofs.Forms.Bounds.{some_weight}
use Rattle.ln_nest.proofs.Forms.Costs.{AllDegrees, allowance, cost_of, cost_scaled, need_of, nested_cheap, nested_need}
use Rattle.ln_nest.proofs.Forms.Leans.{exponent-plus, exponent-zeros, lean_here, nested_inputs, nested_slim}
use Rattle.ln_nest.proofs.Forms.Nests.{nested_up, root_up, up_more}
use Rattle.ln_nest.proofs.Forms.Same.{Same, nested_is}

-- ---- halves of vectors
-- an exponent is twice its half and the rest
twice_half : (n : ℕ) → n / 2 + n / 2 + n % 2 ≡ n
twice_half n = omega arith

-- so is a vector
pub plus_halved : (m : List ℕ) → plus (plus (halved m) (halved m)) (odd_part m) ≡ m
plus_halved [] = refl
plus_halved (n ∷ m) = rw (twice_half n, plus_halved m) refl

-- a sum of vectors has as many exponents
length-twice : (m : List ℕ) → length (plus m m) ≡ length m
length-twice [] = refl
length-twice (n ∷ m) = ap suc (length-twice m)

-- the degree is twice that of the half, and that of the rest
degree-halved : (m : List ℕ) → degree (halved m) + degree (halved m) + degree (odd_part m) ≡ degree m
degree-halved [] = refl
degree-halved (n ∷ m) = omega (arith, twice_half n, degree-halved m)

-- no exponent is more than before
exponent-halved : (w : ℕ) (m : List ℕ) → exponent_of w (halved m) + exponent_of w (halved m) + exponent_of w (odd_part m) ≡ exponent_of w m
exponent-halved w [] = omega arith
exponent-halved zero (n ∷ m) = twice_half n
exponent-halved (suc w) (n ∷ m) = exponent-halved w m

-- where an exponent is 4 or more the half has a degree of at least 2
halved-some : (b : ℕ) (m : List ℕ) → 4 ≤ b → has_power b m ≡ true → 2 ≤ degree (halved m)
halved-some b [] l q = cc
halved-some b (n ∷ m) l q = by_case (nat_le b n) refl q (halved-some b m l)
  where
    by_case : (a : Bool) → nat_le b n ≡ a → (a || has_power b m) ≡ true → (has_power b m ≡ true → 2 ≤ degree (halved m))
        → 2 ≤ n / 2 + degree (halved m)
    by_case true p r ih = let g : b ≤ n = grind (arith, nat_tests) in omega (arith, g, l)
    by_case false p r ih = omega (arith, ih r)

-- the weight of a monomial is the square of that of its half, times that of the rest
weight-halved : (w : ℕ → ℕ) (m : List ℕ)
    → monomial_weight w (halved m) * monomial_weight w (halved m) * monomial_weight w (odd_part m) ≡ monomial_weight w m
weight-halved w [] = refl
weight-halved w (n ∷ m) =
    let a = w 0 ^ (n / 2) in
    let c = w 0 ^ (n % 2) in
    let p : w 0 ^ n ≡ a * a * c =
    ap (λ k. w 0 ^ k) (sym (twice_half n)) ∙ power_sum (w 0) (n / 2 + n / 2) (n % 2) ∙ ap (λ k. k * c) (power_sum (w 0) (n / 2) (n / 2)) in
    let h = weight-halved (λ v. w (suc v)) m in
    rw (p, ← h) (omega arith)

-- ---- by induction
-- what holds of nested trees, and of the square of the half times the rest where it holds of the half, holds of a tree by squares
module _ (d n : ℕ) (P : List Term → Tree → Type 0) (base : (f : List Term) → P f (nested d n 0 f))
    (step : (t : Term) (x : Tree) → 2 ≤ degree (halved t.exponents) → P (half_term t ∷ []) x
    → P (t ∷ []) (scaled (Pow x 2) (nested d n 0 (rest_term t ∷ [])))) where
  -- so for any number of steps
  pub squares_has : (k b : ℕ) → 4 ≤ b → (f : List Term) → P f (by_squares d n k b f)
  squares_has zero b l f = base f
  squares_has (suc k) b l [] = base []
  squares_has (suc k) b l (t ∷ s ∷ f) = base (t ∷ s ∷ f)
  squares_has (suc k) b l (t ∷ []) = by_case (has_power b t.exponents) refl (squares_has k 4 (omega arith) (half_term t ∷ []))
    where
      by_case : (a : Bool) → has_power b t.exponents ≡ a → P (half_term t ∷ []) (by_squares d n k 4 (half_term t ∷ []))
          → P (t ∷ []) (if a then scaled (Pow (by_squares d n k 4 (half_term t ∷ [])) 2) (nested d n 0 (rest_term t ∷ [])) else nested d n 0 (t ∷ []))
      by_case true q ih = step t (by_squares d n k 4 (half_term t ∷ [])) (halved-some b t.exponents l q) ih
      by_case false q ih = base (t ∷ [])

-- ---- the expansion
-- one term that isn't 0, over n variables, of a degree of at most d
pub record IsTerm (n d : ℕ) (t : Term) : Type 0 where
  pub long : length t.exponents ≡ n
  pub low : degree t.exponents ≤ d
  pub some : t.factor ≢ pos 0

-- so are its half and the rest
half_is : (n d : ℕ) (t : Term) → IsTerm n d t → IsTerm n d (half_term t)
half_is n d t i = record {
  long = length-map t.exponents (λ n. n / 2) ∙ i.long;
  low = omega (arith, degree-halved t.exponents, i.low);
  some = λ q. cc;
}

rest_is : (n d : ℕ) (t : Term) → IsTerm n d t → IsTerm n d (rest_term t)
rest_is n d t i = record {
  long = length-map t.exponents (λ n. n % 2) ∙ i.long;
  low = omega (arith, degree-halved t.exponents, i.low);
  some = i.some;
}

-- no exponent is above the degree
exponent-degree : (w : ℕ) (m : List ℕ) → exponent_of w m ≤ degree m
exponent-degree w [] = omega arith
exponent-degree zero (n ∷ m) = omega arith
exponent-degree (suc w) (n ∷ m) = let e = exponent-degree w m in omega (arith, e)

-- terms over n variables with small degrees fit
pub all_fit : (n d : ℕ) (f : List Term) → Over n f → AllDegrees d f → AllFit n 0 d f
all_fit n d [] o a = tt
all_fit n d (t ∷ f) o a = (
  record { long = o.0; clear = λ w l. absurd (omega arith); most = λ w. let e = exponent-degree w t.exponents in omega (arith, e, a.0) },
  all_fit n d f o.1 a.1,
)

-- a term alone
abbrev lone : List ℕ → ℤ → List Term
lone m z = record { exponents = m; factor = z } ∷ []

same_term : (a b : List ℕ) (x y : ℤ) → a ≡ b → x ≡ y → lone a x ≡ lone b y
same_term a b x y p q = rw (p, q) refl

-- at most one term with the coefficients of one is it
one_list : (g : List Term) (t : Term) → length g ≤ 1 → t.factor ≢ pos 0 → factor_at g t.exponents ≡ factor_at (t ∷ []) t.exponents → g ≡ t ∷ []
one_list [] t l z e = absurd (z (none e))
  where
    none : pos 0 ≡ factor_at (t ∷ []) t.exponents → t.factor ≡ pos 0
    none h = let r = rw (same_vector-refl t.exponents) at h in omega (arith, ints, r)
one_list (s ∷ u ∷ g) t l z e = absurd (omega (arith, l))
one_list (s ∷ []) t l z e = by_case (same_vector s.exponents t.exponents) refl (rw (same_vector-refl t.exponents) at e)
  where
    by_case : (b : Bool) → same_vector s.exponents t.exponents ≡ b → (if b then s.factor else pos 0) +ℤ pos 0 ≡ t.factor +ℤ pos 0 → s ∷ [] ≡ t ∷ []
    by_case true p h = same_term s.exponents t.exponents s.factor t.factor (same_vector-is s.exponents t.exponents p) (omega (arith, ints, h))
    by_case false p h = absurd (z (omega (arith, ints, h)))

-- the expansion of the nested tree of one term is the term
one_exact : (n d : ℕ) (t : Term) → IsTerm n d t → expanded n (nested d n 0 (t ∷ [])) ≡ t ∷ []
one_exact n d t i =
    let top = λ (w : ℕ). exponent_of w t.exponents in
    let s = nested_slim n 1 top (omega arith) d n 0 (omega arith) (t ∷ []) top (λ w. omega arith) ((λ w. omega arith), tt) (omega arith) in
    one_list (expanded n (nested d n 0 (t ∷ []))) t (omega (arith, s.few)) i.some
    (nested_is n d n 0 (omega arith) (t ∷ []) (all_fit n d (t ∷ []) (i.long, tt) (i.low, tt)) t.exponents i.long)

-- a monomial alone
abbrev alone : List ℕ → List Term
alone m = lone m (pos 1)

-- so that of the square of a monomial
square_exact : (n : ℕ) (x : Tree) (m : List ℕ) → length m ≡ n → expanded n x ≡ alone m → expanded n (Pow x 2) ≡ alone (plus m m)
square_exact n x m l p = rw (p, plus_zeros n m l) refl

-- and of the square of the half times the rest
step_exact : (n d : ℕ) (t : Term) (x : Tree) → IsTerm n d t → expanded n x ≡ half_term t ∷ []
    → expanded n (scaled (Pow x 2) (nested d n 0 (rest_term t ∷ []))) ≡ t ∷ []
step_exact n d t x i p =
    let m = halved t.exponents in
    let l : length m ≡ n = length-map t.exponents (λ n. n / 2) ∙ i.long in
    expanded_scaled n (Pow x 2) (nested d n 0 (rest_term t ∷ [])) (plus m m) (length-twice m ∙ l) (square_exact n x m l p)
    ∙ rw (one_exact n d (rest_term t) (rest_is n d t i), plus_halved t.exponents, one_mul t.factor) refl

-- ---- the nodes
-- a tree that is one term is lean
one_lean : (n count : ℕ) (big : ℕ → ℕ) (e : Tree) (t : Term) → 1 ≤ count → InputsBelow n e → expanded n e ≡ t ∷ []
    → ((w : ℕ) → exponent_of w t.exponents ≤ big w) → IsLean n count big e
one_lean n count big e t c i q u =
    let few : length (expanded n e) ≤ count = rw q c in
    let under : AreUnder big (expanded n e) = rw q (u, tt) in
    lean_here n count big e i few under

-- so are the lower powers on the way to a square, and it
square_lean : (n count : ℕ) (big : ℕ → ℕ) (x : Tree) (m : List ℕ) → length m ≡ n → 1 ≤ count → InputsBelow n x → expanded n x ≡ alone m
    → ((w : ℕ) → exponent_of w m + exponent_of w m ≤ big w) → (j : ℕ) → j ≤ 2 → IsLean n count big (Pow x j)
square_lean n count big x m l c i p u zero s =
    one_lean n count big (Pow x 0) (record { exponents = zeros n; factor = pos 1 }) c i refl (λ w. omega (arith, exponent-zeros w n))
square_lean n count big x m l c i p u (suc zero) s =
    one_lean n count big (Pow x 1) (record { exponents = m; factor = pos 1 }) c i (rw (p, plus_zeros n m l) refl) (λ w. omega (arith, u w))
square_lean n count big x m l c i p u (suc (suc zero)) s =
    one_lean n count big (Pow x 2) (record { exponents = plus m m; factor = pos 1 }) c i (square_exact n x m l p) (λ w. omega (arith, u w, exponent-plus w m m))
square_lean n count big x m l c i p u (suc (suc (suc j))) s = absurd (omega (arith, s))

-- terms that aren't 0, over n variables, of degrees of at most d
abbrev pub AreTerms : ℕ → ℕ → List Term → Type 0
AreTerms n d [] = Unit {0}
AreTerms n d (t ∷ f) = IsTerm n d t × AreTerms n d f

-- a tree has these terms: where it is one, the expansion is it; its nodes are lean
pub record Formed (n d count : ℕ) (big : ℕ → ℕ) (f : List Term) (e : Tree) : Type 0 where
  pub inputs : InputsBelow n e
  pub exact : length f ≡ 1 → AreTerms n d f → expanded n e ≡ f
  pub nodes : AreTerms n d f → AreUnder big f → length f ≤ count → AreLean n count big e

nested_exact : (n d : ℕ) (f : List Term) → length f ≡ 1 → AreTerms n d f → expanded n (nested d n 0 f) ≡ f
nested_exact n d [] l a = absurd (omega (arith, l))
nested_exact n d (t ∷ []) l a = one_exact n d t a.0
nested_exact n d (t ∷ s ∷ f) l a = absurd (omega (arith, l))

nested_formed : (n d count : ℕ) (big : ℕ → ℕ) → 1 ≤ count → (f : List Term) → Formed n d count big f (nested d n 0 f)
nested_formed n d count big o f = record {
  inputs = nested_inputs n d n 0 (omega arith) f;
  exact = nested_exact n d f;
  nodes = λ a u c. (nested_slim n count big o d n 0 (omega arith) f big (λ w. omega arith) u c).nodes;
}

step_formed : (n d count : ℕ) (big : ℕ → ℕ) → 1 ≤ count → (t : Term) (x : Tree) → Formed n d count big (half_term t ∷ []) x
    → Formed n d count big (t ∷ []) (scaled (Pow x 2) (nested d n 0 (rest_term t ∷ [])))
step_formed n d count big o t x r =
    let h = nested d n 0 (rest_term t ∷ []) in
    let g = nested_formed n d count big o (rest_term t ∷ []) in
    let exact = λ (i : IsTerm n d t). step_exact n d t x i (r.exact refl (half_is n d t i, tt)) in
    record {
      inputs = inputs_scaled n (Pow x 2) h r.inputs g.inputs;
      exact = λ l a. exact a.0;
      nodes = λ a u c.
          let m = halved t.exponents in
          let own = r.nodes (half_is n d t a.0, tt) ((λ w. omega (arith, u.0 w, exponent-halved w t.exponents)), tt) o in
          let rest = g.nodes (rest_is n d t a.0, tt) ((λ w. omega (arith, u.0 w, exponent-halved w t.exponents)), tt) o in
          let square : AreLean n count big (Pow x 2) = (
            own,
            square_lean n count big x m (length-map t.exponents (λ n. n / 2) ∙ a.0.long) o r.inputs (r.exact refl (half_is n d t a.0, tt))
                (λ w. omega (arith, u.0 w, exponent-halved w t.exponents)),
          ) in
          scaled_cases (Pow x 2) h (λ e. expanded n e ≡ t ∷ [] → AreLean n count big e)
          (λ q e. square)
          (λ q e. (square, one_lean n count big (Neg (Pow x 2)) t o r.inputs e u.0))
          (λ e. (square, rest, one_lean n count big (Mul (Pow x 2) h) t o (r.inputs, g.inputs) e u.0))
          (exact a.0);
    }

-- a tree by squares has its terms
pub squares_formed : (n d count : ℕ) (big : ℕ → ℕ) → 1 ≤ count → (k b : ℕ) → 4 ≤ b → (f : List Term) → Formed n d count big f (by_squares d n k b f)
squares_formed n d count big o =
    squares_has d n (Formed n d count big) (nested_formed n d count big o) (λ t x l r. step_formed n d count big o t x r)

-- ---- the coefficients
-- a tree by squares has the coefficients of the terms
pub squares_is : (n d k b : ℕ) → 4 ≤ b → (f : List Term) → AreTerms n d f → Over n f → AllDegrees d f → Same n (expanded n (by_squares d n k b f)) f
squares_is n d k b l f a o g = by_length f a o g
  where
    other : (f : List Term) → is_power b f ≡ false → by_squares d n k b f ≡ nested d n 0 f
    other f q = at_steps k
      where
        at_steps : (k : ℕ) → by_squares d n k b f ≡ nested d n 0 f
        at_steps zero = refl
        at_steps (suc k) = rw q refl

    by_length : (f : List Term) → AreTerms n d f → Over n f → AllDegrees d f → Same n (expanded n (by_squares d n k b f)) f
    by_length [] a o g = rw (other [] refl) (nested_is n d n 0 (omega arith) [] (all_fit n d [] o g))
    by_length (t ∷ s ∷ f) a o g = rw (other (t ∷ s ∷ f) refl) (nested_is n d n 0 (omega arith) (t ∷ s ∷ f) (all_fit n d (t ∷ s ∷ f) o g))
    by_length (t ∷ []) a o g = λ m h. ap (λ z. factor_at z m) ((squares_formed n d 1 (λ w. 0) (omega arith) k b l (t ∷ [])).exact refl a)

-- ---- weights
module _ (w : ℕ → ℕ) (one_each : (v : ℕ) → 1 ≤ w v) where
  -- the square of a tree up to a times a tree up to b
  square_up : (x h : Tree) (a b n : ℕ) → 1 ≤ a → 1 ≤ b → a * a * b ≤ n → AreUpTo (weighs w) a x → AreUpTo (weighs w) b h
      → AreUpTo (weighs w) n (scaled (Pow x 2) h)
  square_up x h a b n o p l u v =
      let r = root_up (weighs w) a x u in
      let s = root_up (weighs w) b h v in
      let q : weighs w x ^ 2 ≡ weighs w x * weighs w x = power_two (weighs w x) in
      let k : weighs w x * weighs w x ≤ a * a = mul-le _ _ _ _ r r in
      let i : 1 * 1 ≤ a * a = mul-le _ _ _ _ o o in
      let y : a * 1 ≤ a * a = mul-le-mul_left a o in
      let z : a * a * 1 ≤ a * a * b = mul-le-mul_left (a * a) p in
      let j : b * 1 ≤ b * (a * a) = mul-le-mul_left b (omega (arith, i)) in
      let m : weighs w x * weighs w x * weighs w h ≤ a * a * b = mul-le _ _ _ _ k s in
      let root : weighs w x ^ 2 ≤ n = omega (arith, q, k, z, l) in
      let both : weighs w x ^ 2 * weighs w h ≤ n = rw q (omega (arith, m, l)) in
      let own : AreUpTo (weighs w) n (Pow x 2) = (up_more (weighs w) (weighs w) a n (λ e. omega arith) (omega (arith, y, z, l)) x u, root) in
      scaled_cases (Pow x 2) h (AreUpTo (weighs w) n) (λ e. own) (λ e. (own, root))
      (own, up_more (weighs w) (weighs w) b n (λ e. omega arith) (omega (arith, j, l)) h v, both)

  -- the square of the weight of the half of a term, times that of the rest, is the term's
  pub halves_weight : (t : Term)
      → weighted_sum w (half_term t ∷ []) * weighted_sum w (half_term t ∷ []) * weighted_sum w (rest_term t ∷ []) ≡ weighted_sum w (t ∷ [])
  halves_weight t = rw (← weight-halved w t.exponents) (omega arith)

  half_some : (t : Term) → HasNoZero (half_term t ∷ [])
  half_some t = ((λ q. cc), tt)

  -- no node weighs more than the terms
  pub squares_up : (d n k b : ℕ) → 4 ≤ b → (f : List Term) → HasNoZero f → AreUpTo (weighs w) (weighted_sum w f) (by_squares d n k b f)
  squares_up d n =
      squares_has d n (λ f e. HasNoZero f → AreUpTo (weighs w) (weighted_sum w f) e) (nested_up w one_each d n 0)
      (λ t x l r z. square_up x (nested d n 0 (rest_term t ∷ [])) (weighted_sum w (half_term t ∷ [])) (weighted_sum w (rest_term t ∷ []))
      (weighted_sum w (t ∷ [])) (some_weight w one_each (half_term t) [] (half_some t)) (some_weight w one_each (rest_term t) [] z)
      (omega (arith, halves_weight t)) (r (half_some t)) (nested_up w one_each d n 0 (rest_term t ∷ []) z))

-- ---- the cost
-- four times the degree and 2, over all terms
abbrev pub roomy : List Term → ℕ
roomy [] = 0
roomy (t ∷ f) = 4 * degree t.exponents + 2 + roomy f

allowance-roomy : (f : List Term) → allowance f ≤ roomy f
allowance-roomy [] = omega arith
allowance-roomy (t ∷ f) = omega (arith, allowance-roomy f)

-- its cost
pub squares_cheap : (d n k b : ℕ) → 4 ≤ b → (f : List Term) → cost_of (by_squares d n k b f) + 1 ≤ max 2 (roomy f)
squares_cheap d n =
    squares_has d n (λ f e. cost_of e + 1 ≤ max 2 (roomy f)) (λ f. omega (arith, nested_cheap d n 0 f, allowance-roomy f))
    (λ t x l r. omega (arith, l, r, nested_cheap d n 0 (rest_term t ∷ []), cost_scaled (Pow x 2) (nested d n 0 (rest_term t ∷ [])), degree-halved t.exponents))

-- ---- the stack
-- its need
pub squares_need : (d n k b : ℕ) → 4 ≤ b → (f : List Term) → AllDegrees d f → need_of (by_squares d n k b f) ≤ d + (n + 2)
squares_need d n =
    squares_has d n (λ f e. AllDegrees d f → need_of e ≤ d + (n + 2)) (λ f a. omega (arith, nested_need d n 0 d f a))
    (λ t x l r a.
    let y = r (omega (arith, a.0, degree-halved t.exponents), tt) in
    let z = nested_need d n 0 d (rest_term t ∷ []) (omega (arith, a.0, degree-halved t.exponents), tt) in
    scaled_cases (Pow x 2) (nested d n 0 (rest_term t ∷ [])) (λ e. need_of e ≤ d + (n + 2)) (λ e. omega (arith, y)) (λ e. omega (arith, y))
    (omega (arith, y, z)))
