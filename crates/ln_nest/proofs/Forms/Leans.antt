-- No node of a nested tree has more terms than the list, or larger exponents.
use Rattle.std.proofs.Common.{◌≡◌, ℕ, ◌+◌, ◌-◌, ◌≤◌, ◌<◌, max, Bool, true, false, eqb, List, [], ◌∷◌, ◌++◌, length, refl, zero, suc, ap}
use Rattle.std.proofs.Common.{arith, pos, subst, sym, ◌⊎◌, inl, inr, if◌then◌else◌, length-append}
use Rattle.std.proofs.lemmas.Bool.{cases_eq, eq-eqb, ne_eqb}
use Rattle.ln_algebra.specs.Terms.{Term}
use Rattle.ln_algebra.specs.Tree.{InputsBelow, Tree, Num, Input, Neg, Add, Mul, Pow}
use Rattle.ln_algebra.specs.Vector.{plus, zeros}
use Rattle.ln_algebra.proofs.Expanded.Expansion.{Over-expanded, expanded, times, times_term}
use Rattle.ln_algebra.proofs.Expanded.Normal.{normal_is}
use Rattle.ln_poly.proofs.TermLists.Bounded.{length-times_term}
use Rattle.ln_nest.specs.Lean.{AreLean, AreUnder, IsLean}
use Rattle.ln_nest.specs.Nested.{exponent_of, lessened, divided, free_of, total, joined, nested, power, scaled}
use Rattle.ln_nest.proofs.Terms.Scaled.{expanded_scaled, inputs_scaled, scaled_cases}
use Rattle.ln_nest.proofs.Terms.Parts.{HavePower, by_parts, exponent-here, exponent-lessened, length-power_vector, nested_has, plus-power_vector}
use Rattle.ln_nest.proofs.Terms.Parts.{plus_zeros, power_vector, power_vector-one, zeros-power}
use Rattle.ln_nest.proofs.Terms.Powers.{expanded_power, inputs_power, power_has}
use Rattle.ln_nest.proofs.Forms.Costs.{parts_length}

-- ---- the variables of a nested tree
-- a step has no other variables than those of its parts
joined_inputs : (n : ℕ) (x h i : Tree) (p q : List Term) → InputsBelow n x → InputsBelow n h → InputsBelow n i → InputsBelow n (joined x h i p q)
joined_inputs n x h i [] q l a b = b
joined_inputs n x h i (t ∷ p) [] l a b = inputs_scaled n x h l a
joined_inputs n x h i (t ∷ p) (y ∷ q) l a b = (inputs_scaled n x h l a, b)

-- the whole nested tree
pub nested_inputs : (n d k v : ℕ) → k + v ≡ n → (f : List Term) → InputsBelow n (nested d k v f)
nested_inputs n = nested_has n (λ g e. InputsBelow n e) (λ g. tt)
    (λ v e f h i l o a b. joined_inputs n (power e v e) h i (divided e v f) (free_of v f) (inputs_power n v e e l o.0 (omega (arith, o.1))) a b)

-- ---- exponents of sums and leaves
-- exponents of a sum of vectors are at most the sums
pub exponent-plus : (w : ℕ) (a b : List ℕ) → exponent_of w (plus a b) ≤ exponent_of w a + exponent_of w b
exponent-plus w [] b = omega arith
exponent-plus w (n ∷ a) [] = omega arith
exponent-plus zero (n ∷ a) (k ∷ b) = omega arith
exponent-plus (suc w) (n ∷ a) (k ∷ b) = exponent-plus w a b

-- the vector of zeros has none
pub exponent-zeros : (w n : ℕ) → exponent_of w (zeros n) ≡ 0
exponent-zeros w zero = refl
exponent-zeros zero (suc n) = refl
exponent-zeros (suc w) (suc n) = exponent-zeros w n

-- the vector of a power has at most its exponent
exponent-power : (w n v e : ℕ) → exponent_of w (power_vector n v e) ≤ e
exponent-power w zero v e = omega arith
exponent-power zero (suc n) zero e = omega arith
exponent-power (suc w) (suc n) zero e = let z = exponent-zeros w n in omega (arith, z)
exponent-power zero (suc n) (suc v) e = omega arith
exponent-power (suc w) (suc n) (suc v) e = exponent-power w n v e

-- and 0 but at its own variable
exponent-other : (w n v e : ℕ) → (w ≡ v → ⊥) → exponent_of w (power_vector n v e) ≡ 0
exponent-other w zero v e h = refl
exponent-other zero (suc n) zero e h = absurd (h refl)
exponent-other (suc w) (suc n) zero e h = exponent-zeros w n
exponent-other zero (suc n) (suc v) e h = refl
exponent-other (suc w) (suc n) (suc v) e h = exponent-other w n v e (λ q. h (ap suc q))

-- ---- limits on exponents
-- the limit of v is e less
abbrev pub less_at : ℕ → ℕ → (ℕ → ℕ) → ℕ → ℕ
less_at e v top w = if eqb w v then top w - e else top w

-- that of v is e less
less_here : (e v : ℕ) (top : ℕ → ℕ) (w : ℕ) → w ≡ v → less_at e v top w ≡ top w - e
less_here e v top w q = rw (eq-eqb w v q) refl

-- the others are the same
less_other : (e v : ℕ) (top : ℕ → ℕ) (w : ℕ) → (w ≡ v → ⊥) → less_at e v top w ≡ top w
less_other e v top w n = rw (ne_eqb w v n) refl

-- no limit grows
less_below : (e v : ℕ) (top : ℕ → ℕ) (w : ℕ) → less_at e v top w ≤ top w
less_below e v top w = by_case (eqb w v)
  where
    by_case : (b : Bool) → (if b then top w - e else top w) ≤ top w
    by_case true = omega arith
    by_case false = omega arith

-- what is under some limits is under larger ones
under_more : (low top : ℕ → ℕ) → ((v : ℕ) → low v ≤ top v) → (f : List Term) → AreUnder low f → AreUnder top f
under_more low top l [] a = tt
under_more low top l (t ∷ f) a = ((λ v. let e = a.0 v in let g = l v in omega (arith, e, g)), under_more low top l f a.1)

-- two lists one after the other
under_both : (top : ℕ → ℕ) (f g : List Term) → AreUnder top f → AreUnder top g → AreUnder top (f ++ g)
under_both top [] g a b = b
under_both top (t ∷ f) g a b = (a.0, under_both top f g a.1 b)

-- the terms without v
under_free : (v : ℕ) (top : ℕ → ℕ) (f : List Term) → AreUnder top f → AreUnder top (free_of v f)
under_free v top f = by_parts 1 v (λ f g h. AreUnder top f → AreUnder top h) (λ a. tt) (λ t f g h e ih a. ih a.1) (λ t f g h e ih a. (a.0, ih a.1)) f

-- with e less of v a vector is under limits with e less
less_under : (e v : ℕ) (top : ℕ → ℕ) (m : List ℕ) → ((w : ℕ) → exponent_of w m ≤ top w) → (w : ℕ) → exponent_of w (lessened e v m) ≤ less_at e v top w
less_under e v top m a w = by_case (cases_eq w v)
  where
    by_case : (w ≡ v) ⊎ (w ≡ v → ⊥) → exponent_of w (lessened e v m) ≤ less_at e v top w
    by_case (inl q) =
        let s = exponent-here e v m in
        let c : exponent_of w (lessened e v m) ≡ exponent_of w m - e = rw q s in
        omega (arith, less_here e v top w q, c, a w)
    by_case (inr n) = omega (arith, less_other e v top w n, exponent-lessened e v w m, a w)

-- so are the divided terms
under_divided : (e v : ℕ) (top : ℕ → ℕ) (f : List Term) → AreUnder top f → AreUnder (less_at e v top) (divided e v f)
under_divided e v top f =
    by_parts e v (λ f g h. AreUnder top f → AreUnder (less_at e v top) g) (λ a. tt) (λ t f g h q ih a. (less_under e v top t.exponents a.0, ih a.1))
    (λ t f g h q ih a. ih a.1) f

-- where a term has variable v, the limit of v is at least e
some_power : (e v : ℕ) (top : ℕ → ℕ) (f : List Term) → HavePower e v f → AreUnder top f → 0 < length (divided e v f) → e ≤ top v
some_power e v top f =
    by_parts e v (λ f g h. HavePower e v f → AreUnder top f → 0 < length g → e ≤ top v) (λ c a l. absurd (omega arith))
    (λ t f g h q ih c a l. omega (arith, c.0 q, a.0 v)) (λ t f g h q ih c a l. ih c.1 a.1 l) f

-- the vector of a power of v, and that power times a monomial
power_under : (n v e : ℕ) (top : ℕ → ℕ) → e ≤ top v → (w : ℕ) → exponent_of w (power_vector n v e) ≤ top w
power_under n v e top l w = by_case (cases_eq w v)
  where
    by_case : (w ≡ v) ⊎ (w ≡ v → ⊥) → exponent_of w (power_vector n v e) ≤ top w
    by_case (inl q) = let u = exponent-power w n v e in let k : e ≤ top w = rw q l in omega (arith, u, k)
    by_case (inr o) = let u = exponent-other w n v e o in omega (arith, u)

-- the power times a monomial
more_under : (n v e : ℕ) (top : ℕ → ℕ) (m : List ℕ) → e ≤ top v → ((w : ℕ) → exponent_of w m ≤ less_at e v top w) → (w : ℕ)
    → exponent_of w (plus (power_vector n v e) m) ≤ top w
more_under n v e top m l a w = by_case (cases_eq w v)
  where
    by_case : (w ≡ v) ⊎ (w ≡ v → ⊥) → exponent_of w (plus (power_vector n v e) m) ≤ top w
    by_case (inl q) =
        let k : e ≤ top w = rw q l in
        omega (arith, exponent-plus w (power_vector n v e) m, exponent-power w n v e, a w, less_here e v top w q, k)
    by_case (inr o) = omega (arith, exponent-plus w (power_vector n v e) m, exponent-other w n v e o, a w, less_other e v top w o)

-- the term of the power e of variable v alone, over n variables, with the factor 1
abbrev pub power_term : ℕ → ℕ → ℕ → Term
power_term n v e = record { exponents = power_vector n v e; factor = pos 1 }

-- the power times each term of a list
times_under : (n v e : ℕ) (top : ℕ → ℕ) (g : List Term) → e ≤ top v → AreUnder (less_at e v top) g → AreUnder top (times_term (power_term n v e) g)
times_under n v e top [] l a = tt
times_under n v e top (t ∷ g) l a = (more_under n v e top t.exponents l a.0, times_under n v e top g l a.1)

-- ---- the number of terms
-- the same as a product of lists
length_times_one : (t : Term) (g : List Term) → length (times (t ∷ []) g) ≡ length g
length_times_one t g = let a = length-times_term t g in let b = length-append (times_term t g) [] in omega (arith, a, b)

-- ---- the nodes

-- a node whose expansion has few terms, with small exponents
pub lean_here : (n count : ℕ) (top : ℕ → ℕ) (e : Tree) → InputsBelow n e → length (expanded n e) ≤ count → AreUnder top (expanded n e) → IsLean n count top e
lean_here n count top e i l u =
    record { terms = expanded n e; normal = record { over = Over-expanded n e; coefficients = λ m h. sym (normal_is n e i m h) }; few = l; under = u }

-- a node whose exponents are below smaller limits
lean_below : (n count : ℕ) (top big : ℕ → ℕ) (e : Tree) → ((v : ℕ) → top v ≤ big v) → InputsBelow n e → length (expanded n e) ≤ count
    → AreUnder top (expanded n e) → IsLean n count big e
lean_below n count top big e l i k u = lean_here n count big e i k (under_more top big l (expanded n e) u)

-- a tree of k terms: its expansion has no more terms, nor exponents above top; its nodes are lean
pub record Slim (n count : ℕ) (top big : ℕ → ℕ) (e : Tree) (k : ℕ) : Type 0 where
  pub inputs : InputsBelow n e
  pub few : length (expanded n e) ≤ max 1 k
  pub under : AreUnder top (expanded n e)
  pub nodes : AreLean n count big e

-- a tree that is a power of v is lean, where the power is within the limit
monomial_lean : (n v e count : ℕ) (big : ℕ → ℕ) (t : Tree) → 1 ≤ count → e ≤ big v → InputsBelow n t
    → expanded n t ≡ power_term n v e ∷ [] → IsLean n count big t
monomial_lean n v e count big t c l i q =
    let few : length (expanded n t) ≤ count = rw q c in
    let under : AreUnder big (expanded n t) = rw q (power_under n v e big l, tt) in
    lean_here n count big t i few under

-- a power of v with the powers on its way
record Raised (n v count : ℕ) (big : ℕ → ℕ) (e : ℕ) (t : Tree) : Type 0 where
  inputs : InputsBelow n t
  same : expanded n t ≡ power_term n v e ∷ []
  nodes : e ≤ big v → AreLean n count big t

module _ (n v count : ℕ) (big : ℕ → ℕ) (i : v < n) (c : 1 ≤ count) where
  once : Raised n v count big 1 (Input v)
  once =
      let q : expanded n (Input v) ≡ power_term n v 1 ∷ [] = rw (power_vector-one n v) refl in
      record { inputs = i; same = q; nodes = λ l. monomial_lean n v 1 count big (Input v) c l i q }

  again : (e : ℕ) (t : Tree) → 1 ≤ e → Raised n v count big e t → Raised n v count big (e + 1) (Mul t (Input v))
  again e t o h =
      let p = h.same in
      let q : expanded n (Mul t (Input v)) ≡ power_term n v (e + 1) ∷ [] = rw (p, power_vector-one n v, plus-power_vector n v e 1) refl in
      record {
        inputs = (h.inputs, i);
        same = q;
        nodes = λ l. (h.nodes (omega (arith, l)), once.nodes (omega (arith, l, o)), monomial_lean n v (e + 1) count big (Mul t (Input v)) c l (h.inputs, i) q);
      }

  -- the lower powers on the way to a square, and it
  lower : (e : ℕ) (t : Tree) → expanded n t ≡ power_term n v e ∷ [] → (j : ℕ) → j ≤ 2 → (a : ℕ) × (a ≤ e + e) × (expanded n (Pow t j) ≡ power_term n v a ∷ [])
  lower e t p zero l = (0, omega arith, rw (zeros-power n v) refl)
  lower e t p (suc zero) l = (e, omega arith, rw (p, plus_zeros n (power_vector n v e) (length-power_vector n v e)) refl)
  lower e t p (suc (suc zero)) l =
      (e + e, omega arith, rw (p, plus_zeros n (power_vector n v e) (length-power_vector n v e), plus-power_vector n v e e) refl)
  lower e t p (suc (suc (suc j))) l = absurd (omega (arith, l))

  twice : (e : ℕ) (t : Tree) → 2 ≤ e → Raised n v count big e t → Raised n v count big (e + e) (Pow t 2)
  twice e t o h =
      record {
        inputs = h.inputs;
        same = rw (h.same, plus_zeros n (power_vector n v e) (length-power_vector n v e), plus-power_vector n v e e) refl;
        nodes = λ l. (
          h.nodes (omega (arith, l)),
          λ j s. let r = lower e t h.same j s in
              monomial_lean n v r.0 count big (Pow t j) c (omega (arith, r.1, l)) h.inputs r.2,
        );
      }

  -- the power in at most k steps
  power_lean : (k e : ℕ) → 1 ≤ e → e ≤ k + 1 → e ≤ big v → AreLean n count big (power k v e)
  power_lean k e l h = (power_has v (Raised n v count big) once again twice k e l h).nodes

-- a power of v times a tree
scaled_slim : (n v e count : ℕ) (top big : ℕ → ℕ) (h : Tree) (k : ℕ) → v < n → (1 ≤ e) × (e ≤ 126) → 0 < k → k ≤ count
    → ((w : ℕ) → top w ≤ big w) → e ≤ top v → Slim n count (less_at e v top) big h k → Slim n count top big (scaled (power e v e) h) k
scaled_slim n v e count top big h k i q o c l s a =
    let x = power e v e in
    let r : e ≤ e + 1 = omega (arith, q.1) in
    let own = expanded_power n v e e q.0 r in
    let same = expanded_scaled n x h (power_vector n v e) (length-power_vector n v e) own in
    let product = times (power_term n v e ∷ []) (expanded n h) in
    let most : length product ≤ max 1 k = omega (arith, length_times_one (power_term n v e) (expanded n h), a.few) in
    let u : AreUnder top product = under_both top (times_term (power_term n v e) (expanded n h)) [] (times_under n v e top (expanded n h) s a.under) tt in
    let few : length (expanded n (scaled x h)) ≤ max 1 k = rw same most in
    let under : AreUnder top (expanded n (scaled x h)) = rw same u in
    let b = inputs_power n v e e i q.0 r in
    let power = power_lean n v count big i (omega (arith, o, c)) e e q.0 r (omega (arith, s, l v)) in
    let nodes = scaled_cases x h (λ t. length (expanded n t) ≤ count → AreUnder top (expanded n t) → AreLean n count big t)
    (λ q f w. power)
    (λ q f w. (power, lean_below n count top big (Neg x) l b f w))
    (λ f w. (power, a.nodes, lean_below n count top big (Mul x h) l (b, a.inputs) f w)) in
    record { inputs = inputs_scaled n x h b a.inputs; few = few; under = under; nodes = nodes (omega (arith, few, o, c)) under }

-- a sum of two trees
sum_slim : (n count : ℕ) (top big : ℕ → ℕ) (e g : Tree) (j k m : ℕ) → 0 < j → 0 < k → j + k ≡ m → m ≤ count → ((w : ℕ) → top w ≤ big w)
    → Slim n count top big e j → Slim n count top big g k → Slim n count top big (Add e g) m
sum_slim n count top big e g j k m o p z c l a b =
    let few : length (expanded n (Add e g)) ≤ m = omega (arith, length-append (expanded n e) (expanded n g), a.few, b.few, o, p, z) in
    let under : AreUnder top (expanded n (Add e g)) = under_both top (expanded n e) (expanded n g) a.under b.under in
    let inputs : InputsBelow n (Add e g) = (a.inputs, b.inputs) in
    record {
      inputs = inputs;
      few = omega (arith, few);
      under = under;
      nodes = (a.nodes, b.nodes, lean_below n count top big (Add e g) l inputs (omega (arith, few, c)) under);
    }

-- a step is slim where its parts are
joined_slim : (n v e count : ℕ) (top big : ℕ → ℕ) (h i : Tree) (p q : List Term) (m : ℕ) → v < n → (1 ≤ e) × (e ≤ 126) → length p + length q ≡ m
    → m ≤ count → ((w : ℕ) → top w ≤ big w) → (0 < length p → e ≤ top v) → Slim n count (less_at e v top) big h (length p)
    → Slim n count top big i (length q) → Slim n count top big (joined (power e v e) h i p q) m
joined_slim n v e count top big h i [] q m u o z c l s a b = let r : length q ≡ m = omega (arith, z) in subst (Slim n count top big i) r b
joined_slim n v e count top big h i (x ∷ p) [] m u o z c l s a b =
    let r : length (x ∷ p) ≡ m = omega (arith, z) in
    subst (Slim n count top big (scaled (power e v e) h)) r
    (scaled_slim n v e count top big h (length (x ∷ p)) u o (omega arith) (omega (arith, r, c)) l (s (omega arith)) a)
joined_slim n v e count top big h i (x ∷ p) (y ∷ q) m u o z c l s a b =
    sum_slim n count top big (scaled (power e v e) h) i (length (x ∷ p)) (length (y ∷ q)) m (omega arith) (omega arith) z c l
    (scaled_slim n v e count top big h (length (x ∷ p)) u o (omega arith) (omega (arith, z, c)) l (s (omega arith)) a) b

-- the tree of each list with few terms is slim
pub nested_slim : (n count : ℕ) (big : ℕ → ℕ) → 1 ≤ count → (d k v : ℕ) → k + v ≡ n → (f : List Term) (top : ℕ → ℕ) → ((w : ℕ) → top w ≤ big w)
    → AreUnder top f → length f ≤ count → Slim n count top big (nested d k v f) (length f)
nested_slim n count big o =
    nested_has n
    (λ f e. (top : ℕ → ℕ) → ((w : ℕ) → top w ≤ big w) → AreUnder top f → length f ≤ count → Slim n count top big e (length f))
    (λ f top l a c.
    let under : AreUnder top (expanded n (Num (total f))) = ((λ w. omega (arith, exponent-zeros w n)), tt) in
    record { inputs = tt; few = omega arith; under = under; nodes = lean_below n count top big (Num (total f)) l tt o under })
    (λ v e f h i u r p q top l a c.
    let z = parts_length e v f in
    joined_slim n v e count top big h i (divided e v f) (free_of v f) (length f) u (r.0, r.1) z c l (some_power e v top f r.2 a)
    (p (less_at e v top) (λ w. omega (arith, l w, less_below e v top w)) (under_divided e v top f a) (omega (arith, z, c)))
    (q top l (under_free v top f a) (omega (arith, z, c))))
