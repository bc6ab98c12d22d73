-- A list of terms divided by a variable, and what is free of it.
use Rattle.std.proofs.Common.{◌≡◌, ℕ, ℤ, ◌+◌, ◌-◌, ◌≤◌, ◌<◌, min, nat_le, Bool, true, false, List, [], ◌∷◌, length, refl, zero, suc, ap, arith, pos}
use Rattle.std.proofs.Common.{◌+ℤ◌, ◌∙◌, ◌⊎◌, inl, inr, if◌then◌else◌}
use Rattle.std.proofs.lemmas.Int.{ints}
use Rattle.std.proofs.lemmas.Bool.{cases_eq}
use Rattle.ln_algebra.specs.Vector.{plus}
use Rattle.ln_algebra.specs.Terms.{Term, Over, factor_at, same_vector}
use Rattle.ln_algebra.specs.Tree.{Num, Tree}
use Rattle.ln_algebra.proofs.Expanded.Expansion.{zeros, unit_vector, times_term, length-zeros}
use Rattle.ln_algebra.proofs.Expanded.Ring.{one_mul}
use Rattle.ln_poly.proofs.TermLists.Fewest.{EachHas}
use Rattle.ln_nest.specs.Nested.{exponent_of, is_positive, lessened, divided, free_of, horner, joined, nested, total, least_power, power_at_once, power}

-- ---- by induction
-- a term divided by the power e of v
abbrev pub less_term : ℕ → ℕ → Term → Term
less_term e v t = record { exponents = lessened e v t.exponents; factor = t.factor }

-- what holds of no term holds of all terms, those divided by v^e and those without v, where it stays with a further term of either kind
pub by_parts : (e v : ℕ) (P : List Term → List Term → List Term → Type 0) → P [] [] []
    → ((t : Term) (f g h : List Term) → is_positive (exponent_of v t.exponents) ≡ true → P f g h → P (t ∷ f) (less_term e v t ∷ g) h)
    → ((t : Term) (f g h : List Term) → is_positive (exponent_of v t.exponents) ≡ false → P f g h → P (t ∷ f) g (t ∷ h))
    → (f : List Term) → P f (divided e v f) (free_of v f)
by_parts e v P none with without [] = none
by_parts e v P none with without (t ∷ f) = by_case (is_positive (exponent_of v t.exponents)) refl (by_parts e v P none with without f)
  where
    by_case : (b : Bool) → is_positive (exponent_of v t.exponents) ≡ b → P f (divided e v f) (free_of v f)
        → P (t ∷ f) (if b then less_term e v t ∷ divided e v f else divided e v f) (if b then free_of v f else t ∷ free_of v f)
    by_case true q ih = with t f (divided e v f) (free_of v f) q ih
    by_case false q ih = without t f (divided e v f) (free_of v f) q ih

-- a vector with variable v has its power e
abbrev pub HasPower : ℕ → ℕ → List ℕ → Type 0
HasPower e v m = is_positive (exponent_of v m) ≡ true → e ≤ exponent_of v m

-- so has each term
abbrev pub HavePower : ℕ → ℕ → List Term → Type 0
HavePower e v f = EachHas (HasPower e v) f

-- where P gives Q of a vector with e less of v, each divided term has Q
pub each_divided : (e v : ℕ) (P Q : List ℕ → Type 0) → ((m : List ℕ) → is_positive (exponent_of v m) ≡ true → e ≤ exponent_of v m → P m → Q (lessened e v m))
    → (f : List Term) → HavePower e v f → EachHas P f → EachHas Q (divided e v f)
each_divided e v P Q l f =
    by_parts e v (λ f g h. HavePower e v f → EachHas P f → EachHas Q g) (λ c a. tt) (λ t f g h q ih c a. (l t.exponents q (c.0 q) a.0, ih c.1 a.1))
    (λ t f g h q ih c a. ih c.1 a.1) f

-- where P gives Q of a vector without v, each term without v has Q
pub each_free : (v : ℕ) (P Q : List ℕ → Type 0) → ((m : List ℕ) → is_positive (exponent_of v m) ≡ false → P m → Q m) → (f : List Term)
    → EachHas P f → EachHas Q (free_of v f)
each_free v P Q l f = by_parts 1 v (λ f g h. EachHas P f → EachHas Q h) (λ a. tt) (λ t f g h e ih a. ih a.1) (λ t f g h e ih a. (l t.exponents e a.0, ih a.1)) f

-- ---- the power at once
positive-some : (n : ℕ) → is_positive n ≡ true → 1 ≤ n
positive-some zero q = cc
positive-some (suc n) q = omega arith

-- the next least exponent is at most the one before, at least 1 where that is, and at most the term's where that has v
next : (v b : ℕ) (m : List ℕ) → 1 ≤ b
    → let c = if is_positive (exponent_of v m) then min b (exponent_of v m) else b in (1 ≤ c) × (c ≤ b) × HasPower c v m
next v b m l = by_case (is_positive (exponent_of v m)) refl
  where
    by_case : (t : Bool) → is_positive (exponent_of v m) ≡ t
        → let c = if t then min b (exponent_of v m) else b in (1 ≤ c) × (c ≤ b) × (t ≡ true → c ≤ exponent_of v m)
    by_case true q = let p = positive-some (exponent_of v m) q in (omega (arith, l, p), omega arith, (λ r. omega arith))
    by_case false q = (l, omega arith, (λ r. cc))

-- a smaller power
less_power : (e c v : ℕ) (m : List ℕ) → e ≤ c → HasPower c v m → HasPower e v m
less_power e c v m l h = λ q. let g = h q in omega (arith, l, g)

-- the least exponent is one that each term with v has, and at least 1
pub least_is : (v b : ℕ) (f : List Term) → 1 ≤ b → (1 ≤ least_power v b f) × (least_power v b f ≤ b) × HavePower (least_power v b f) v f
least_is v b [] l = (l, omega arith, tt)
least_is v b (t ∷ f) l =
    let n = next v b t.exponents l in
    let r = least_is v (if is_positive (exponent_of v t.exponents) then min b (exponent_of v t.exponents) else b) f n.0 in
    (r.0, omega (arith, r.1, n.1), (less_power _ _ v t.exponents r.1 n.2, r.2))

-- one power is had by each term with v
first_power : (v : ℕ) (f : List Term) → HavePower 1 v f
first_power v [] = tt
first_power v (t ∷ f) = ((λ q. positive-some (exponent_of v t.exponents) q), first_power v f)

-- so it is with the power at once
pub at_once_is : (v : ℕ) (f : List Term) → (1 ≤ power_at_once v f) × (power_at_once v f ≤ 126) × HavePower (power_at_once v f) v f
at_once_is v f = by_case (nat_le 8 (least_power v 126 f))
  where
    by_case : (b : Bool) → let e = if b then least_power v 126 f else 1 in (1 ≤ e) × (e ≤ 126) × HavePower e v f
    by_case true = least_is v 126 f (omega arith)
    by_case false = (omega arith, omega arith, first_power v f)

-- what holds of a number, and of a step where it holds of both parts, holds of a nested tree
module _ (n : ℕ) (P : List Term → Tree → Type 0) (number : (f : List Term) → P f (Num (total f)))
    (step : (v e : ℕ) (f : List Term) (h i : Tree) → v < n → (1 ≤ e) × (e ≤ 126) × HavePower e v f → P (divided e v f) h → P (free_of v f) i
    → P f (joined (power e v e) h i (divided e v f) (free_of v f))) where
  by_powers : (v : ℕ) (inner : List Term → Tree) → v < n → ((g : List Term) → P g (inner g)) → (d : ℕ) (f : List Term) → P f (horner inner v d f)
  by_powers v inner l is zero f = is f
  by_powers v inner l is (suc d) f =
      let e = power_at_once v f in
      step v e f (horner inner v d (divided e v f)) (inner (free_of v f)) l (at_once_is v f) (by_powers v inner l is d (divided e v f)) (is (free_of v f))

  -- it holds of the whole tree
  pub nested_has : (d k v : ℕ) → k + v ≡ n → (f : List Term) → P f (nested d k v f)
  nested_has d zero v e f = number f
  nested_has d (suc k) v e f =
      let is = λ (g : List Term). nested_has d k (suc v) (omega arith) g in
      by_powers v (nested d k (suc v)) (omega arith) is d f

-- ---- vectors

-- a vector of n exponents of at most d each, those below v being 0
pub record Fit (n v d : ℕ) (m : List ℕ) : Type 0 where
  pub long : length m ≡ n
  pub clear : (w : ℕ) → w < v → exponent_of w m ≡ 0
  pub most : (w : ℕ) → exponent_of w m ≤ d

-- each term has a vector of n exponents of at most d each, those below v being 0
abbrev pub AllFit : ℕ → ℕ → ℕ → List Term → Type 0
AllFit n v d f = EachHas (Fit n v d) f

-- no exponent of v is above d
abbrev pub AllAt : ℕ → ℕ → List Term → Type 0
AllAt v d f = EachHas (λ m. exponent_of v m ≤ d) f

-- zeros and a vector are the vector
pub plus_zeros : (n : ℕ) (m : List ℕ) → length m ≡ n → plus (zeros n) m ≡ m
plus_zeros zero [] h = refl
plus_zeros zero (k ∷ m) h = absurd (omega arith)
plus_zeros (suc n) [] h = absurd (omega arith)
plus_zeros (suc n) (k ∷ m) h = let e : 0 + k ≡ k = omega arith in rw (e, plus_zeros n m (omega arith)) refl

-- the vector of n exponents with e at variable v and 0 elsewhere
abbrev pub power_vector : ℕ → ℕ → ℕ → List ℕ
power_vector zero v e = []
power_vector (suc n) zero e = e ∷ zeros n
power_vector (suc n) (suc v) e = 0 ∷ power_vector n v e

-- the first power is that of the variable alone
pub power_vector-one : (n v : ℕ) → unit_vector n v ≡ power_vector n v 1
power_vector-one zero v = refl
power_vector-one (suc n) zero = refl
power_vector-one (suc n) (suc v) = ap (λ m. 0 ∷ m) (power_vector-one n v)

-- the power 0 is 1
pub zeros-power : (n v : ℕ) → zeros n ≡ power_vector n v 0
zeros-power zero v = refl
zeros-power (suc n) zero = refl
zeros-power (suc n) (suc v) = ap (λ m. 0 ∷ m) (zeros-power n v)

-- it has n exponents
pub length-power_vector : (n v e : ℕ) → length (power_vector n v e) ≡ n
length-power_vector zero v e = refl
length-power_vector (suc n) zero e = ap suc (length-zeros n)
length-power_vector (suc n) (suc v) e = ap suc (length-power_vector n v e)

-- two powers make the power of the sum
pub plus-power_vector : (n v a b : ℕ) → plus (power_vector n v a) (power_vector n v b) ≡ power_vector n v (a + b)
plus-power_vector zero v a b = refl
plus-power_vector (suc n) zero a b = ap (λ m. (a + b) ∷ m) (plus_zeros n (zeros n) (length-zeros n))
plus-power_vector (suc n) (suc v) a b = ap (λ m. 0 ∷ m) (plus-power_vector n v a b)

-- a vector that has the power e of variable v is e more of it than the one with e less
pub plus_less : (n e v : ℕ) (m : List ℕ) → length m ≡ n → e ≤ exponent_of v m → plus (power_vector n v e) (lessened e v m) ≡ m
plus_less zero e v [] h l = refl
plus_less zero e v (k ∷ m) h l = absurd (omega arith)
plus_less (suc n) e v [] h l = absurd (omega arith)
plus_less (suc n) e zero (k ∷ m) h l = let q : e + (k - e) ≡ k = omega (arith, l) in rw (q, plus_zeros n m (omega arith)) refl
plus_less (suc n) e (suc v) (k ∷ m) h l = let q : 0 + k ≡ k = omega arith in rw (q, plus_less n e v m (omega arith) l) refl

-- it has as many exponents
pub length-lessened : (e v : ℕ) (m : List ℕ) → length (lessened e v m) ≡ length m
length-lessened e v [] = refl
length-lessened e zero (n ∷ m) = refl
length-lessened e (suc v) (n ∷ m) = ap suc (length-lessened e v m)

-- that of v is e less
pub exponent-here : (e v : ℕ) (m : List ℕ) → exponent_of v (lessened e v m) ≡ exponent_of v m - e
exponent-here e v [] = omega arith
exponent-here e zero (n ∷ m) = refl
exponent-here e (suc v) (n ∷ m) = exponent-here e v m

-- none is more
pub exponent-lessened : (e v w : ℕ) (m : List ℕ) → exponent_of w (lessened e v m) ≤ exponent_of w m
exponent-lessened e v w [] = omega arith
exponent-lessened e zero zero (n ∷ m) = omega arith
exponent-lessened e zero (suc w) (n ∷ m) = omega arith
exponent-lessened e (suc v) zero (n ∷ m) = omega arith
exponent-lessened e (suc v) (suc w) (n ∷ m) = exponent-lessened e v w m

-- ---- the two parts
-- at each monomial, v^e times the divided terms and the terms without v have factors that add up to that of all terms
pub parts_sum : (n v e d : ℕ) (m : List ℕ) (f : List Term) → HavePower e v f → AllFit n v d f
    → factor_at (times_term (record { exponents = power_vector n v e; factor = pos 1 }) (divided e v f)) m +ℤ factor_at (free_of v f) m ≡ factor_at f m
parts_sum n v e d m f =
    by_parts e v
    (λ f g h. HavePower e v f → AllFit n v d f
    → factor_at (times_term (record { exponents = power_vector n v e; factor = pos 1 }) g) m +ℤ factor_at h m ≡ factor_at f m)
    (λ c a. refl)
    (λ t f g h q ih c a. rw (plus_less n e v t.exponents a.0.long (c.0 q), one_mul t.factor) (omega (arith, ints, ih c.1 a.1)))
    (λ t f g h q ih c a. omega (arith, ints, ih c.1 a.1))
    f

-- a vector without the variables up to v
clear_more : (v : ℕ) (m : List ℕ) → ((w : ℕ) → w < v → exponent_of w m ≡ 0) → is_positive (exponent_of v m) ≡ false → (w : ℕ) → w < suc v → exponent_of w m ≡ 0
clear_more v m h p w l = by_case (cases_eq w v)
  where
    not_positive : (n : ℕ) → is_positive n ≡ false → n ≡ 0
    not_positive zero q = refl
    not_positive (suc n) q = cc

    by_case : (w ≡ v) ⊎ (w ≡ v → ⊥) → exponent_of w m ≡ 0
    by_case (inl e) = rw e (not_positive _ p)
    by_case (inr e) = h w (omega (arith, e))

-- the terms without v have no variable up to v
pub free_fit : (n v d : ℕ) (f : List Term) → AllFit n v d f → AllFit n (suc v) d (free_of v f)
free_fit n v d =
    each_free v (Fit n v d) (Fit n (suc v) d) (λ m e a. record { long = a.long; clear = clear_more v m a.clear e; most = a.most })

-- with e less of v
less_fit : (n v e d : ℕ) (m : List ℕ) → Fit n v d m → Fit n v d (lessened e v m)
less_fit n v e d m a = record {
  long = length-lessened e v m ∙ a.long;
  clear = λ w l. let c = a.clear w l in let g = exponent-lessened e v w m in omega (arith, c, g);
  most = λ w. let c = a.most w in let g = exponent-lessened e v w m in omega (arith, c, g);
}

-- the divided terms fit as the terms do
pub divided_fit : (n v e d : ℕ) (f : List Term) → HavePower e v f → AllFit n v d f → AllFit n v d (divided e v f)
divided_fit n v e d = each_divided e v (Fit n v d) (Fit n v d) (λ m q l a. less_fit n v e d m a)

-- and have a power of v less
pub divided_at : (v e d : ℕ) (f : List Term) → 1 ≤ e → HavePower e v f → AllAt v (suc d) f → AllAt v d (divided e v f)
divided_at v e d f o = each_divided e v (λ m. exponent_of v m ≤ suc d) (λ m. exponent_of v m ≤ d) (λ m q l a. omega (arith, exponent-here e v m, a, o)) f

-- where no term has variable v
pub none_fit : (n v d : ℕ) (f : List Term) → AllFit n v d f → AllAt v 0 f → AllFit n (suc v) d f
none_fit n v d [] a b = tt
none_fit n v d (t ∷ f) a b = (record { long = a.0.long; clear = clear_more v t.exponents a.0.clear (none _ b.0); most = a.0.most }, none_fit n v d f a.1 b.1)
  where
    none : (n : ℕ) → n ≤ 0 → is_positive n ≡ false
    none zero h = refl
    none (suc n) h = absurd (omega arith)

-- fitting terms have at most d powers of v
pub fit_at : (n v d : ℕ) (f : List Term) → AllFit n v d f → AllAt v d f
fit_at n v d [] a = tt
fit_at n v d (t ∷ f) a = (a.0.most v, fit_at n v d f a.1)

-- and are over n variables
pub fit_over : (n v d : ℕ) (f : List Term) → AllFit n v d f → Over n f
fit_over n v d [] a = tt
fit_over n v d (t ∷ f) a = (a.0.long, fit_over n v d f a.1)

-- ---- no variable remains
-- a vector whose exponents are all 0 is the vector of zeros
pub all_zero : (n : ℕ) (m : List ℕ) → length m ≡ n → ((w : ℕ) → w < n → exponent_of w m ≡ 0) → m ≡ zeros n
all_zero zero [] h c = refl
all_zero zero (k ∷ m) h c = absurd (omega arith)
all_zero (suc n) [] h c = absurd (omega arith)
all_zero (suc n) (k ∷ m) h c =
    let z : k ≡ 0 = c 0 (omega arith) in
    let r : m ≡ zeros n = all_zero n m (omega arith) (λ w l. c (suc w) (omega arith)) in
    rw (z, r) refl

-- terms without a variable are the number that is the sum of their factors
pub constants_sum : (n d : ℕ) (m : List ℕ) (f : List Term) → AllFit n n d f
    → factor_at (record { exponents = zeros n; factor = total f } ∷ []) m ≡ factor_at f m
constants_sum n d m [] a = by_case (same_vector (zeros n) m)
  where
    by_case : (b : Bool) → (if b then pos 0 else pos 0) +ℤ pos 0 ≡ pos 0
    by_case true = refl
    by_case false = refl
constants_sum n d m (t ∷ f) a =
    let z : t.exponents ≡ zeros n = all_zero n t.exponents a.0.long a.0.clear in
    rw z (by_case (same_vector (zeros n) m) (factor_at f m) (constants_sum n d m f a.1))
  where
    by_case : (b : Bool) (r : ℤ) → (if b then total f else pos 0) +ℤ pos 0 ≡ r
        → (if b then t.factor +ℤ total f else pos 0) +ℤ pos 0 ≡ (if b then t.factor else pos 0) +ℤ r
    by_case true r h = omega (arith, ints, h)
    by_case false r h = omega (arith, ints, h)
