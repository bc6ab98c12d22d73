-- Exponents of a monomial, as pairs of a variable's number and its exponent.
use Rattle.std.specs.Prelude.{◌≡◌, ℕ, zero, suc, ◌+◌, ◌*◌, ◌<◌, ◌==◌, ◌&&◌, eqb, Bool, true, refl, List, [], ◌∷◌, if◌then◌else◌}
use Rattle.std.proofs.lemmas.Bool.{and_parts, eqb-true}
use Rattle.std.specs.Cmp.Lexicographic.{slice_cmp}
use Rattle.std.proofs.Common.{arith}
use Rattle.std.proofs.lemmas.Bool.Decides.{nat_tests}
use Rattle.std.proofs.lemmas.Cmp.{back_total, by_ranked, lists_total, nat_cmp_total, on_total, ranked, then_total}
use Rattle.std.specs.Cmp.{IsTotalOrder}
use Rattle.std.specs.declared.cmp.Ordering.{Ordering}
use Rattle.std.specs.declared.cmp.Ordering.TheVariants.{Less, Equal, Greater}
use Rattle.std.specs.Ordering.{eq_of_both, flip_args, is_eq, nat_cmp, on, ordering_then, then_cmp}
use lib.Pointwise.{pointwise}

-- the pairs of a monomial
abbrev pub Pairs : Type 0
Pairs = List (ℕ × ℕ)

-- each variable of the pairs is below v
abbrev pub IsAbove : Pairs → ℕ → Type 0
IsAbove [] v = Unit {0}
IsAbove (p ∷ ps) v = (p.0 < v) × IsAbove ps v

-- each variable of the pairs is above v
abbrev pub AllAbove : ℕ → Pairs → Type 0
AllAbove v [] = Unit {0}
AllAbove v (p ∷ ps) = (v < p.0) × AllAbove v ps

-- the variables rise, and each exponent is from 1 to 127
abbrev pub IsRising : Pairs → Type 0
IsRising [] = Unit {0}
IsRising (p ∷ ps) = (0 < p.1) × (p.1 < 128) × AllAbove p.0 ps × IsRising ps

-- are the two the same list of pairs?
abbrev pub same_pairs : Pairs → Pairs → Bool
same_pairs = pointwise (eq_of_both (on (λ p. p.0) ◌==◌) (on (λ p. p.1) ◌==◌))

-- both numbers of each pair are bytes
abbrev pub AreBytes : Pairs → Type 0
AreBytes [] = Unit {0}
AreBytes (p ∷ ps) = (p.0 < 256) × (p.1 < 256) × AreBytes ps

-- a pair of bytes as a number
abbrev pub pair_number : ℕ × ℕ → ℕ
pair_number p = p.0 + 256 * p.1

-- pairs as a number, the first in the lowest place
abbrev pub pairs_number : Pairs → ℕ
pairs_number [] = 0
pairs_number (p ∷ ps) = pair_number p + 65536 * pairs_number ps

-- the test of equality finds equal lists alone
pub same_pairs-is : (xs ys : Pairs) → same_pairs xs ys ≡ true → xs ≡ ys
same_pairs-is [] [] h = refl
same_pairs-is [] (y ∷ ys) h = cc
same_pairs-is (x ∷ xs) [] h = cc
same_pairs-is (x ∷ xs) (y ∷ ys) h =
    let both = and_parts (eq_of_both (on (λ p. p.0) ◌==◌) (on (λ p. p.1) ◌==◌) x y) (same_pairs xs ys) h in
    let parts = and_parts (x.0 == y.0) (x.1 == y.1) both.0 in
    let p : x.0 ≡ y.0 = eqb-true x.0 y.0 parts.0 in
    let q : x.1 ≡ y.1 = eqb-true x.1 y.1 parts.1 in
    let r : xs ≡ ys = same_pairs-is xs ys both.1 in
    let e : (x.0, x.1) ∷ xs ≡ (y.0, y.1) ∷ ys = rw (p, q, r) refl in
    e

-- the order of two pairs: the one with the lower variable comes last, since the other list has exponent 0 there; where both have
-- the same variable, their exponents decide
abbrev pub pair_cmp : ℕ × ℕ → ℕ × ℕ → Ordering
pair_cmp = then_cmp (flip_args (on (λ p. p.0) nat_cmp)) (on (λ p. p.1) nat_cmp)

-- the lexicographic order of monomials, as lists of pairs: the first pair in which they differ decides, and a list comes before a
-- longer one that begins with it
abbrev pub pairs_cmp : Pairs → Pairs → Ordering
pairs_cmp = slice_cmp pair_cmp

-- the lexicographic order of monomials is a total order
pub pairs_cmp-total : IsTotalOrder pairs_cmp
pairs_cmp-total = lists_total (then_total (back_total (on_total (λ (p : ℕ × ℕ). p.0) nat_cmp_total)) (on_total (λ (p : ℕ × ℕ). p.1) nat_cmp_total))

-- the order of a pair of numbers finds the same pair alone
is_eq-then : (a b : Ordering) → is_eq (ordering_then a b) ≡ (is_eq a && is_eq b)
is_eq-then Less b = refl
is_eq-then Equal b = refl
is_eq-then Greater b = refl

eqb-cmp : (x y : ℕ) → (x == y) ≡ is_eq (nat_cmp x y)
eqb-cmp x y = by_ranked (x < y) (x ≡ y) (y < x) (nat_cmp x y) (ranked x y (nat_cmp x y) refl)
    (λ e h. rw e (grind (arith, nat_tests))) (λ e h. rw e (grind (arith, nat_tests))) (λ e h. rw e (grind (arith, nat_tests)))

eqb-back : (x y : ℕ) → (x == y) ≡ is_eq (nat_cmp y x)
eqb-back x y = by_ranked (y < x) (y ≡ x) (x < y) (nat_cmp y x) (ranked y x (nat_cmp y x) refl)
    (λ e h. rw e (grind (arith, nat_tests))) (λ e h. rw e (grind (arith, nat_tests))) (λ e h. rw e (grind (arith, nat_tests)))

-- the order has no other ties than equal lists
pub same_pairs-ties : (xs ys : Pairs) → same_pairs xs ys ≡ is_eq (pairs_cmp xs ys)
same_pairs-ties [] [] = refl
same_pairs-ties [] (y ∷ ys) = refl
same_pairs-ties (x ∷ xs) [] = refl
same_pairs-ties (x ∷ xs) (y ∷ ys) =
    rw (
      is_eq-then (ordering_then (nat_cmp y.0 x.0) (nat_cmp x.1 y.1)) (pairs_cmp xs ys),
      is_eq-then (nat_cmp y.0 x.0)
          (nat_cmp x.1 y.1),
      ← eqb-back x.0 y.0,
      ← eqb-cmp x.1 y.1,
      ← same_pairs-ties xs ys,
    ) refl

-- the exponent of variable v; as variables rise, at most one pair adds to it
abbrev pub exponent : ℕ → Pairs → ℕ
exponent v [] = 0
exponent v (p ∷ ps) = (if eqb p.0 v then p.1 else 0) + exponent v ps

-- b has the larger exponent at the first variable in which the two differ
pub record IsBefore (a b : Pairs) : Type 0 where
  pub variable : ℕ
  pub same : (u : ℕ) → u < variable → exponent u a ≡ exponent u b
  pub less : exponent variable a < exponent variable b

-- the exponents of n variables from number v on
abbrev pub exponents_from : ℕ → ℕ → Pairs → List ℕ
exponents_from v zero ps = []
exponents_from v (suc n) ps = exponent v ps ∷ exponents_from (suc v) n ps

-- the exponent vector over n variables
abbrev pub vector : ℕ → Pairs → List ℕ
vector n ps = exponents_from 0 n ps
