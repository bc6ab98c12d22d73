-- Proves that the terms of a polynomial show whether an exchange multiplies it by 1 or -1.
use Rattle.std.proofs.Common.{◌≡◌, ℕ, refl, sym, ◌∙◌, ap, arith, List, [], ◌∷◌, length, Bool, true, false, ◌⊎◌, inl, inr, All}
use Rattle.std.proofs.lemmas.Int.{ints}
use Rattle.std.proofs.lemmas.List.Elements.{All-head, All-tail}
use Rattle.std.proofs.Math.IntN.{ℤ, pos, negsuc, ◌*ℤ◌}
use Rattle.ln_algebra.proofs.Expanded.Normal.{same_vector-is}
use Rattle.ln_algebra.specs.Terms.{IsCollected, Lacks, Term, factor_at, same_vector}
use Rattle.ln_algebra.specs.Exchange.{TermsTurn, exchanged}
use Rattle.ln_algebra.proofs.Exchanging.Vectors.{exchanged-twice, length-exchanged}

-- where no term has the exponents, the coefficient is 0
pub lacks-zero : (f : List Term) (m : List ℕ) → Lacks f m → factor_at f m ≡ pos 0
lacks-zero [] m l = refl
lacks-zero (t ∷ f) m l = rw l.0 (omega (arith, ints, lacks-zero f m l.1))

-- a term with exponents m, whose factor is the coefficient and which passes P; or none has them
pub data Found (P : Term → Type 0) (f : List Term) (m : List ℕ) : Type 0 where
  found : (t : Term) → t.exponents ≡ m → factor_at f m ≡ t.factor → P t → Found P f m
  lacking : Lacks f m → Found P f m

-- looked for along the list
pub find : (P : Term → Type 0) (f : List Term) (m : List ℕ) → IsCollected f → All P f → Found P f m
find P [] m c a = lacking tt
find P (t ∷ f) m c a = by_case (find P f m c.1 (All-tail P t f a)) (same_vector t.exponents m) refl where
  here : P t
  here = All-head P t f a

  by_case : Found P f m → (b : Bool) → same_vector t.exponents m ≡ b → Found P (t ∷ f) m
  by_case r true e =
      let q : t.exponents ≡ m = same_vector-is t.exponents m e in
      let z : factor_at f t.exponents ≡ pos 0 = lacks-zero f t.exponents c.0 in
      let y : factor_at f m ≡ pos 0 = ap (factor_at f) (sym q) ∙ z in
      found t q (rw e (omega (arith, ints, y))) here
  by_case (found u q k p) false e = found u q (rw e (omega (arith, ints, k))) p
  by_case (lacking l) false e = lacking (e, l)

-- 1 or -1 times a number that is 0
zero-back : (s z : ℤ) → (s ≡ pos 1) ⊎ (s ≡ negsuc 0) → pos 0 ≡ s *ℤ z → z ≡ pos 0
zero-back s z (inl q) h = let k : pos 0 ≡ pos 1 *ℤ z = rw q at h in omega (arith, ints, k)
zero-back s z (inr q) h = let k : pos 0 ≡ negsuc 0 *ℤ z = rw q at h in omega (arith, ints, k)

-- times 0
times-zero : (s z : ℤ) → (s ≡ pos 1) ⊎ (s ≡ negsuc 0) → z ≡ pos 0 → pos 0 ≡ s *ℤ z
times-zero s z (inl q) h = rw (q, h) (omega (arith, ints))
times-zero s z (inr q) h = rw (q, h) (omega (arith, ints))

-- the test of each term is enough
pub terms-turn : TermsTurn
terms-turn n partner s e f within twice turn normal c each = record {
  turn = turn;
  each = λ m l.
      sym (normal.coefficients (exchanged partner m) (length-exchanged n partner within twice m ∙ l))
      ∙ by_term m l (find P f m c each) (find P f (exchanged partner m) c each)
      ∙ ap (λ z. s *ℤ z) (normal.coefficients m l);
} where
  P : Term → Type 0
  P t = factor_at f (exchanged partner t.exponents) ≡ s *ℤ t.factor

  by_term : (m : List ℕ) → length m ≡ n → Found P f m → Found P f (exchanged partner m) → factor_at f (exchanged partner m) ≡ s *ℤ factor_at f m
  by_term m l (found t q k p) r =
      ap (λ z. factor_at f (exchanged partner z)) (sym q) ∙ p ∙ ap (λ z. s *ℤ z) (sym k)
  by_term m l (lacking h) (lacking i) =
      lacks-zero f (exchanged partner m) i ∙ times-zero s (factor_at f m) turn (lacks-zero f m h)
  by_term m l (lacking h) (found u q k p) =
      let back : exchanged partner u.exponents ≡ m = ap (exchanged partner) q ∙ exchanged-twice n partner within twice m l in
      let none : factor_at f m ≡ pos 0 = lacks-zero f m h in
      let zero : pos 0 ≡ s *ℤ u.factor = sym none ∙ ap (factor_at f) (sym back) ∙ p in
      k ∙ zero-back s u.factor turn zero ∙ times-zero s (factor_at f m) turn none
