-- The two orders are orders of infinitesimals; what follows for any such order.
use Rattle.std.proofs.Common.{◌≡◌, ℕ, ◌+◌, ◌<◌, zero, suc, refl, sym, ◌∙◌, ap, arith, List, [], ◌∷◌, length, get_or, ◌⊎◌, inl, inr}
use Rattle.std.proofs.lemmas.Bool.{cases_order}
use Rattle.ln_algebra.proofs.Expanded.Expansion.{length-zeros}
use Rattle.ln_algebra.proofs.Ordering.Order.{earlier-irreflexive, earlier-total, earlier-transitive}
use Rattle.ln_algebra.proofs.Walking.Stages.{zeros-get}
use Rattle.ln_algebra.specs.Earlier.{Earlier, IndicesDiffer, IsOver, Sites}
use Rattle.ln_algebra.specs.Vector.{plus, total_degree, zeros}
use Rattle.ln_algebra.specs.Orders.{Before, ByDegree, BySmallest, GradedEarlier, IsAdmissible, Rank}
use Rattle.ln_algebra.proofs.Expanded.Degree.{degree-plus}

-- ---- total degrees
-- that of the vector of zeros
pub degree-zeros : (n : ℕ) → total_degree (zeros n) ≡ 0
degree-zeros zero = refl
degree-zeros (suc n) = omega (arith, degree-zeros n)

-- ---- sums
-- the exponent of a sum is the sum of the exponents
pub get_or-plus : (a c : List ℕ) (v : ℕ) → length a ≡ length c → get_or (plus a c) v 0 ≡ get_or a v 0 + get_or c v 0
get_or-plus [] [] v e = refl
get_or-plus [] (k ∷ c) v e = absurd (omega arith)
get_or-plus (n ∷ a) [] v e = absurd (omega arith)
get_or-plus (n ∷ a) (k ∷ c) zero e = refl
get_or-plus (n ∷ a) (k ∷ c) (suc v) e = get_or-plus a c v (omega arith)

-- the order is kept where one vector is added to both sides
pub earlier-plus : (sites : Sites) (a b c : List ℕ) → length a ≡ length c → length b ≡ length c → Earlier sites a b → Earlier sites (plus a c) (plus b c)
earlier-plus sites a b c i j (v, s, o, l, h) = (
  v,
  s,
  o,
  omega (arith, l, get_or-plus a c v i, get_or-plus b c v j),
  λ w r. get_or-plus a c w i ∙ ap (λ z. z + get_or c w 0) (h w r) ∙ sym (get_or-plus b c w j),
)

-- the vector of zeros is the earliest
pub zeros-earliest : (n : ℕ) (sites : Sites) → IndicesDiffer sites → (a : List ℕ) → IsOver n sites a → (a ≡ zeros n) ⊎ Earlier sites (zeros n) a
zeros-earliest n sites d a o = by_case (earlier-total sites d n a (zeros n) o (record { size = length-zeros n; of_sites = λ v h. zeros-get n v })) where
  by_case : (a ≡ zeros n) ⊎ (Earlier sites a (zeros n) ⊎ Earlier sites (zeros n) a) → (a ≡ zeros n) ⊎ Earlier sites (zeros n) a
  by_case (inl e) = inl e
  by_case (inr (inl l)) = absurd (omega (arith, l.3, zeros-get n l.0))
  by_case (inr (inr l)) = inr l

-- ---- the two orders
-- the one by the smallest infinitesimal
pub earlier-admissible : (n : ℕ) (sites : Sites) → IndicesDiffer sites → IsAdmissible n sites (Earlier sites)
earlier-admissible n sites d = record {
  irreflexive = earlier-irreflexive sites;
  transitive = earlier-transitive sites d;
  total = earlier-total sites d n;
  zero_first = zeros-earliest n sites d;
  sums = earlier-plus sites;
}

module _ (n : ℕ) (sites : Sites) (d : IndicesDiffer sites) where
  -- what is before by total degree goes on
  graded-transitive : (a b c : List ℕ) → GradedEarlier sites a b → GradedEarlier sites b c → GradedEarlier sites a c
  graded-transitive a b c (inl l) (inl k) = inl (omega (arith, l, k))
  graded-transitive a b c (inl l) (inr k) = inl (omega (arith, l, k.0))
  graded-transitive a b c (inr l) (inl k) = inl (omega (arith, l.0, k))
  graded-transitive a b c (inr l) (inr k) = inr (l.0 ∙ k.0, earlier-transitive sites d a b c l.1 k.1)

  -- of two vectors that differ one is before by total degree
  graded-total : (a b : List ℕ) → IsOver n sites a → IsOver n sites b → (a ≡ b) ⊎ (GradedEarlier sites a b ⊎ GradedEarlier sites b a)
  graded-total a b o p = by_degree (cases_order (total_degree a) (total_degree b)) where
    by_order : total_degree a ≡ total_degree b → (a ≡ b) ⊎ (Earlier sites a b ⊎ Earlier sites b a)
        → (a ≡ b) ⊎ (GradedEarlier sites a b ⊎ GradedEarlier sites b a)
    by_order e (inl q) = inl q
    by_order e (inr (inl l)) = inr (inl (inr (e, l)))
    by_order e (inr (inr l)) = inr (inr (inr (sym e, l)))

    by_degree : (total_degree a ≡ total_degree b) ⊎ ((total_degree a < total_degree b) ⊎ (total_degree b < total_degree a))
        → (a ≡ b) ⊎ (GradedEarlier sites a b ⊎ GradedEarlier sites b a)
    by_degree (inl e) = by_order e (earlier-total sites d n a b o p)
    by_degree (inr (inl l)) = inr (inl (inl l))
    by_degree (inr (inr l)) = inr (inr (inl l))

  -- the vector of zeros is the first by total degree
  graded-zero : (a : List ℕ) → IsOver n sites a → (a ≡ zeros n) ⊎ GradedEarlier sites (zeros n) a
  graded-zero a o = by_case (zeros-earliest n sites d a o) (cases_order 0 (total_degree a)) where
    by_case : (a ≡ zeros n) ⊎ Earlier sites (zeros n) a → (0 ≡ total_degree a) ⊎ ((0 < total_degree a) ⊎ (total_degree a < 0))
        → (a ≡ zeros n) ⊎ GradedEarlier sites (zeros n) a
    by_case (inl q) c = inl q
    by_case (inr l) (inl e) = inr (inr (degree-zeros n ∙ e, l))
    by_case (inr l) (inr (inl k)) = inr (inl (omega (arith, degree-zeros n, k)))
    by_case (inr l) (inr (inr k)) = absurd (omega (arith, k))

  -- the order by total degree is kept by sums
  graded-sums : (a b c : List ℕ) → length a ≡ length c → length b ≡ length c → GradedEarlier sites a b → GradedEarlier sites (plus a c) (plus b c)
  graded-sums a b c i j (inl l) = inl (omega (arith, l, degree-plus a c i, degree-plus b c j))
  graded-sums a b c i j (inr l) = inr (degree-plus a c i ∙ ap (λ z. z + total_degree c) l.0 ∙ sym (degree-plus b c j), earlier-plus sites a b c i j l.1)

  -- the one by total degree
  pub graded-admissible : IsAdmissible n sites (GradedEarlier sites)
  graded-admissible = record {
    irreflexive = λ a h. elim h [ inl l ↦ absurd (omega (arith, l)) | inr l ↦ earlier-irreflexive sites a l.1 ];
    transitive = graded-transitive;
    total = graded-total;
    zero_first = graded-zero;
    sums = graded-sums;
  }

-- the order of either name
pub both-admissible : (rank : Rank) (n : ℕ) (sites : Sites) → IndicesDiffer sites → IsAdmissible n sites (Before rank sites)
both-admissible BySmallest n sites d = earlier-admissible n sites d
both-admissible ByDegree n sites d = graded-admissible n sites d

-- ---- any such order
module _ (n : ℕ) (sites : Sites) (before : List ℕ → List ℕ → Type 0) (order : IsAdmissible n sites before) where
  -- of two vectors only one is before the other
  pub asymmetric : (a b : List ℕ) → before a b → before b a → ⊥
  asymmetric a b l r = order.irreflexive a (order.transitive a b a l r)

  -- what is kept by sums is kept by differences
  pub cancels : (a b c : List ℕ) → IsOver n sites a → IsOver n sites b → length c ≡ n → before (plus a c) (plus b c) → before a b
  cancels a b c o p e l = by_case (order.total a b o p) where
    by_case : (a ≡ b) ⊎ (before a b ⊎ before b a) → before a b
    by_case (inl q) = absurd (order.irreflexive (plus b c) (let h : plus a c ≡ plus b c = ap (λ z. plus z c) q in rw h at l))
    by_case (inr (inl k)) = k
    by_case (inr (inr k)) = absurd (asymmetric (plus a c) (plus b c) l (order.sums b a c (p.size ∙ sym e) (o.size ∙ sym e) k))
