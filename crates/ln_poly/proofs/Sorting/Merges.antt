-- What holds of merged terms.
use Rattle.std.proofs.Common.{◌≡◌, ◌⊎◌, inl, inr, ◌+◌, ◌≤◌, [], ◌∷◌, List, refl, sym, ◌∙◌, ap, arith, subst, Bool, true, false, if◌then◌else◌, unsigned_abs}
use Rattle.std.proofs.Math.IntN.{ℤ, pos, ◌+ℤ◌}
use Rattle.std.proofs.lemmas.Int.{ints}
use Rattle.ln_algebra.proofs.Expanded.Normal.{zero_cases}
use Rattle.ln_poly.specs.Merge.{AllKeys, AreInOrder, HaveFactors, IsMerge, both, first, left_over, neither, passing, right_over, second, weight_of}

-- what holds of each key, weaker
pub keys-weaker : {K : Type 0} (P Q : K → Type 0) (f : List (K × ℤ)) → ((k : K) → P k → Q k) → AllKeys P f → AllKeys Q f
keys-weaker P Q [] w h = tt
keys-weaker P Q (t ∷ f) w h = (w t.0 h.0, keys-weaker P Q f w h.1)

module _ {K : Type 0} (Before : K → K → Type 0) where
  -- what one term adds
  abbrev part : (K → Bool) → K × ℤ → ℤ
  part test t = if test t.0 then t.1 else pos 0

  part-sum : (test : K → Bool) (s t : K × ℤ) → s.0 ≡ t.0 → part test (s.0, s.1 +ℤ t.1) ≡ part test s +ℤ part test t
  part-sum test s t e = by_case (test s.0) (test t.0) (ap test e) where
    by_case : (a b : Bool) → a ≡ b → (if a then s.1 +ℤ t.1 else pos 0) ≡ (if a then s.1 else pos 0) +ℤ (if b then t.1 else pos 0)
    by_case true true q = refl
    by_case true false q = cc
    by_case false true q = cc
    by_case false false q = refl

  part-zero : (test : K → Bool) (s t : K × ℤ) → s.0 ≡ t.0 → s.1 +ℤ t.1 ≡ pos 0 → part test s +ℤ part test t ≡ pos 0
  part-zero test s t e z = sym (part-sum test s t e) ∙ by_case (test s.0) where
    by_case : (a : Bool) → (if a then s.1 +ℤ t.1 else pos 0) ≡ pos 0
    by_case true = z
    by_case false = refl

  -- the factors of both add up
  pub merge-passing : (test : K → Bool) (f g h : List (K × ℤ)) → IsMerge Before f g h → passing test h ≡ passing test f +ℤ passing test g
  merge-passing test _ _ _ (left_over f) = omega (arith, ints)
  merge-passing test _ _ _ (right_over g) = omega (arith, ints)
  merge-passing test _ _ _ (first s t f g h l m) = omega (arith, ints, merge-passing test f (t ∷ g) h m)
  merge-passing test _ _ _ (second s t f g h l m) = omega (arith, ints, merge-passing test (s ∷ f) g h m)
  merge-passing test _ _ _ (both s t f g h e n m) = omega (arith, ints, merge-passing test f g h m, part-sum test s t e)
  merge-passing test _ _ _ (neither s t f g h e z m) = omega (arith, ints, merge-passing test f g h m, part-zero test s t e z)

  -- the sizes add up at most
  pub merge-weight : (f g h : List (K × ℤ)) → IsMerge Before f g h → weight_of h ≤ weight_of f + weight_of g
  merge-weight _ _ _ (left_over f) = omega arith
  merge-weight _ _ _ (right_over g) = omega arith
  merge-weight _ _ _ (first s t f g h l m) = omega (arith, merge-weight f (t ∷ g) h m)
  merge-weight _ _ _ (second s t f g h l m) = omega (arith, merge-weight (s ∷ f) g h m)
  merge-weight _ _ _ (both s t f g h e n m) = omega (arith, ints, merge-weight f g h m)
  merge-weight _ _ _ (neither s t f g h e z m) = omega (arith, merge-weight f g h m)

  -- no key is new
  pub merge-keys : (P : K → Type 0) (f g h : List (K × ℤ)) → IsMerge Before f g h → AllKeys P f → AllKeys P g → AllKeys P h
  merge-keys P _ _ _ (left_over f) o p = o
  merge-keys P _ _ _ (right_over g) o p = p
  merge-keys P _ _ _ (first s t f g h l m) o p = (o.0, merge-keys P f (t ∷ g) h m o.1 p)
  merge-keys P _ _ _ (second s t f g h l m) o p = (p.0, merge-keys P (s ∷ f) g h m o p.1)
  merge-keys P _ _ _ (both s t f g h e n m) o p = (o.0, merge-keys P f g h m o.1 p.1)
  merge-keys P _ _ _ (neither s t f g h e z m) o p = merge-keys P f g h m o.1 p.1

  -- no factor is 0
  pub merge-factors : (f g h : List (K × ℤ)) → IsMerge Before f g h → HaveFactors f → HaveFactors g → HaveFactors h
  merge-factors _ _ _ (left_over f) a b = a
  merge-factors _ _ _ (right_over g) a b = b
  merge-factors _ _ _ (first s t f g h l m) a b = (a.0, merge-factors f (t ∷ g) h m a.1 b)
  merge-factors _ _ _ (second s t f g h l m) a b = (b.0, merge-factors (s ∷ f) g h m a b.1)
  merge-factors _ _ _ (both s t f g h e n m) a b = (n, merge-factors f g h m a.1 b.1)
  merge-factors _ _ _ (neither s t f g h e z m) a b = merge-factors f g h m a.1 b.1

  -- where the order is transitive, the keys are in order
  module _ (trans : (a b c : K) → Before a b → Before b c → Before a c) where
    after-lower : (a b : K) (f : List (K × ℤ)) → Before a b → AllKeys (Before b) f → AllKeys (Before a) f
    after-lower a b f l o = keys-weaker (Before b) (Before a) f (λ c k. trans a b c l k) o

    -- what is merged of two in order is in order
    pub merge-in_order : (f g h : List (K × ℤ)) → IsMerge Before f g h → AreInOrder Before f → AreInOrder Before g → AreInOrder Before h
    merge-in_order _ _ _ (left_over f) a b = a
    merge-in_order _ _ _ (right_over g) a b = b
    merge-in_order _ _ _ (first s t f g h l m) a b =
        (merge-keys (Before s.0) f (t ∷ g) h m a.0 (l, after-lower s.0 t.0 g l b.0), merge-in_order f (t ∷ g) h m a.1 b)
    merge-in_order _ _ _ (second s t f g h l m) a b =
        (merge-keys (Before t.0) (s ∷ f) g h m (l, after-lower t.0 s.0 f l a.0) b.0, merge-in_order (s ∷ f) g h m a b.1)
    merge-in_order _ _ _ (both s t f g h e n m) a b =
        (merge-keys (Before s.0) f g h m a.0 (subst (λ z. AllKeys (Before z) g) (sym e) b.0), merge-in_order f g h m a.1 b.1)
    merge-in_order _ _ _ (neither s t f g h e z m) a b = merge-in_order f g h m a.1 b.1

  -- two lists, merged
  pub record HasMerge (f g : List (K × ℤ)) : Type 0 where
    pub terms : List (K × ℤ)
    pub merge : IsMerge Before f g terms

  -- where the order is total, any two lists have a merge
  module _ (total : (a b : K) → Before a b ⊎ ((a ≡ b) ⊎ Before b a)) where
    -- the merge of s and f with g, by those of f
    merges-with : (s : K × ℤ) (f : List (K × ℤ)) → ((g : List (K × ℤ)) → HasMerge f g) → (g : List (K × ℤ)) → HasMerge (s ∷ f) g
    merges-with s f r [] = record { terms = s ∷ f; merge = left_over (s ∷ f) }
    merges-with s f r (t ∷ g) = by_order (total s.0 t.0) (merges-with s f r g) where
      by_sum : s.0 ≡ t.0 → (s.1 +ℤ t.1 ≡ pos 0) ⊎ (s.1 +ℤ t.1 ≡ pos 0 → ⊥) → HasMerge f g → HasMerge (s ∷ f) (t ∷ g)
      by_sum e (inl z) m = record { terms = m.terms; merge = neither s t f g m.terms e z m.merge }
      by_sum e (inr n) m = record { terms = (s.0, s.1 +ℤ t.1) ∷ m.terms; merge = both s t f g m.terms e n m.merge }

      by_order : Before s.0 t.0 ⊎ ((s.0 ≡ t.0) ⊎ Before t.0 s.0) → HasMerge (s ∷ f) g → HasMerge (s ∷ f) (t ∷ g)
      by_order (inl l) o = let m = r (t ∷ g) in record { terms = s ∷ m.terms; merge = first s t f g m.terms l m.merge }
      by_order (inr (inl e)) o = by_sum e (zero_cases (s.1 +ℤ t.1)) (r g)
      by_order (inr (inr l)) o = record { terms = t ∷ o.terms; merge = second s t f g o.terms l o.merge }

    -- each two lists have what they are merged to
    pub merges : (f g : List (K × ℤ)) → HasMerge f g
    merges [] g = record { terms = g; merge = right_over g }
    merges (s ∷ f) g = merges-with s f (merges f) g
