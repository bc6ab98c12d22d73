-- Earlier is a total order.
use Rattle.std.proofs.Common.{◌≡◌, ◌≢◌, ℕ, ◌<◌, ◌≤◌, zero, suc, refl, sym, ◌∙◌, ap, arith, List, get_or, Option, Some, None, ◌⊎◌, inl, inr}
use Rattle.std.proofs.lemmas.Bool.{cases_order, cases_eq, cases_lt}
use Rattle.std.proofs.lemmas.Grind.{same_number_lists}
use Rattle.std.proofs.lemmas.List.{get_or_past}
use Rattle.ln_algebra.specs.Earlier.{Sites, Of, IndicesDiffer, IsOver, RanksBefore, Earlier}

-- a variable has one site
same_site : (sites : Sites) (v s t : ℕ) → Of sites v s → Of sites v t → s ≡ t
same_site sites v s t a b = let e : Some s ≡ Some t = sym a ∙ b in cc

-- no variable ranks before itself
pub before-irreflexive : (sites : Sites) (v : ℕ) → RanksBefore sites v v → ⊥
before-irreflexive sites v (s, t, a, b, inl l) =
    let e : s ≡ t = same_site sites v s t a b in
    let f : sites.index s ≡ sites.index t = ap (λ z. sites.index z) e in
    omega arith
before-irreflexive sites v (s, t, a, b, inr l) = omega (arith, l.1)

-- ranks go on
pub before-transitive : (sites : Sites) (u v w : ℕ) → RanksBefore sites u v → RanksBefore sites v w → RanksBefore sites u w
before-transitive sites u v w (r, s, a, b, h) (s', t, c, d, k) = (r, t, a, d, join h k) where
  e : s ≡ s'
  e = same_site sites v s s' b c

  f : sites.index s ≡ sites.index s'
  f = ap (λ z. sites.index z) e

  join : (sites.index r < sites.index s) ⊎ ((r ≡ s) × (v < u)) → (sites.index s' < sites.index t) ⊎ ((s' ≡ t) × (w < v))
      → (sites.index r < sites.index t) ⊎ ((r ≡ t) × (w < u))
  join (inl x) (inl y) = inl (omega (arith, f))
  join (inl x) (inr y) = inl (omega (arith, f, ap (λ z. sites.index z) y.0))
  join (inr x) (inl y) = inl (omega (arith, f, ap (λ z. sites.index z) x.0))
  join (inr x) (inr y) = inr (x.0 ∙ e ∙ y.0, omega (arith, x.1, y.1))

-- of two variables of sites one ranks before the other
before-total : (sites : Sites) → IndicesDiffer sites → (v w s t : ℕ) → Of sites v s → Of sites w t → (v ≡ w) ⊎ (RanksBefore sites v w ⊎ RanksBefore sites w v)
before-total sites d v w s t a b = by_index (cases_order (sites.index s) (sites.index t)) where
  by_number : s ≡ t → (v ≡ w) ⊎ ((v < w) ⊎ (w < v)) → (v ≡ w) ⊎ (RanksBefore sites v w ⊎ RanksBefore sites w v)
  by_number e (inl q) = inl q
  by_number e (inr (inl l)) = inr (inr (t, s, b, a, inr (sym e, l)))
  by_number e (inr (inr l)) = inr (inl (s, t, a, b, inr (e, l)))

  by_index : (sites.index s ≡ sites.index t) ⊎ ((sites.index s < sites.index t) ⊎ (sites.index t < sites.index s))
      → (v ≡ w) ⊎ (RanksBefore sites v w ⊎ RanksBefore sites w v)
  by_index (inl e) = by_number (d.differ v w s t a b e) (cases_order v w)
  by_index (inr (inl l)) = inr (inl (s, t, a, b, inl l))
  by_index (inr (inr l)) = inr (inr (t, s, b, a, inl l))

-- no vector is earlier than itself
pub earlier-irreflexive : (sites : Sites) (a : List ℕ) → Earlier sites a a → ⊥
earlier-irreflexive sites a h = omega (arith, h.3)

-- what is earlier than an earlier vector is earlier
pub earlier-transitive : (sites : Sites) → IndicesDiffer sites → (a b c : List ℕ) → Earlier sites a b → Earlier sites b c → Earlier sites a c
earlier-transitive sites d a b c (v, s, o, l, h) (w, t, q, m, k) = by_rank (before-total sites d v w s t o q) where
  by_rank : (v ≡ w) ⊎ (RanksBefore sites v w ⊎ RanksBefore sites w v) → Earlier sites a c
  by_rank (inl e) =
      let f : get_or b v 0 < get_or c v 0 = rw e m in
      (v, s, o, (omega arith), λ u r. h u r ∙ k u (rw e at r))
  by_rank (inr (inl r)) = (w, t, q, (omega (arith, h w r)), λ u z. h u (before-transitive sites v w u r z) ∙ k u z)
  by_rank (inr (inr r)) = (v, s, o, (omega (arith, k v r)), λ u z. h u z ∙ k u (before-transitive sites w v u r z))

-- of two vectors only one is earlier
pub earlier-asymmetric : (sites : Sites) → IndicesDiffer sites → (a b : List ℕ) → Earlier sites a b → Earlier sites b a → ⊥
earlier-asymmetric sites d a b l r = earlier-irreflexive sites a (earlier-transitive sites d a b a l r)

-- ---- any two vectors compare
-- the first k exponents are equal
abbrev AllSame : List ℕ → List ℕ → ℕ → Type 0
AllSame a b k = (v : ℕ) → v < k → get_or a v 0 ≡ get_or b v 0

record LastDifferent (sites : Sites) (a b : List ℕ) (k : ℕ) : Type 0 where
  variable : ℕ
  site : ℕ
  of : Of sites variable site
  differ : get_or a variable 0 ≢ get_or b variable 0
  after : (w : ℕ) → w < k → RanksBefore sites variable w → get_or a w 0 ≡ get_or b w 0

-- the first k exponents are equal, or one of them is the last ranking that differs
abbrev Found : Sites → List ℕ → List ℕ → ℕ → Type 0
Found sites a b k = AllSame a b k ⊎ LastDifferent sites a b k

-- below one more, or the last
pub below_suc : (k w : ℕ) → w < suc k → (w < k) ⊎ (w ≡ k)
below_suc k w l = elim (cases_order w k) [ inl e ↦ inr e | inr q ↦ elim q [ inl m ↦ inl m | inr m ↦ absurd (omega arith) ] ]

module _ (sites : Sites) (distinct : IndicesDiffer sites) (n : ℕ) (a b : List ℕ) (over_a : IsOver n sites a) (over_b : IsOver n sites b) where
  -- variable k does not differ
  found_same : (k : ℕ) → get_or a k 0 ≡ get_or b k 0 → Found sites a b k → Found sites a b (suc k)
  found_same k e (inl same) = inl (λ v l. by_case v (below_suc k v l)) where
    by_case : (v : ℕ) → (v < k) ⊎ (v ≡ k) → get_or a v 0 ≡ get_or b v 0
    by_case v (inl m) = same v m
    by_case v (inr q) = rw q e
  found_same k e (inr last) =
      inr (record { variable = last.variable; site = last.site; of = last.of; differ = last.differ; after = λ w l. by_case w (below_suc k w l) })
    where
      by_case : (w : ℕ) → (w < k) ⊎ (w ≡ k) → RanksBefore sites last.variable w → get_or a w 0 ≡ get_or b w 0
      by_case w (inl m) r = last.after w m r
      by_case w (inr q) r = rw q e

  -- variable k differs
  found_differ : (k s : ℕ) → Of sites k s → get_or a k 0 ≢ get_or b k 0 → Found sites a b k → LastDifferent sites a b (suc k)
  found_differ k s o d (inl same) = record { variable = k; site = s; of = o; differ = d; after = λ w l. by_case w (below_suc k w l) } where
    by_case : (w : ℕ) → (w < k) ⊎ (w ≡ k) → RanksBefore sites k w → get_or a w 0 ≡ get_or b w 0
    by_case w (inl m) r = same w m
    by_case w (inr q) r = absurd (before-irreflexive sites k (rw q at r))
  found_differ k s o d (inr last) = by_rank (before-total sites distinct last.variable k last.site s last.of o) where
    here : RanksBefore sites last.variable k → (w : ℕ) → (w < k) ⊎ (w ≡ k) → RanksBefore sites k w → get_or a w 0 ≡ get_or b w 0
    here f w (inl m) r = last.after w m (before-transitive sites last.variable k w f r)
    here f w (inr q) r = absurd (before-irreflexive sites k (rw q at r))

    there : RanksBefore sites k last.variable → (w : ℕ) → (w < k) ⊎ (w ≡ k) → RanksBefore sites last.variable w → get_or a w 0 ≡ get_or b w 0
    there f w (inl m) r = last.after w m r
    there f w (inr q) r = absurd (before-irreflexive sites k (before-transitive sites k last.variable k f (rw q at r)))

    equal : last.variable ≡ k → (w : ℕ) → (w < k) ⊎ (w ≡ k) → RanksBefore sites last.variable w → get_or a w 0 ≡ get_or b w 0
    equal f w (inl m) r = last.after w m r
    equal f w (inr q) r = absurd (before-irreflexive sites k (rw f at (rw q at r)))

    by_rank : (last.variable ≡ k) ⊎ (RanksBefore sites last.variable k ⊎ RanksBefore sites k last.variable) → LastDifferent sites a b (suc k)
    by_rank (inl f) = record { variable = last.variable; site = last.site; of = last.of; differ = last.differ; after = λ w l. equal f w (below_suc k w l) }
    by_rank (inr (inl f)) = record { variable = k; site = s; of = o; differ = d; after = λ w l. here f w (below_suc k w l) }
    by_rank (inr (inr f)) =
        record { variable = last.variable; site = last.site; of = last.of; differ = last.differ; after = λ w l. there f w (below_suc k w l) }

  -- one variable more
  found_step : (k : ℕ) → Found sites a b k → Found sites a b (suc k)
  found_step k f = by_site (sites.site k) refl (cases_eq (get_or a k 0) (get_or b k 0)) where
    by_site : (o : Option ℕ) → sites.site k ≡ o → (get_or a k 0 ≡ get_or b k 0) ⊎ (get_or a k 0 ≡ get_or b k 0 → ⊥) → Found sites a b (suc k)
    by_site o q (inl e) = found_same k e f
    by_site None q (inr d) = absurd (d (over_a.of_sites k q ∙ sym (over_b.of_sites k q)))
    by_site (Some s) q (inr d) = inr (found_differ k s q d f)

  -- all variables
  found : (k : ℕ) → Found sites a b k
  found zero = inl (λ v l. absurd (omega arith))
  found (suc k) = found_step k (found k)

  -- of two vectors that differ one is earlier
  pub earlier-total : (a ≡ b) ⊎ (Earlier sites a b ⊎ Earlier sites b a)
  earlier-total = decide (found n) where
    past : (w : ℕ) → n ≤ w → get_or a w 0 ≡ get_or b w 0
    past w l = get_or_past a w 0 (omega (arith, over_a.size)) ∙ sym (get_or_past b w 0 (omega (arith, over_b.size)))

    decide : Found sites a b n → (a ≡ b) ⊎ (Earlier sites a b ⊎ Earlier sites b a)
    decide (inl same) = inl (same_number_lists a b (over_a.size ∙ sym over_b.size) (λ k l. same k (omega (arith, over_a.size))))
    decide (inr last) = inr (by_size (cases_order (get_or a last.variable 0) (get_or b last.variable 0))) where
      by_place : (w : ℕ) → (w < n) ⊎ (n ≤ w) → RanksBefore sites last.variable w → get_or a w 0 ≡ get_or b w 0
      by_place w (inl l) r = last.after w l r
      by_place w (inr l) r = past w l

      by_size : (get_or a last.variable 0 ≡ get_or b last.variable 0)
          ⊎ ((get_or a last.variable 0 < get_or b last.variable 0) ⊎ (get_or b last.variable 0 < get_or a last.variable 0))
          → Earlier sites a b ⊎ Earlier sites b a
      by_size (inl e) = absurd (last.differ e)
      by_size (inr (inl l)) = inl (last.variable, last.site, last.of, l, λ w r. by_place w (cases_lt w n) r)
      by_size (inr (inr l)) = inr (last.variable, last.site, last.of, l, λ w r. sym (by_place w (cases_lt w n) r))
