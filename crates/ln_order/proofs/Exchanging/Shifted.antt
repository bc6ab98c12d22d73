-- Proves that the coordinates of neighbouring sites of one type are as many variables apart as their first ones.
use Rattle.std.proofs.Common.{◌≡◌, ◌⊎◌, inl, inr, ℕ, zero, suc, ◌+◌, ◌-◌, ◌<◌, ◌≤◌, eqb, Bool, true, false, List, length, refl, sym, ◌∙◌, ap, subst, arith}
use Rattle.std.proofs.Common.{Option, Some, None, option_map, if◌then◌else◌}
use Rattle.std.proofs.lemmas.Bool.{cases_order}
use Rattle.std.proofs.lemmas.Bool.Decides.{nat_tests}
use Rattle.ln_tree.specs.declared.shape.VarInfo.{VarInfo}
use Rattle.ln_tree.specs.Variables.{is_laid_out, same_site}
use Rattle.ln_order.specs.Exchanged.{AlikeAreShifted, AreAlike, AreShifted, IsShift, first_of_site, is_of_site, other_of, partner_at, range_at, shift_of}
use Rattle.ln_order.specs.Sites.{site_of}
use Rattle.ln_order.proofs.Exchanging.Layout.{first-least, first-there, site-joins, sites-ordered}
use Rattle.ln_order.proofs.Exchanging.Shifts.{not-both, other-first, other-second, site-is, site-self}

-- a site that is neither of two stays
other-third : (j s : ℕ) → (s ≡ j → ⊥) → (s ≡ suc j → ⊥) → other_of j (suc j) s ≡ s
other-third j s a b = by_case (eqb s j) refl (eqb s (suc j)) refl where
  by_case : (x : Bool) → eqb s j ≡ x → (y : Bool) → eqb s (suc j) ≡ y → other_of j (suc j) s ≡ s
  by_case true e y f = absurd (a (grind (arith, nat_tests)))
  by_case false e true f = absurd (b (grind (arith, nat_tests)))
  by_case false e false f = rw (e, f) refl

module _ (sites : ℕ) (vars : List VarInfo) (j : ℕ) (P : ℕ → ℕ) (laid : is_laid_out sites vars ≡ true) (alike : AreAlike vars j (suc j) P) where
  -- the partner's site
  site-there : (v s t : ℕ) → other_of j (suc j) s ≡ t → site_of vars v ≡ Some s → site_of vars (P v) ≡ Some t
  site-there v s t o e = alike.sites v ∙ ap (option_map (other_of j (suc j))) e ∙ ap Some o

  -- a partner is as far from the first variable of its site, or farther
  reaches : (s t : ℕ) → other_of j (suc j) s ≡ t → (v : ℕ) → site_of vars v ≡ Some s → first_of_site vars t + v ≤ P v + first_of_site vars s
  reaches s t o zero e =
      let a : first_of_site vars t ≤ P 0 = first-least vars (P 0) t (site-there 0 s t o e) in
      omega (arith, a)
  reaches s t o (suc v) e = by_case (site-joins sites vars v s laid e) (reaches s t o v) where
    by_case : (site_of vars v ≡ Some s) ⊎ ((w : ℕ) → site_of vars w ≡ Some s → suc v ≤ w)
        → (site_of vars v ≡ Some s → first_of_site vars t + v ≤ P v + first_of_site vars s)
        → first_of_site vars t + suc v ≤ P (suc v) + first_of_site vars s
    by_case (inl f) ih =
        let l : P v < P (suc v) = alike.declared v (suc v) s f e (omega arith) in
        omega (arith, ih f, l)
    by_case (inr f) ih =
        let a : first_of_site vars t ≤ P (suc v) = first-least vars (P (suc v)) t (site-there (suc v) s t o e) in
        let b : suc v ≤ first_of_site vars s = f (first_of_site vars s) (first-there vars (suc v) s e) in
        omega (arith, a, b)

  -- so it is as far
  up-by : (v : ℕ) → site_of vars v ≡ Some j → P v ≡ v + shift_of vars j
  up-by v e =
      let there : site_of vars (P v) ≡ Some (suc j) = site-there v j (suc j) (other-first j) e in
      let a = reaches j (suc j) (other-first j) v e in
      let b = reaches (suc j) j (other-second j) (P v) there in
      let l : first_of_site vars j < first_of_site vars (suc j) =
      sites-ordered sites vars (first_of_site vars j) (first_of_site vars (suc j)) j (suc j) laid (first-there vars v j e)
      (first-there vars (P v) (suc j) there) (omega arith) in
      omega (arith, a, b, l, alike.twice v)

  down-by : (v : ℕ) → site_of vars v ≡ Some (suc j) → P v + shift_of vars j ≡ v
  down-by v e =
      let there : site_of vars (P v) ≡ Some j = site-there v (suc j) j (other-second j) e in
      omega (arith, up-by (P v) there, alike.twice v)

  is-shift : IsShift vars j (shift_of vars j)
  is-shift = record {
    up = λ v e.
        let here : site_of vars v ≡ Some j = site-is (site_of vars v) j e in
        let there : site_of vars (P v) ≡ Some (suc j) = site-there v j (suc j) (other-first j) here in
        site-self (site_of vars (v + shift_of vars j)) (suc j) (ap (site_of vars) (sym (up-by v here)) ∙ there);
    down = λ v e.
        let here : site_of vars v ≡ Some (suc j) = site-is (site_of vars v) (suc j) e in
        let there : site_of vars (P v) ≡ Some j = site-there v (suc j) j (other-second j) here in
        let q : v - shift_of vars j ≡ P v = omega (arith, down-by v here) in
        (omega (arith, down-by v here), site-self (site_of vars (v - shift_of vars j)) j (ap (site_of vars) q ∙ there));
    ranges = λ v e.
        let here : site_of vars v ≡ Some j = site-is (site_of vars v) j e in
        ap (range_at vars) (sym (up-by v here)) ∙ alike.ranges v;
  }

  -- a further variable is its own partner
  stays-at : (v s : ℕ) → site_of vars v ≡ Some s → other_of j (suc j) s ≡ s → P v ≡ v
  stays-at v s e o = by_order (cases_order (P v) v) where
    there : site_of vars (P v) ≡ Some s
    there = site-there v s s o e

    by_order : (P v ≡ v) ⊎ ((P v < v) ⊎ (v < P v)) → P v ≡ v
    by_order (inl q) = q
    by_order (inr (inl l)) = absurd (omega (arith, l, alike.declared (P v) v s there e l, alike.twice v))
    by_order (inr (inr l)) = absurd (omega (arith, l, alike.declared v (P v) s e there l, alike.twice v))

  partner-is : (v : ℕ) → P v ≡ partner_at vars j (shift_of vars j) v
  partner-is v = by_case (is_of_site vars j v) refl (is_of_site vars (suc j) v) refl (site_of vars v) refl where
    by_case : (b : Bool) → is_of_site vars j v ≡ b → (c : Bool) → is_of_site vars (suc j) v ≡ c → (o : Option ℕ) → site_of vars v ≡ o
        → P v ≡ partner_at vars j (shift_of vars j) v
    by_case true e c f o q = rw e (up-by v (site-is (site_of vars v) j e))
    by_case false e true f o q = rw e (rw f (let q : P v ≡ v - shift_of vars j = omega (arith, down-by v (site-is (site_of vars v) (suc j) f)) in q))
    by_case false e false f None q = rw e (rw f (alike.params v q))
    by_case false e false f (Some s) q =
        rw e (rw f (stays-at v s q (other-third j s
        (λ r. let z : false ≡ true = sym e ∙ site-self (site_of vars v) j (q ∙ ap Some r) in cc)
        (λ r. let z : false ≡ true = sym f ∙ site-self (site_of vars v) (suc j) (q ∙ ap Some r) in cc))))

-- The partner of sites of one type is the variable that is their distance away.
pub alike-shifted : AlikeAreShifted
alike-shifted sites vars j partner laid within alike = record {
  shift = is-shift sites vars j partner laid alike;
  partners = partner-is sites vars j partner laid alike;
}
