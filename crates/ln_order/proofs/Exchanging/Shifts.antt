-- Proves that neighbouring sites whose coordinates are some variables apart, with the same ranges, are of one type.
use Rattle.std.proofs.Common.{◌≡◌, ℕ, zero, suc, ◌+◌, ◌-◌, ◌<◌, ◌≤◌, refl, sym, ◌∙◌, ap, subst, arith, List, [], ◌∷◌, length, Bool, true, false, eqb}
use Rattle.std.proofs.Common.{if◌then◌else◌, Option, Some, None, option_map}
use Rattle.std.proofs.lemmas.Bool.Decides.{nat_tests}
use Rattle.ln_tree.specs.declared.shape.VarInfo.{VarInfo}
use Rattle.ln_tree.specs.Variables.{same_site}
use Rattle.ln_order.specs.Sites.{site_of}
use Rattle.ln_order.specs.Exchanged.{AreAlike, IsShift, ShiftsAreAlike, is_of_site, other_of, partner_at, range_at}

-- the test of a site
pub site-is : (o : Option ℕ) (j : ℕ) → same_site o (Some j) ≡ true → o ≡ Some j
site-is None j h = cc
site-is (Some s) j h = ap Some (grind (arith, nat_tests))

-- a site passes its own
pub site-self : (o : Option ℕ) (j : ℕ) → o ≡ Some j → same_site o (Some j) ≡ true
site-self o j e = rw e (grind (arith, nat_tests))

-- past the last variable there is no site
pub site-within : (vars : List VarInfo) (v s : ℕ) → site_of vars v ≡ Some s → v < length vars
site-within [] v s h = cc
site-within (i ∷ is) zero s h = omega arith
site-within (i ∷ is) (suc v) s h = omega (arith, site-within is v s h)

-- the other of two neighbours
pub other-first : (j : ℕ) → other_of j (suc j) j ≡ suc j
other-first j = grind (arith, nat_tests)

-- The exchange of sites j and j + 1 sends j + 1 to j.
pub other-second : (j : ℕ) → other_of j (suc j) (suc j) ≡ j
other-second j = grind (arith, nat_tests)

-- a further site
other-stays : (o : Option ℕ) (j : ℕ) → same_site o (Some j) ≡ false → same_site o (Some (suc j)) ≡ false → option_map (other_of j (suc j)) o ≡ o
other-stays None j h k = refl
other-stays (Some s) j h k = ap Some (grind (arith, nat_tests))

-- no variable is of both
pub not-both : (o : Option ℕ) (j : ℕ) → same_site o (Some (suc j)) ≡ true → same_site o (Some j) ≡ false
not-both None j h = cc
not-both (Some s) j h = grind (arith, nat_tests)

module _ (vars : List VarInfo) (j d : ℕ) (shift : IsShift vars j d) where
  abbrev P : ℕ → ℕ
  P = partner_at vars j d

  -- by the site of v
  data Kind (v : ℕ) : Type 0 where
    lower : is_of_site vars j v ≡ true → P v ≡ v + d → Kind v
    upper : is_of_site vars (suc j) v ≡ true → P v ≡ v - d → Kind v
    other : is_of_site vars j v ≡ false → is_of_site vars (suc j) v ≡ false → P v ≡ v → Kind v

  kind : (v : ℕ) → Kind v
  kind v = by_case (is_of_site vars j v) refl (is_of_site vars (suc j) v) refl where
    by_case : (b : Bool) → is_of_site vars j v ≡ b → (c : Bool) → is_of_site vars (suc j) v ≡ c → Kind v
    by_case true e c f = lower e (rw e refl)
    by_case false e true f = upper f (rw e (rw f refl))
    by_case false e false f = other e f (rw e (rw f refl))

  -- the site of the partner
  sites : (v : ℕ) → site_of vars (P v) ≡ option_map (other_of j (suc j)) (site_of vars v)
  sites v = by_kind (kind v) where
    by_kind : Kind v → site_of vars (P v) ≡ option_map (other_of j (suc j)) (site_of vars v)
    by_kind (lower e p) =
        let here : site_of vars v ≡ Some j = site-is (site_of vars v) j e in
        let there : site_of vars (v + d) ≡ Some (suc j) = site-is (site_of vars (v + d)) (suc j) (shift.up v e) in
        ap (site_of vars) p ∙ there ∙ ap Some (sym (other-first j)) ∙ sym (ap (option_map (other_of j (suc j))) here)
    by_kind (upper e p) =
        let here : site_of vars v ≡ Some (suc j) = site-is (site_of vars v) (suc j) e in
        let there : site_of vars (v - d) ≡ Some j = site-is (site_of vars (v - d)) j (shift.down v e).1 in
        ap (site_of vars) p ∙ there ∙ ap Some (sym (other-second j)) ∙ sym (ap (option_map (other_of j (suc j))) here)
    by_kind (other e f p) = ap (site_of vars) p ∙ sym (other-stays (site_of vars v) j e f)

  -- the partner's partner
  twice : (v : ℕ) → P (P v) ≡ v
  twice v = by_kind (kind v) where
    by_kind : Kind v → P (P v) ≡ v
    by_kind (lower e p) =
        let f : is_of_site vars (suc j) (v + d) ≡ true = shift.up v e in
        let g : is_of_site vars j (v + d) ≡ false = not-both (site_of vars (v + d)) j f in
        let q : P (v + d) ≡ v + d - d = rw g (rw f refl) in
        ap P p ∙ q ∙ omega arith
    by_kind (upper e p) =
        let f = shift.down v e in
        let q : P (v - d) ≡ v - d + d = rw f.1 refl in
        ap P p ∙ q ∙ omega (arith, f.0)
    by_kind (other e f p) = ap P p ∙ p

  -- the partner is there
  within : (v : ℕ) → v < length vars → P v < length vars
  within v h = by_kind (kind v) where
    by_kind : Kind v → P v < length vars
    by_kind (lower e p) =
        let there : site_of vars (v + d) ≡ Some (suc j) = site-is (site_of vars (v + d)) (suc j) (shift.up v e) in
        omega (arith, p, site-within vars (v + d) (suc j) there)
    by_kind (upper e p) = omega (arith, p, h)
    by_kind (other e f p) = omega (arith, p, h)

  -- a param is its own partner
  params : (v : ℕ) → site_of vars v ≡ None → P v ≡ v
  params v n = by_kind (kind v) where
    by_kind : Kind v → P v ≡ v
    by_kind (lower e p) = absurd (let z : None ≡ Some j = sym n ∙ site-is (site_of vars v) j e in cc)
    by_kind (upper e p) = absurd (let z : None ≡ Some (suc j) = sym n ∙ site-is (site_of vars v) (suc j) e in cc)
    by_kind (other e f p) = p

  -- the partner has the same range
  ranges : (v : ℕ) → range_at vars (P v) ≡ range_at vars v
  ranges v = by_kind (kind v) where
    by_kind : Kind v → range_at vars (P v) ≡ range_at vars v
    by_kind (lower e p) = ap (range_at vars) p ∙ shift.ranges v e
    by_kind (upper e p) =
        let f = shift.down v e in
        let q : v - d + d ≡ v = omega (arith, f.0) in
        ap (range_at vars) p ∙ sym (shift.ranges (v - d) f.1) ∙ ap (range_at vars) q
    by_kind (other e f p) = ap (range_at vars) p

  -- coordinates keep their order
  declared : (v w s : ℕ) → site_of vars v ≡ Some s → site_of vars w ≡ Some s → v < w → P v < P w
  declared v w s a b l = by_kind (kind v) where
    same : (t : ℕ) → is_of_site vars t w ≡ is_of_site vars t v
    same t = ap (λ o. same_site o (Some t)) (b ∙ sym a)

    by_kind : Kind v → P v < P w
    by_kind (lower e p) =
        let f : is_of_site vars j w ≡ true = same j ∙ e in
        let q : P w ≡ w + d = rw f refl in
        omega (arith, p, q, l)
    by_kind (upper e p) =
        let f : is_of_site vars (suc j) w ≡ true = same (suc j) ∙ e in
        let g : is_of_site vars j w ≡ false = not-both (site_of vars w) j f in
        let q : P w ≡ w - d = rw g (rw f refl) in
        omega (arith, p, q, l, (shift.down v e).0)
    by_kind (other e f p) =
        let g : is_of_site vars j w ≡ false = same j ∙ e in
        let h : is_of_site vars (suc j) w ≡ false = same (suc j) ∙ f in
        let q : P w ≡ w = rw g (rw h refl) in
        omega (arith, p, q, l)

-- neighbours are alike
pub shifts-alike : ShiftsAreAlike
shifts-alike vars j d shift = record {
  within = within vars j d shift;
  twice = twice vars j d shift;
  sites = sites vars j d shift;
  params = params vars j d shift;
  declared = declared vars j d shift;
  ranges = ranges vars j d shift;
}
