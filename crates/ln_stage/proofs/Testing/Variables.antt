-- Proves what is tested of the variables of two neighbouring sites.
use Rattle.std.proofs.Common.{◌≡◌, ℕ, zero, suc, ◌+◌, ◌-◌, ◌<◌, ◌≤◌, refl, sym, ◌∙◌, ap, subst, arith, List, [], ◌∷◌, length, get_or, drop, Some}
use Rattle.std.proofs.Common.{None, Bool, true, false, ◌⊎◌, inl, inr, ℤ, pos}
use Rattle.std.specs.Bool.{Decides}
use Rattle.std.specs.Prelude.{if◌then◌else◌}
use Rattle.std.proofs.lemmas.Bool.{cases_lt}
use Rattle.std.proofs.lemmas.List.{drop_all, drop_more, get_or_default}
use Rattle.ln_tree.specs.declared.shape.VarInfo.{VarInfo}
use Rattle.ln_tree.specs.Variables.{no_var, same_site}
use Rattle.ln_order.specs.Exchanged.{IsShift, first_of_site, is_of_site, range_at}
use Rattle.ln_order.specs.Sites.{site_of}
use Rattle.ln_stage.specs.Symmetry.{IsAbove, IsBelow}

-- the site of a variable that is there
site-there : (vars : List VarInfo) (v : ℕ) (i : VarInfo) → v < length vars → i ≡ get_or vars v i → site_of vars v ≡ i.site
site-there [] v i l h = absurd (omega (arith, l))
site-there (k ∷ ks) zero i l h = ap (λ z. z.site) (sym h)
site-there (k ∷ ks) (suc v) i l h = site-there ks v i (omega (arith, l)) h

-- past the last there is none
site-past : (vars : List VarInfo) (v : ℕ) → length vars ≤ v → site_of vars v ≡ None
site-past [] v h = refl
site-past (k ∷ ks) zero h = absurd (omega (arith, h))
site-past (k ∷ ks) (suc v) h = site-past ks v (omega (arith, h))

-- the test of one
pub of_there : (vars : List VarInfo) (j v : ℕ) (i : VarInfo) (r : Bool) → v < length vars → i ≡ get_or vars v i → r ≡ same_site i.site (Some j)
    → r ≡ is_of_site vars j v
of_there vars j v i r l h e = e ∙ ap (λ o. same_site o (Some j)) (sym (site-there vars v i l h))

-- Past the last variable none is of a site.
pub of_past : (vars : List VarInfo) (j v : ℕ) → length vars ≤ v → false ≡ is_of_site vars j v
of_past vars j v h = ap (λ o. same_site o (Some j)) (sym (site-past vars v h))

-- the range of a variable that is there
range-is : (vars : List VarInfo) (v : ℕ) (i : VarInfo) → v < length vars → i ≡ get_or vars v i → (i.lo, i.hi) ≡ range_at vars v
range-is [] v i l h = absurd (omega (arith, l))
range-is (k ∷ ks) zero i l h = ap (λ (z : VarInfo). (z.lo, z.hi)) h
range-is (k ∷ ks) (suc v) i l h = range-is ks v i (omega (arith, l)) h

-- The declared ends of a variable are its range.
pub range_there : (vars : List VarInfo) (v : ℕ) (i : VarInfo) (a b : ℤ) → a ≡ i.lo → b ≡ i.hi → v < length vars → i ≡ get_or vars v i
    → (a, b) ≡ range_at vars v
range_there vars v i a b p q l h = ap (λ x. (x, b)) p ∙ ap (λ y. (i.lo, y)) q ∙ range-is vars v i l h

-- Past the last variable the range is 0 .. 0.
pub range_past : (vars : List VarInfo) (v : ℕ) → length vars ≤ v → (pos 0, pos 0) ≡ range_at vars v
range_past [] v h = refl
range_past (k ∷ ks) zero h = absurd (omega (arith, h))
range_past (k ∷ ks) (suc v) h = range_past ks v (omega (arith, h))

-- ---- the first variable of a site
-- it isn't among those before v
abbrev pub LooksFrom : List VarInfo → ℕ → ℕ → Type 0
LooksFrom vars j v = v + first_of_site (drop v vars) j ≡ first_of_site vars j

-- what is looked at from v on
looks : (vars : List VarInfo) (j v : ℕ) (b : Bool) → v < length vars → b ≡ is_of_site vars j v
    → first_of_site (drop v vars) j ≡ (if b then 0 else suc (first_of_site (drop (v + 1) vars) j))
looks vars j v b l e =
    let i : VarInfo = get_or vars v no_var in
    let s : site_of vars v ≡ i.site = site-there vars v i l (get_or_default vars v no_var i l) in
    ap (λ z. first_of_site z j) (drop_more vars v no_var l)
    ∙ ap (λ c. if c then 0 else suc (first_of_site (drop (v + 1) vars) j)) (ap (λ o. same_site o (Some j)) (sym s) ∙ sym e)

-- A variable of another site is passed in the search for the first one.
pub looks_on : (vars : List VarInfo) (j v : ℕ) (b : Bool) → v < length vars → b ≡ is_of_site vars j v → b ≡ false → LooksFrom vars j v
    → LooksFrom vars j (v + 1)
looks_on vars j v b l e f k =
    let g : first_of_site (drop v vars) j ≡ suc (first_of_site (drop (v + 1) vars) j) =
    looks vars j v b l e ∙ ap (λ c. if c then 0 else suc (first_of_site (drop (v + 1) vars) j)) f in
    omega (arith, g, k)

-- The first variable of the site that the search meets is its first one.
pub looks_here : (vars : List VarInfo) (j v : ℕ) (b : Bool) → v < length vars → b ≡ is_of_site vars j v → b ≡ true → LooksFrom vars j v
    → v ≡ first_of_site vars j
looks_here vars j v b l e f k =
    let g : first_of_site (drop v vars) j ≡ 0 =
    looks vars j v b l e ∙ ap (λ c. if c then 0 else suc (first_of_site (drop (v + 1) vars) j)) f in
    omega (arith, g, k)

-- A site without variables has the end of the list as its first one.
pub looked_all : (vars : List VarInfo) (j v : ℕ) → length vars ≤ v → v ≤ length vars → LooksFrom vars j v → length vars ≡ first_of_site vars j
looked_all vars j v l m k =
    let g : first_of_site (drop v vars) j ≡ 0 = ap (λ z. first_of_site z j) (drop_all v vars l) in
    omega (arith, g, k, l, m)

-- ---- the partner of one variable
-- a variable of another site has none to have
pub above_none : (vars : List VarInfo) (j d v : ℕ) (b : Bool) → b ≡ is_of_site vars j v → b ≡ false → Decides true (IsAbove vars j d v)
above_none vars j d v b e f = ((λ _ h. let z : false ≡ true = sym f ∙ e ∙ h in cc), (λ _. refl))

-- Where the variable a shift above is of another site, the two sites aren't a shift apart there.
pub above_missing : (vars : List VarInfo) (j d v k : ℕ) (b c : Bool) → k ≡ suc j → b ≡ is_of_site vars j v → b ≡ true
    → c ≡ is_of_site vars k (v + d) → c ≡ false → Decides false (IsAbove vars j d v)
above_missing vars j d v k b c q e f g h = (
  (λ z. cc),
  (λ a. let z : is_of_site vars (suc j) (v + d) ≡ true = (a (sym e ∙ f)).0 in
      let y : false ≡ true = sym h ∙ g ∙ ap (λ s. is_of_site vars s (v + d)) q ∙ z in cc),
)

-- Where it is of the next site, the ranges decide.
pub above_there : (vars : List VarInfo) (j d v k : ℕ) (b c r : Bool) (one two : ℤ × ℤ) → k ≡ suc j → b ≡ is_of_site vars j v → b ≡ true
    → c ≡ is_of_site vars k (v + d) → c ≡ true → one ≡ range_at vars (v + d) → two ≡ range_at vars v → Decides r (one ≡ two)
    → Decides r (IsAbove vars j d v)
above_there vars j d v k b c r one two q e f g h x y t = (
  (λ z _. (sym (ap (λ s. is_of_site vars s (v + d)) q) ∙ sym g ∙ h, sym x ∙ t.0 z ∙ y)),
  (λ a. t.1 (x ∙ (a (sym e ∙ f)).1 ∙ sym y)),
)

-- A variable of another site needs none below it.
pub below_none : (vars : List VarInfo) (j d v k : ℕ) (b : Bool) → k ≡ suc j → b ≡ is_of_site vars k v → b ≡ false → Decides true (IsBelow vars j d v)
below_none vars j d v k b q e f =
    ((λ _ h. let z : false ≡ true = sym f ∙ e ∙ ap (λ s. is_of_site vars s v) q ∙ h in cc), (λ _. refl))

-- A variable of the next site with fewer than a shift of variables before it has none below it.
pub below_short : (vars : List VarInfo) (j d v k : ℕ) (b : Bool) → k ≡ suc j → b ≡ is_of_site vars k v → b ≡ true → v < d → Decides false (IsBelow vars j d v)
below_short vars j d v k b q e f l = (
  (λ z. cc),
  (λ a. let z : d ≤ v = (a (sym (ap (λ s. is_of_site vars s v) q) ∙ sym e ∙ f)).0 in absurd (omega (arith, z, l))),
)

-- Else the variable a shift below decides.
pub below_there : (vars : List VarInfo) (j d v k : ℕ) (b r : Bool) → k ≡ suc j → b ≡ is_of_site vars k v → b ≡ true → d ≤ v
    → r ≡ is_of_site vars j (v - d) → Decides r (IsBelow vars j d v)
below_there vars j d v k b r q e f l g = (
  (λ z _. (l, sym g ∙ z)),
  (λ a. g ∙ (a (sym (ap (λ s. is_of_site vars s v) q) ∙ sym e ∙ f)).1),
)

-- ---- of all variables
-- so for each variable
pub record ShiftsAt (vars : List VarInfo) (j d v : ℕ) : Type 0 where
  pub above : IsAbove vars j d v
  pub below : IsBelow vars j d v

-- What holds of all before n and of n holds of all before n + 1.
pub below_next : (P : ℕ → Type 0) (n : ℕ) → P n → ((v : ℕ) → v < n → P v) → (v : ℕ) → v < n + 1 → P v
below_next P n p h v l = elim (cases_lt v n) [ inl m ↦ h v m | inr m ↦ (let e : n ≡ v = omega (arith, l, m) in subst P e p) ]

-- Where all variables have theirs, the sites are a shift apart.
pub shift_all : (vars : List VarInfo) (j d n : ℕ) → length vars ≤ n → ((v : ℕ) → v < n → ShiftsAt vars j d v) → Decides true (IsShift vars j d)
shift_all vars j d n l h = (
  (λ _. record {
    up = λ v q. ((h v (omega (arith, l, site-below v j q))).above q).0;
    down = λ v q. (h v (omega (arith, l, site-below v (suc j) q))).below q;
    ranges = λ v q. ((h v (omega (arith, l, site-below v j q))).above q).1;
  }),
  (λ _. refl),
) where
  site-below : (v s : ℕ) → is_of_site vars s v ≡ true → v < length vars
  site-below v s q = by_place (cases_lt v (length vars)) where
    by_place : (v < length vars) ⊎ (length vars ≤ v) → v < length vars
    by_place (inl m) = m
    by_place (inr m) = absurd (let z : false ≡ true = of_past vars s v m ∙ q in cc)

-- One variable without a counterpart above decides that they aren't.
pub no_shift_above : (vars : List VarInfo) (j d v : ℕ) (a : Bool) → Decides a (IsAbove vars j d v) → a ≡ false → Decides false (IsShift vars j d)
no_shift_above vars j d v a x f = (
  (λ z. cc),
  (λ s. let z : true ≡ false = sym (x.1 (λ q. (s.up v q, s.ranges v q))) ∙ f in cc),
)

-- One variable without a counterpart below decides that they aren't.
pub no_shift_below : (vars : List VarInfo) (j d v : ℕ) (b : Bool) → Decides b (IsBelow vars j d v) → b ≡ false → Decides false (IsShift vars j d)
no_shift_below vars j d v b x f = ((λ z. cc), (λ s. let z : true ≡ false = sym (x.1 (λ q. s.down v q)) ∙ f in cc))
