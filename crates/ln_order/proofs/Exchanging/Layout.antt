-- Proves that the variables of a site are in a run, and the runs of sites in order.
use Rattle.std.proofs.Common.{◌≡◌, ◌⊎◌, inl, inr, ℕ, zero, suc, ◌<◌, ◌≤◌, Bool, true, false, cond, List, [], ◌∷◌, refl, sym, ◌∙◌, ap, arith, Option, Some}
use Rattle.std.proofs.Common.{None, is_some, is_none}
use Rattle.std.specs.Prelude.{if◌then◌else◌, ◌==◌, ◌&&◌, ◌||◌}
use Rattle.std.proofs.lemmas.Bool.{and_parts}
use Rattle.ln_tree.specs.declared.shape.VarInfo.{VarInfo}
use Rattle.ln_tree.specs.Variables.{begins, goes_on, in_order, is_laid_out, no_var, same_site, sites_behind}
use Rattle.ln_tree.proofs.KeptLemmas.{laid_out}
use Rattle.ln_order.specs.Exchanged.{first_of_site}
use Rattle.ln_order.specs.Sites.{site_of}
use Rattle.ln_order.proofs.Exchanging.Shifts.{site-is, site-self}
use Rattle.ln_order.proofs.Signs.SitesLemmas.{begins-site, goes-site, some-behind}

-- the variable that goes before is of a site that was counted
abbrev IsCounted : VarInfo → ℕ → Type 0
IsCounted b n = (u : ℕ) → b.site ≡ Some u → u < n

-- a variable either begins a site or goes on with that of the variable before it
data Next (n : ℕ) (b i : VarInfo) (is : List VarInfo) : Type 0 where
  new : (a : ℕ) → in_order a (sites_behind n i) i is ≡ true → ((s : ℕ) → i.site ≡ Some s → s ≡ n) → IsCounted i (sites_behind n i) → n ≤ sites_behind n i
      → Next n b i is
  old : (a : ℕ) → in_order a n i is ≡ true → i.site ≡ b.site → IsCounted i n → Next n b i is

-- the number of sites grows
behind-grows : (n : ℕ) (i : VarInfo) → n ≤ sites_behind n i
behind-grows n i = go i.site where
  go : (o : Option ℕ) → n ≤ (if is_some o then suc n else n)
  go None = omega arith
  go (Some t) = omega arith

next : (a n : ℕ) (b i : VarInfo) (is : List VarInfo) → in_order a n b (i ∷ is) ≡ true → IsCounted b n → Next n b i is
next a n b i is h k = go (i.coord == 0) refl h where
  go : (c : Bool) → (i.coord == 0) ≡ c → (if c then begins a n i && in_order (suc a) (sites_behind n i) i is else goes_on b i && in_order a n i is) ≡ true
      → Next n b i is
  go true e g =
      let p = and_parts (begins a n i) (in_order (suc a) (sites_behind n i) i is) g in
      new (suc a) p.1 (λ s q. begins-site a n s i p.0 q)
      (λ u q. omega (arith, begins-site a n u i p.0 q, some-behind n u i q)) (behind-grows n i)
  go false e g =
      let p = and_parts (goes_on b i) (in_order a n i is) g in
      let s : i.site ≡ b.site = goes-site b i p.0 in
      old a p.1 s (λ u q. k u (sym s ∙ q))

-- a site that is there is new, or that of the variable before, with which all up to there go on
data Known (n : ℕ) (b : VarInfo) (vars : List VarInfo) (v s : ℕ) : Type 0 where
  later : n ≤ s → Known n b vars v s
  same : b.site ≡ Some s → ((w : ℕ) → w ≤ v → site_of vars w ≡ Some s) → Known n b vars v s

known : (a n : ℕ) (b : VarInfo) (vars : List VarInfo) → in_order a n b vars ≡ true → IsCounted b n → (v s : ℕ) → site_of vars v ≡ Some s
    → Known n b vars v s
known a n b [] h k v s e = cc
known a n b (i ∷ is) h k v s e = by_next v e (next a n b i is h k) (λ a m. known a m i is) where
  run : (v : ℕ) → i.site ≡ Some s → ((w : ℕ) → w ≤ v → site_of is w ≡ Some s) → (w : ℕ) → w ≤ suc v → site_of (i ∷ is) w ≡ Some s
  run v e r zero l = e
  run v e r (suc w) l = r w (omega (arith, l))

  at_start : i.site ≡ Some s → (w : ℕ) → w ≤ 0 → site_of (i ∷ is) w ≡ Some s
  at_start e zero l = e
  at_start e (suc w) l = absurd (omega (arith, l))

  by_next : (v : ℕ) → site_of (i ∷ is) v ≡ Some s → Next n b i is
      → ((a m : ℕ) → in_order a m i is ≡ true → IsCounted i m → (v s : ℕ) → site_of is v ≡ Some s → Known m i is v s) → Known n b (i ∷ is) v s
  by_next zero e (new a o t c g) ih = later (omega (arith, t s e))
  by_next zero e (old a o t c) ih = same (sym t ∙ e) (at_start e)
  by_next (suc v) e (new a o t c g) ih = on (ih a (sites_behind n i) o c v s e) where
    on : Known (sites_behind n i) i is v s → Known n b (i ∷ is) (suc v) s
    on (later l) = later (omega (arith, l, g))
    on (same q r) = later (omega (arith, t s q))
  by_next (suc v) e (old a o t c) ih = on (ih a n o c v s e) where
    on : Known n i is v s → Known n b (i ∷ is) (suc v) s
    on (later l) = later l
    on (same q r) = same (sym t ∙ q) (run v q r)

-- after a variable of a site comes a further one, or the first of another
abbrev Joins : List VarInfo → ℕ → ℕ → Type 0
Joins vars v s = (site_of vars v ≡ Some s) ⊎ ((w : ℕ) → site_of vars w ≡ Some s → suc v ≤ w)

joins : (a n : ℕ) (b : VarInfo) (vars : List VarInfo) → in_order a n b vars ≡ true → IsCounted b n → (v s : ℕ) → site_of vars (suc v) ≡ Some s
    → Joins vars v s
joins a n b [] h k v s e = cc
joins a n b (i ∷ is) h k v s e = by_next v e (next a n b i is h k) (λ a m. joins a m i is) where
  begins : (m a : ℕ) → in_order a m i is ≡ true → IsCounted i m → (v : ℕ) → site_of is v ≡ Some s → ((w : ℕ) → site_of is w ≡ Some s → v ≤ w)
      → (site_of (i ∷ is) v ≡ Some s) ⊎ (i.site ≡ Some s → ⊥)
  begins m a o c zero q f = by_known (known a m i is o c 0 s q) where
    by_known : Known m i is 0 s → (i.site ≡ Some s) ⊎ (i.site ≡ Some s → ⊥)
    by_known (later l) = inr (λ x. omega (arith, l, c s x))
    by_known (same x r) = inl x
  begins m a o c (suc v) q f = inr (λ x. by_known x (known a m i is o c (suc v) s q)) where
    by_known : i.site ≡ Some s → Known m i is (suc v) s → ⊥
    by_known x (later l) = omega (arith, l, c s x)
    by_known x (same y r) = let z : suc v ≤ 0 = f 0 (r 0 (omega arith)) in omega (arith, z)

  first_there : (v : ℕ) → (i.site ≡ Some s → ⊥) → ((w : ℕ) → site_of is w ≡ Some s → v ≤ w) → (w : ℕ) → site_of (i ∷ is) w ≡ Some s → suc v ≤ w
  first_there v n f zero q = absurd (n q)
  first_there v n f (suc w) q = omega (arith, f w q)

  nothing_before : (w : ℕ) → site_of is w ≡ Some s → 0 ≤ w
  nothing_before w q = omega arith

  at : (m a v : ℕ) → in_order a m i is ≡ true → IsCounted i m → site_of is v ≡ Some s
      → ((a m : ℕ) → in_order a m i is ≡ true → IsCounted i m → (v s : ℕ) → site_of is (suc v) ≡ Some s → Joins is v s) → Joins (i ∷ is) v s
  at m a zero o c e ih = on (begins m a o c 0 e nothing_before) where
    on : (i.site ≡ Some s) ⊎ (i.site ≡ Some s → ⊥) → Joins (i ∷ is) 0 s
    on (inl x) = inl x
    on (inr x) = inr (first_there 0 x nothing_before)
  at m a (suc v) o c e ih = on (ih a m o c v s e) where
    on : Joins is v s → Joins (i ∷ is) (suc v) s
    on (inl x) = inl x
    on (inr f) = so (begins m a o c (suc v) e f) where
      so : (site_of is v ≡ Some s) ⊎ (i.site ≡ Some s → ⊥) → Joins (i ∷ is) (suc v) s
      so (inl x) = inl x
      so (inr x) = inr (first_there (suc v) x f)

  by_next : (v : ℕ) → site_of is v ≡ Some s → Next n b i is
      → ((a m : ℕ) → in_order a m i is ≡ true → IsCounted i m → (v s : ℕ) → site_of is (suc v) ≡ Some s → Joins is v s) → Joins (i ∷ is) v s
  by_next v e (new a o t c g) ih = at (sites_behind n i) a v o c e ih
  by_next v e (old a o t c) ih = at n a v o c e ih

-- an earlier site's variables come first
ordered : (a n : ℕ) (b : VarInfo) (vars : List VarInfo) → in_order a n b vars ≡ true → IsCounted b n → (v w s t : ℕ) → site_of vars v ≡ Some s
    → site_of vars w ≡ Some t → s < t → v < w
ordered a n b [] h k v w s t e f l = cc
ordered a n b (i ∷ is) h k v w s t e f l = by_next (next a n b i is h k) (λ a m. ordered a m i is) where
  at : (m a : ℕ) → in_order a m i is ≡ true → IsCounted i m → (v w : ℕ) → site_of (i ∷ is) v ≡ Some s → site_of (i ∷ is) w ≡ Some t
      → ((a m : ℕ) → in_order a m i is ≡ true → IsCounted i m → (v w s t : ℕ) → site_of is v ≡ Some s → site_of is w ≡ Some t → s < t → v < w) → v < w
  at m a o c zero zero e f ih = absurd (let q : s ≡ t = the_same (sym e ∙ f) in omega (arith, q, l)) where
    the_same : Some s ≡ Some t → s ≡ t
    the_same q = cc
  at m a o c zero (suc w) e f ih = omega arith
  at m a o c (suc v) zero e f ih = absurd (by_known (known a m i is o c v s e)) where
    the_same : Some s ≡ Some t → s ≡ t
    the_same q = cc

    by_known : Known m i is v s → ⊥
    by_known (later g) = omega (arith, g, l, c t f)
    by_known (same x r) = let q : s ≡ t = the_same (sym x ∙ f) in omega (arith, q, l)
  at m a o c (suc v) (suc w) e f ih = omega (arith, ih a m o c v w s t e f l)

  by_next : Next n b i is
      → ((a m : ℕ) → in_order a m i is ≡ true → IsCounted i m → (v w s t : ℕ) → site_of is v ≡ Some s → site_of is w ≡ Some t → s < t → v < w) → v < w
  by_next (new a o x c g) ih = at (sites_behind n i) a o c v w e f ih
  by_next (old a o x c) ih = at n a o c v w e f ih

-- ---- of a predicate
none-counted : IsCounted no_var 0
none-counted u e = cc

-- In a laid out list, a variable that follows one of the same site is its next coordinate.
pub site-joins : (sites : ℕ) (vars : List VarInfo) (v s : ℕ) → is_laid_out sites vars ≡ true → site_of vars (suc v) ≡ Some s → Joins vars v s
site-joins sites vars v s h e = joins 0 0 no_var vars (laid_out sites vars h).order none-counted v s e

-- In a laid out list, the variables of an earlier site come before those of a later one.
pub sites-ordered : (sites : ℕ) (vars : List VarInfo) (v w s t : ℕ) → is_laid_out sites vars ≡ true → site_of vars v ≡ Some s → site_of vars w ≡ Some t
    → s < t → v < w
sites-ordered sites vars v w s t h = ordered 0 0 no_var vars (laid_out sites vars h).order none-counted v w s t

-- ---- the first variable of a site
-- No variable of a site comes before the first one.
pub first-least : (vars : List VarInfo) (v s : ℕ) → site_of vars v ≡ Some s → first_of_site vars s ≤ v
first-least [] v s e = cc
first-least (i ∷ is) v s e = by_case (same_site i.site (Some s)) refl v e (λ v. first-least is v s) where
  by_case : (b : Bool) → same_site i.site (Some s) ≡ b → (v : ℕ) → site_of (i ∷ is) v ≡ Some s
      → ((v : ℕ) → site_of is v ≡ Some s → first_of_site is s ≤ v) → (if b then 0 else suc (first_of_site is s)) ≤ v
  by_case true q v e ih = omega arith
  by_case false q zero e ih = absurd (let z : true ≡ false = sym (site-self i.site s e) ∙ q in cc)
  by_case false q (suc v) e ih = omega (arith, ih v e)

-- Where a site has a variable, its first one is of that site.
pub first-there : (vars : List VarInfo) (v s : ℕ) → site_of vars v ≡ Some s → site_of vars (first_of_site vars s) ≡ Some s
first-there [] v s e = cc
first-there (i ∷ is) v s e = by_case (same_site i.site (Some s)) refl v e (λ v. first-there is v s) where
  by_case : (b : Bool) → same_site i.site (Some s) ≡ b → (v : ℕ) → site_of (i ∷ is) v ≡ Some s
      → ((v : ℕ) → site_of is v ≡ Some s → site_of is (first_of_site is s) ≡ Some s)
      → site_of (i ∷ is) (if b then 0 else suc (first_of_site is s)) ≡ Some s
  by_case true q v e ih = site-is i.site s q
  by_case false q zero e ih = absurd (let z : true ≡ false = sym (site-self i.site s e) ∙ q in cc)
  by_case false q (suc v) e ih = ih v e
