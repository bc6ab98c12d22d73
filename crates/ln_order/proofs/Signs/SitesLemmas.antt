-- Sites of a shape: each is below their number, and each has its place in an order.
use Rattle.std.proofs.Common.{◌≡◌, ◌⊎◌, inl, inr, ℕ, zero, suc, ◌+◌, ◌<◌, ◌≤◌, Bool, true, false, cond, eqb, eq-eqb, List, [], ◌∷◌, length}
use Rattle.std.proofs.Common.{map, get_or, refl, sym, ◌∙◌, ap, arith, Option, Some, None, is_some, is_none}
use Rattle.std.specs.Prelude.{Contains, if◌then◌else◌, ◌==◌, ◌&&◌, ◌||◌, count_by}
use Rattle.std.proofs.lemmas.Bool.{and_parts, cases_eq, eqb-true}
use Rattle.std.proofs.lemmas.List.{length-map, get_or_default}
use Rattle.std.proofs.lemmas.List.Sums.{sum_by-cons}
use Rattle.ln_tree.specs.declared.shape.VarInfo.{VarInfo}
use Rattle.ln_tree.specs.Variables.{begins, goes_on, in_order, is_laid_out, no_var, same_site, sites_behind, starts_site}
use Rattle.ln_tree.proofs.LaidLemmas.{same-site}
use Rattle.ln_tree.proofs.KeptLemmas.{laid_out}
use Rattle.ln_order.specs.Orders.{IsOrderOf, past}
use Rattle.ln_order.specs.Sites.{place_in, site_of}
use Rattle.ln_order.proofs.Listing.OrdersLemmas.{back, back-below, back-past, at_back, other, others-places}

-- ---- sites of variables
-- a site is the same as itself
pub same_site-refl : (s : ℕ) → same_site (Some s) (Some s) ≡ true
same_site-refl s = eq-eqb s s refl

-- a site that begins after s others is number s
pub begins-site : (a s t : ℕ) (i : VarInfo) → begins a s i ≡ true → i.site ≡ Some t → t ≡ s
begins-site a s t i h e =
    let p = and_parts (i.arg == a) (is_none i.site || same_site i.site (Some s)) h in
    let q : (is_none (Some t) || same_site (Some t) (Some s)) ≡ true = rw e at p.1 in
    eqb-true t s q

-- a further coordinate is of the same site
pub goes-site : (b i : VarInfo) → goes_on b i ≡ true → i.site ≡ b.site
goes-site b i h =
    let p = and_parts ((i.arg == b.arg) && is_some b.site && same_site i.site b.site && (i.coord == b.coord + 1)) _ h in
    let q = and_parts ((i.arg == b.arg) && is_some b.site && same_site i.site b.site) (i.coord == b.coord + 1) p.0 in
    let r = and_parts ((i.arg == b.arg) && is_some b.site) (same_site i.site b.site) q.0 in
    same-site i.site b.site r.1

-- how many sites there are from here on
counted : (i : VarInfo) (is : List VarInfo) (c : Bool) → (i.coord == 0) ≡ c
    → count_by starts_site (i ∷ is) ≡ cond (is_some i.site && c) 1 0 + count_by starts_site is
counted i is c e = sum_by-cons (λ x. cond (starts_site x) 1 0) i is ∙ ap (λ z. cond (is_some i.site && z) 1 0 + count_by starts_site is) e

-- the sites that begin here and after are those that begin after, and as many as lie between
behind-count : (s : ℕ) (i : VarInfo) (n : ℕ) → s + (cond (is_some i.site && true) 1 0 + n) ≡ sites_behind s i + n
behind-count s i n = go i.site where
  go : (o : Option ℕ) → s + (cond (is_some o && true) 1 0 + n) ≡ (if is_some o then suc s else s) + n
  go None = omega arith
  go (Some t) = omega arith

-- After a variable of a site one site more has begun.
pub some-behind : (s t : ℕ) (i : VarInfo) → i.site ≡ Some t → sites_behind s i ≡ suc s
some-behind s t i e = rw e refl

no-count : (o : Option ℕ) (n : ℕ) → cond (is_some o && false) 1 0 + n ≡ n
no-count None n = omega arith
no-count (Some t) n = omega arith

-- the site of each variable is below their number
abbrev Below : List VarInfo → ℕ → Type 0
Below vars k = (v t : ℕ) → site_of vars v ≡ Some t → t < k

below-cons : (i : VarInfo) (is : List VarInfo) (k : ℕ) → ((t : ℕ) → i.site ≡ Some t → t < k) → Below is k → Below (i ∷ is) k
below-cons i is k h r zero t e = h t e
below-cons i is k h r (suc v) t e = r v t e

sites-below : (a s : ℕ) (b : VarInfo) (vars : List VarInfo) → in_order a s b vars ≡ true → ((u : ℕ) → b.site ≡ Some u → u < s)
    → Below vars (s + count_by starts_site vars)
sites-below a s b [] h k = λ v t e. cc
sites-below a s b (i ∷ is) h k = go (i.coord == 0) refl h (sites-below (suc a) (sites_behind s i) i is) (sites-below a s i is) where
  go : (c : Bool) → (i.coord == 0) ≡ c → (if c then begins a s i && in_order (suc a) (sites_behind s i) i is else goes_on b i && in_order a s i is) ≡ true
      → (in_order (suc a) (sites_behind s i) i is ≡ true → ((u : ℕ) → i.site ≡ Some u → u < sites_behind s i)
      → Below is (sites_behind s i + count_by starts_site is))
      → (in_order a s i is ≡ true → ((u : ℕ) → i.site ≡ Some u → u < s) → Below is (s + count_by starts_site is))
      → Below (i ∷ is) (s + count_by starts_site (i ∷ is))
  go true e g one two =
      let p = and_parts (begins a s i) (in_order (suc a) (sites_behind s i) i is) g in
      let n : s + count_by starts_site (i ∷ is) ≡ sites_behind s i + count_by starts_site is =
      omega (arith, counted i is true e, behind-count s i (count_by starts_site is)) in
      let here : (u : ℕ) → i.site ≡ Some u → u < sites_behind s i = λ u q. omega (arith, begins-site a s u i p.0 q, some-behind s u i q) in
      rw n (below-cons i is (sites_behind s i + count_by starts_site is) (λ t q. omega (arith, here t q)) (one p.1 here))
  go false e g one two =
      let p = and_parts (goes_on b i) (in_order a s i is) g in
      let n : s + count_by starts_site (i ∷ is) ≡ s + count_by starts_site is =
      omega (arith, counted i is false e, no-count i.site (count_by starts_site is)) in
      let here : (u : ℕ) → i.site ≡ Some u → u < s = λ u q. k u (sym (goes-site b i p.0) ∙ q) in
      rw n (below-cons i is (s + count_by starts_site is) (λ t q. omega (arith, here t q)) (two p.1 here))

-- what a shape keeps of its sites
pub record Kept (sites : ℕ) (vars : List VarInfo) : Type 0 where
  pub below : (v t : ℕ) → site_of vars v ≡ Some t → t < sites
  pub few_sites : sites ≤ 5
  pub few_vars : length vars ≤ 168

-- and each shape that is laid out keeps it
pub kept : (sites : ℕ) (vars : List VarInfo) → is_laid_out sites vars ≡ true → Kept sites vars
kept sites vars h =
    let p = laid_out sites vars h in
    record {
      below = λ v t q. omega (arith, p.counted, sites-below 0 0 no_var vars p.order (λ u z. cc) v t q);
      few_sites = p.few_sites;
      few_vars = p.few_vars;
    }

-- ---- places in an order
-- each site is in the order
pub each-there : (k : ℕ) (o : List ℕ) (s : ℕ) → IsOrderOf k o → s < k → Contains o s
each-there zero o s p h = absurd (omega arith)
each-there (suc k) [] s p h = absurd (omega (arith, p.size))
each-there (suc k) (x ∷ o) s p h = go (cases_eq s x)
    (each-there k (map (back x) o) (back x s) (record { size = omega (arith, length-map o (back x), p.size); each = others-places x o p.each }))
  where
    go : (s ≡ x) ⊎ (s ≡ x → ⊥) → (back x s < k → Contains (map (back x) o) (back x s)) → Contains (x ∷ o) s
    go (inl e) ih = (0, omega arith, sym e)
    go (inr ne) ih =
        let c = ih (back-below x s k ne (omega (arith, p.each.within 0 0 (omega arith), p.size)) h) in
        let l : c.0 < length o = omega (arith, c.1, length-map o (back x)) in
        let r : back x (get_or o c.0 s) ≡ back x s = sym (at_back x o c.0 s l) ∙ ap (λ z. z) (get_or_default (map (back x) o) c.0 s (back x s) c.1) ∙ c.2 in
        (suc c.0, omega (arith, l), sym (back-past x (get_or o c.0 s) (other x o p.each c.0 s l)) ∙ ap (past x) r ∙ back-past x s ne)

-- the place of a site is where it is
pub place-is : (o : List ℕ) (s : ℕ) → Contains o s → (place_in o s < length o) × ((d : ℕ) → get_or o (place_in o s) d ≡ s)
place-is [] s c = absurd (omega (arith, c.1))
place-is (t ∷ o) s (k, l, e) = go (eqb t s) refl k l e (place-is o s) where
  go : (b : Bool) → eqb t s ≡ b → (k : ℕ) → k < suc (length o) → get_or (t ∷ o) k s ≡ s
      → (Contains o s → (place_in o s < length o) × ((d : ℕ) → get_or o (place_in o s) d ≡ s))
      → ((if b then 0 else suc (place_in o s)) < suc (length o)) × ((d : ℕ) → get_or (t ∷ o) (if b then 0 else suc (place_in o s)) d ≡ s)
  go true q k l e ih = (omega arith, λ d. eqb-true t s q)
  go false q zero l e ih = absurd (let z : true ≡ false = sym (eq-eqb t s e) ∙ q in cc)
  go false q (suc k) l e ih = let r = ih (k, omega (arith, l), e) in (omega (arith, r.0), r.1)

-- two sites with one place are one
pub place-one : (o : List ℕ) (s t : ℕ) → Contains o s → Contains o t → place_in o s ≡ place_in o t → s ≡ t
place-one o s t c d e = sym ((place-is o s c).1 0) ∙ ap (λ z. get_or o z 0) e ∙ (place-is o t d).1 0
