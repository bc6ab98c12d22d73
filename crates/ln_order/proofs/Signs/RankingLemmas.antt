-- The variables of sites by rising infinitesimal, and the order of exponents along them.
use Rattle.std.proofs.Common.{◌≡◌, ◌≢◌, ◌⊎◌, inl, inr, ℕ, zero, suc, ◌+◌, ◌-◌, ◌<◌, ◌≤◌, Bool, true, false, eqb, List, [], ◌∷◌, ◌++◌}
use Rattle.std.proofs.Common.{length, get_or, take, drop, append_assoc, refl, sym, ◌∙◌, ap, arith, drop-cons, Some}
use Rattle.std.specs.Prelude.{AllPairs, Contains, if◌then◌else◌, ◌==◌}
use Rattle.std.specs.Ordering.{nat_cmp, ordering_index, ordering_then}
use Rattle.std.specs.declared.cmp.Ordering.{Ordering}
use Rattle.std.specs.declared.cmp.Ordering.TheVariants.{Less, Equal, Greater}
use Rattle.std.proofs.lemmas.Bool.{cases_order}
use Rattle.std.proofs.lemmas.Bool.Decides.{nat_tests}
use Rattle.std.proofs.lemmas.List.{append-nil, take-append-drop}
use Rattle.ln_algebra.specs.Earlier.{Earlier, Of, RanksBefore, Sites}
use Rattle.ln_algebra.specs.Walk.{IsRanked, IsRanking, Member}
use Rattle.ln_algebra.proofs.Ordering.Ranking.{lex-is}
use Rattle.ln_algebra.proofs.Walking.Walk.{Lex}
use Rattle.ln_tree.specs.declared.shape.VarInfo.{VarInfo}
use Rattle.ln_tree.specs.Exps.{Pairs, exponent, vector}
use Rattle.ln_tree.specs.Variables.{is_laid_out, same_site}
use Rattle.ln_order.specs.Order.{ArePlaces}
use Rattle.ln_order.specs.Sites.{along, place_in, ranking_of, site_of, sites_of, vars_of}
use Rattle.ln_tree.proofs.Powers.{vector-get}
use Rattle.ln_tree.proofs.LaidLemmas.{same-site}
use Rattle.ln_order.proofs.Signs.SitesLemmas.{each-there, kept, same_site-refl}

-- ---- members
-- a member of the first of two lists is one of both joined
pub member-left : (xs ys : List ℕ) (w : ℕ) → Member xs w → Member (xs ++ ys) w
member-left [] ys w m = absurd m
member-left (x ∷ xs) ys w (inl e) = inl e
member-left (x ∷ xs) ys w (inr m) = inr (member-left xs ys w m)

-- a member of the second of two lists is one of both joined
pub member-right : (xs ys : List ℕ) (w : ℕ) → Member ys w → Member (xs ++ ys) w
member-right [] ys w m = m
member-right (x ∷ xs) ys w m = inr (member-right xs ys w m)

-- a member of two lists joined is one of the first or of the second
pub member-cases : (xs ys : List ℕ) (w : ℕ) → Member (xs ++ ys) w → Member xs w ⊎ Member ys w
member-cases [] ys w m = inr m
member-cases (x ∷ xs) ys w (inl e) = inl (inl e)
member-cases (x ∷ xs) ys w (inr m) = elim (member-cases xs ys w m) [ inl k ↦ inl (inr k) | inr k ↦ inr k ]

-- a member is at some place of the list
pub member-at : (xs : List ℕ) (w : ℕ) → Member xs w → (k : ℕ) × (k < length xs) × (get_or xs k 0 ≡ w)
member-at [] w m = absurd m
member-at (x ∷ xs) w (inl e) = (0, omega arith, sym e)
member-at (x ∷ xs) w (inr m) = let r = member-at xs w m in (suc r.0, omega (arith, r.1), r.2)

-- and what is at some place of the list is a member
pub at-member : (xs : List ℕ) (w : ℕ) → Contains xs w → Member xs w
at-member [] w c = absurd (omega (arith, c.1))
at-member (x ∷ xs) w (zero, l, e) = inl (sym e)
at-member (x ∷ xs) w (suc k, l, e) = inr (at-member xs w (k, omega (arith, l), e))

-- ---- the variables of one site
site-within : (vars : List VarInfo) (v s : ℕ) → site_of vars v ≡ Some s → v < length vars
site-within [] v s e = cc
site-within (i ∷ is) zero s e = omega arith
site-within (i ∷ is) (suc v) s e = omega (arith, site-within is v s e)

module _ (sites : Sites) (s : ℕ) where
  -- the variables from v on have these sites
  abbrev Numbered : List VarInfo → ℕ → Type 0
  Numbered is v = (w : ℕ) → site_of is w ≡ sites.site (v + w)

  numbered-next : (i : VarInfo) (is : List VarInfo) (v : ℕ) → Numbered (i ∷ is) v → Numbered is (suc v)
  numbered-next i is v h w = h (suc w) ∙ ap sites.site (omega arith)

  numbered-here : (i : VarInfo) (is : List VarInfo) (v : ℕ) → Numbered (i ∷ is) v → sites.site v ≡ i.site
  numbered-here i is v h = ap sites.site (omega arith) ∙ sym (h 0)

  -- each is of the site
  vars-are : (is : List VarInfo) (v : ℕ) → Numbered is v → (w : ℕ) → Member (vars_of s is v) w → (v ≤ w) × (w < v + length is) × Of sites w s
  vars-are [] v h w m = absurd m
  vars-are (i ∷ is) v h w m = go (same_site i.site (Some s)) refl m (vars-are is (suc v) (numbered-next i is v h) w) where
    go : (b : Bool) → same_site i.site (Some s) ≡ b → Member (if b then v ∷ vars_of s is (suc v) else vars_of s is (suc v)) w
        → (Member (vars_of s is (suc v)) w → (suc v ≤ w) × (w < suc v + length is) × Of sites w s) → (v ≤ w) × (w < v + suc (length is)) × Of sites w s
    go true e (inl q) ih = (omega (arith, q), omega (arith, q), ap sites.site q ∙ numbered-here i is v h ∙ same-site i.site (Some s) e)
    go true e (inr m) ih = let r = ih m in (omega (arith, r.0), omega (arith, r.1), r.2)
    go false e m ih = let r = ih m in (omega (arith, r.0), omega (arith, r.1), r.2)

  -- and all of the site are there
  are-vars : (is : List VarInfo) (v : ℕ) → Numbered is v → (w : ℕ) → w < length is → site_of is w ≡ Some s → Member (vars_of s is v) (v + w)
  are-vars [] v h w l o = absurd (omega arith)
  are-vars (i ∷ is) v h zero l o = let t : same_site i.site (Some s) ≡ true = rw o (same_site-refl s) in rw t (inl (omega arith))
  are-vars (i ∷ is) v h (suc w) l o = go (same_site i.site (Some s))
      (let e : suc v + w ≡ v + suc w = omega arith in rw e at (are-vars is (suc v) (numbered-next i is v h) w (omega (arith, l)) o))
    where
      go : (b : Bool) → Member (vars_of s is (suc v)) (v + suc w) → Member (if b then v ∷ vars_of s is (suc v) else vars_of s is (suc v)) (v + suc w)
      go true m = inr m
      go false m = m

  -- one declared later has the larger infinitesimal
  vars-ranked : (is : List VarInfo) (v : ℕ) → Numbered is v → IsRanked sites (vars_of s is v)
  vars-ranked [] v h = tt
  vars-ranked (i ∷ is) v h =
      go (same_site i.site (Some s)) refl (vars-are is (suc v) (numbered-next i is v h)) (vars-ranked is (suc v) (numbered-next i is v h))
    where
      go : (b : Bool) → same_site i.site (Some s) ≡ b → ((w : ℕ) → Member (vars_of s is (suc v)) w → (suc v ≤ w) × (w < suc v + length is) × Of sites w s)
          → IsRanked sites (vars_of s is (suc v)) → IsRanked sites (if b then v ∷ vars_of s is (suc v) else vars_of s is (suc v))
      go true e are r =
          let o : Of sites v s = numbered-here i is v h ∙ same-site i.site (Some s) e in
          (s, o, (λ w m. let k = are w m in (s, s, k.2, o, inr (refl, omega (arith, k.0)))), r)
      go false e are r = r

-- ---- the variables of all sites
ranked-append : (sites : Sites) (xs ys : List ℕ) → IsRanked sites xs → IsRanked sites ys
    → ((x y : ℕ) → Member xs x → Member ys y → RanksBefore sites y x) → IsRanked sites (xs ++ ys)
ranked-append sites [] ys r q h = q
ranked-append sites (x ∷ xs) ys r q h = (
  r.0,
  r.1,
  (λ w m. elim (member-cases xs ys w m) [ inl k ↦ r.2 w k | inr k ↦ h x w (inl refl) k ]),
  ranked-append sites xs ys r.3 q (λ u w i j. h u w (inr i) j),
)

-- the indices rise along the order
abbrev Rises : (ℕ → ℕ) → List ℕ → Type 0
Rises index [] = Unit {0}
Rises index (s ∷ o) = ((t : ℕ) → Member o t → index s < index t) × Rises index o

module _ (sites : Sites) (vars : List VarInfo) (same : (w : ℕ) → site_of vars w ≡ sites.site w) where
  numbered : (s : ℕ) → Numbered sites s vars 0
  numbered s w = same w ∙ ap sites.site (omega arith)

  ranking-are : (o : List ℕ) (w : ℕ) → Member (ranking_of vars o) w → (s : ℕ) × Member o s × Of sites w s
  ranking-are [] w m = absurd m
  ranking-are (s ∷ o) w m =
      elim (member-cases (ranking_of vars o) (vars_of s vars 0) w m) [
        | inl k ↦ (let r = ranking-are o w k in (r.0, inr r.1, r.2))
        | inr k ↦ (s, inl refl, (vars-are sites s vars 0 (numbered s) w k).2)
      ]

  are-ranking : (o : List ℕ) (w s : ℕ) → Member o s → site_of vars w ≡ Some s → Member (ranking_of vars o) w
  are-ranking [] w s m e = absurd m
  are-ranking (t ∷ o) w s (inl q) e =
      let z : 0 + w ≡ w = omega arith in
      member-right (ranking_of vars o) (vars_of t vars 0) w (rw z at (are-vars sites t vars 0 (numbered t) w (site-within vars w s e) (e ∙ ap (λ x. Some x) q)))
  are-ranking (t ∷ o) w s (inr m) e = member-left (ranking_of vars o) (vars_of t vars 0) w (are-ranking o w s m e)

  ranking-ranked : (o : List ℕ) → Rises sites.index o → IsRanked sites (ranking_of vars o)
  ranking-ranked [] r = tt
  ranking-ranked (s ∷ o) r =
      ranked-append sites (ranking_of vars o) (vars_of s vars 0) (ranking-ranked o r.1) (vars-ranked sites s vars 0 (numbered s))
      (λ x y i j. let k = ranking-are o x i in (s, k.0, (vars-are sites s vars 0 (numbered s) y j).2, k.2, inl (r.0 k.0 k.1)))

-- ---- an order's own places
rises-up : (f g : ℕ → ℕ) (o : List ℕ) → ((t : ℕ) → Member o t → g t ≡ suc (f t)) → Rises f o → Rises g o
rises-up f g [] h r = tt
rises-up f g (s ∷ o) h r = ((λ t m. omega (arith, h s (inl refl), h t (inr m), r.0 t m)), rises-up f g o (λ t m. h t (inr m)) r.1)

tail-apart : (s : ℕ) (o : List ℕ) → AllPairs (λ j k. j ≢ k) (s ∷ o) → AllPairs (λ j k. j ≢ k) o
tail-apart s o h i j d l m = h (suc i) (suc j) d (omega (arith, l)) (omega (arith, m))

eqb-apart : (t s : ℕ) → t ≢ s → eqb t s ≡ false
eqb-apart t s ne = grind (arith, nat_tests)

eqb-same : (t : ℕ) → eqb t t ≡ true
eqb-same t = grind (arith, nat_tests)

place-first : (s : ℕ) (o : List ℕ) → place_in (s ∷ o) s ≡ 0
place-first s o = rw (eqb-same s) refl

place-later : (s : ℕ) (o : List ℕ) (t : ℕ) → s ≢ t → place_in (s ∷ o) t ≡ suc (place_in o t)
place-later s o t ne = rw (eqb-apart s t ne) refl

-- the places rise along the order
places-rise : (o : List ℕ) → AllPairs (λ j k. j ≢ k) o → Rises (place_in o) o
places-rise [] h = tt
places-rise (s ∷ o) h = (
  (λ t m. omega (arith, place-first s o, place-later s o t (differs t m))),
  rises-up (place_in o) (place_in (s ∷ o)) o (λ t m. place-later s o t (differs t m)) (places-rise o (tail-apart s o h)),
) where
  differs : (t : ℕ) → Member o t → s ≢ t
  differs t m e = let r = member-at o t m in h 0 (suc r.0) 0 (omega arith) (omega (arith, r.1)) (e ∙ sym r.2)

-- the list is a ranking of the variables
pub ranking-is : (sites : ℕ) (vars : List VarInfo) (o : List ℕ) → is_laid_out sites vars ≡ true → length o ≡ sites → ArePlaces o
    → IsRanking (length vars) (sites_of vars o) (ranking_of vars o)
ranking-is sites vars o h size p = record {
  ranked = ranking-ranked (sites_of vars o) vars (λ w. refl) o (places-rise o p.differ);
  all = λ v s e. are-ranking (sites_of vars o) vars (λ w. refl) o v s
      (at-member o s (each-there (length o) o s (record { size = refl; each = p }) (omega (arith, (kept sites vars h).below v s e, size)))) e;
  below = λ v m. let r = ranking-are (sites_of vars o) vars (λ w. refl) o v m in site-within vars v r.0 r.2;
}

-- ---- the order of exponents along them
-- the order along two lists of variables is that along the first, and where that is equal, that along the second
pub along-append : (xs ys : List ℕ) (a b : Pairs) → along (xs ++ ys) a b ≡ ordering_then (along xs a b) (along ys a b)
along-append [] ys a b = refl
along-append (x ∷ xs) ys a b = go (nat_cmp (exponent x a) (exponent x b)) (along-append xs ys a b) where
  go : (r : Ordering) → along (xs ++ ys) a b ≡ ordering_then (along xs a b) (along ys a b)
      → ordering_then r (along (xs ++ ys) a b) ≡ ordering_then (ordering_then r (along xs a b)) (along ys a b)
  go Less e = refl
  go Equal e = e
  go Greater e = refl

cmp-less : (x y : ℕ) → x < y → nat_cmp x y ≡ Less
cmp-less x y h = grind (arith, nat_tests)

cmp-same : (x y : ℕ) → x ≡ y → nat_cmp x y ≡ Equal
cmp-same x y h = grind (arith, nat_tests)

cmp-more : (x y : ℕ) → y < x → nat_cmp x y ≡ Greater
cmp-more x y h = grind (arith, nat_tests)

then-less : (x y : ℕ) (r : Ordering) → ordering_then (nat_cmp x y) r ≡ Less → (x < y) ⊎ ((x ≡ y) × (r ≡ Less))
then-less x y r h = go (cases_order x y) where
  go : (x ≡ y) ⊎ ((x < y) ⊎ (y < x)) → (x < y) ⊎ ((x ≡ y) × (r ≡ Less))
  go (inl e) = inr (e, (let z : ordering_then Equal r ≡ Less = rw (cmp-same x y e) at h in z))
  go (inr (inl l)) = inl l
  go (inr (inr l)) = absurd (let z : ordering_then Greater r ≡ Less = rw (cmp-more x y l) at h in cc)

less-then : (x y : ℕ) (r : Ordering) → (x < y) ⊎ ((x ≡ y) × (r ≡ Less)) → ordering_then (nat_cmp x y) r ≡ Less
less-then x y r (inl l) = rw (cmp-less x y l) refl
less-then x y r (inr p) = rw (cmp-same x y p.0) p.1

abbrev Below : List ℕ → ℕ → Type 0
Below vs n = (v : ℕ) → Member vs v → v < n

along-lex : (n : ℕ) (vs : List ℕ) (a b : Pairs) → Below vs n → along vs a b ≡ Less → Lex vs (vector n a) (vector n b)
along-lex n [] a b h e = cc
along-lex n (v ∷ vs) a b h e =
    elim (then-less (exponent v a) (exponent v b) (along vs a b) e) [
      | inl l ↦ inl (omega (arith, l, vector-get n v a (h v (inl refl)), vector-get n v b (h v (inl refl))))
      | inr p ↦ inr (omega (arith, p.0, vector-get n v a (h v (inl refl)), vector-get n v b (h v (inl refl))), along-lex n vs a b (λ w m. h w (inr m)) p.1)
    ]

lex-along : (n : ℕ) (vs : List ℕ) (a b : Pairs) → Below vs n → Lex vs (vector n a) (vector n b) → along vs a b ≡ Less
lex-along n [] a b h l = absurd l
lex-along n (v ∷ vs) a b h (inl l) =
    less-then (exponent v a) (exponent v b) (along vs a b) (inl (omega (arith, l, vector-get n v a (h v (inl refl)), vector-get n v b (h v (inl refl)))))
lex-along n (v ∷ vs) a b h (inr p) = less-then (exponent v a) (exponent v b) (along vs a b)
    (inr (omega (arith, p.0, vector-get n v a (h v (inl refl)), vector-get n v b (h v (inl refl))), lex-along n vs a b (λ w m. h w (inr m)) p.1))

-- less along the ranking is earlier
pub along-earlier : (sites : ℕ) (vars : List VarInfo) (o : List ℕ) (a b : Pairs) → is_laid_out sites vars ≡ true → length o ≡ sites → ArePlaces o
    → (along (ranking_of vars o) a b ≡ Less → Earlier (sites_of vars o) (vector (length vars) a) (vector (length vars) b))
    × (Earlier (sites_of vars o) (vector (length vars) a) (vector (length vars) b) → along (ranking_of vars o) a b ≡ Less)
along-earlier sites vars o a b h size p =
    let r = ranking-is sites vars o h size p in
    let q = lex-is (sites_of vars o) (ranking_of vars o) (vector (length vars) a) (vector (length vars) b) r.ranked r.all in
    ((λ e. q.0 (along-lex (length vars) (ranking_of vars o) a b r.below e)), λ e. lex-along (length vars) (ranking_of vars o) a b r.below (q.1 e))

-- ---- steps of the loops
-- one site more, from the end
pub drop-before : (xs : List ℕ) (n k : ℕ) → length xs ≡ n → k < n → drop (n - (k + 1)) xs ≡ get_or xs (n - 1 - k) 0 ∷ drop (n - k) xs
drop-before xs n k e h =
    let i : n - (k + 1) ≡ n - 1 - k = omega arith in
    let j : suc (n - 1 - k) ≡ n - k = omega arith in
    ap (λ z. drop z xs) i ∙ drop-cons xs (n - 1 - k) 0 (omega arith) ∙ ap (λ z. get_or xs (n - 1 - k) 0 ∷ drop z xs) j

-- once all sites are passed, the remaining ones are all
pub all-passed : (xs : List ℕ) (n k : ℕ) → n ≤ k → drop (n - k) xs ≡ xs
all-passed xs n k h = let z : n - k ≡ 0 = omega arith in rw z refl

-- the ranking of two lists of sites, one after the other, is that of the second list, and then that of the first
pub ranking-append : (vars : List VarInfo) (xs ys : List ℕ) → ranking_of vars (xs ++ ys) ≡ ranking_of vars ys ++ ranking_of vars xs
ranking-append vars [] ys = sym (append-nil (ranking_of vars ys))
ranking-append vars (x ∷ xs) ys =
    ap (λ z. z ++ vars_of x vars 0) (ranking-append vars xs ys) ∙ append_assoc (ranking_of vars ys) (ranking_of vars xs) (vars_of x vars 0)

-- the exponents differ among the variables of the sites after a place: that decides
pub decided : (vars : List VarInfo) (places : List ℕ) (j : ℕ) (a b : Pairs) (r : Ordering) → along (ranking_of vars (drop j places)) a b ≡ r
    → (r ≡ Equal → ⊥) → along (ranking_of vars places) a b ≡ r
decided vars places j a b r e ne =
    ap (λ z. along (ranking_of vars z) a b) (sym (take-append-drop j places))
    ∙ ap (λ z. along z a b) (ranking-append vars (take j places) (drop j places))
    ∙ along-append (ranking_of vars (drop j places)) (ranking_of vars (take j places)) a b
    ∙ ap (λ z. ordering_then z (along (ranking_of vars (take j places)) a b)) e
    ∙ stays r ne where
      stays : (r : Ordering) → (r ≡ Equal → ⊥) → ordering_then r (along (ranking_of vars (take j places)) a b) ≡ r
      stays Less n = refl
      stays Equal n = absurd (n refl)
      stays Greater n = refl

-- one site more
pub along-more : (vars : List VarInfo) (places : List ℕ) (n k : ℕ) (a b : Pairs) → length places ≡ n → k < n
    → along (ranking_of vars (drop (n - k) places)) a b ≡ Equal
    → along (ranking_of vars (drop (n - (k + 1)) places)) a b ≡ along (vars_of (get_or places (n - 1 - k) 0) vars 0) a b
along-more vars places n k a b size h e =
    ap (λ z. along (ranking_of vars z) a b) (drop-before places n k size h)
    ∙ along-append (ranking_of vars (drop (n - k) places)) (vars_of (get_or places (n - 1 - k) 0) vars 0) a b
    ∙ ap (λ z. ordering_then z (along (vars_of (get_or places (n - 1 - k) 0) vars 0) a b)) e

-- ---- the test
less-index : (r : Ordering) → (ordering_index r == 0) ≡ true → r ≡ Less
less-index Less e = refl
less-index Equal e = cc
less-index Greater e = cc

index-less : (r : Ordering) → r ≡ Less → (ordering_index r == 0) ≡ true
index-less r e = rw e refl

-- what was found along the ranking decides whether a is earlier
module _ (sites : ℕ) (vars : List VarInfo) (o : List ℕ) (a b : Pairs) (h : is_laid_out sites vars ≡ true) (size : length o ≡ sites) (p : ArePlaces o) where
  IsTested : Bool → Type 0
  IsTested t = (t ≡ true → Earlier (sites_of vars o) (vector (length vars) a) (vector (length vars) b))
      × (Earlier (sites_of vars o) (vector (length vars) a) (vector (length vars) b) → t ≡ true)

  tested : (r : Ordering) (t : Bool) → along (ranking_of vars o) a b ≡ r → t ≡ (ordering_index r == 0) → IsTested t
  unfolding IsTested
  tested r t e q =
      let both = along-earlier sites vars o a b h size p in
      ((λ z. both.0 (e ∙ less-index r (sym q ∙ z))), λ z. q ∙ index-less r (sym e ∙ both.1 z))

  -- the first site, from the last on, where the two differ
  pub tested-here : (vars' : List VarInfo) (places : List ℕ) (a' b' : Pairs) (n k : ℕ) (r : Ordering) (t : Bool) → vars' ≡ vars → places ≡ o
      → a' ≡ a → b' ≡ b → length places ≡ n → k < n
      → along (ranking_of vars' (drop (n - k) places)) a b ≡ Equal → r ≡ along (vars_of (get_or places (n - 1 - k) 0) vars' 0) a' b'
      → (r ≡ Equal → ⊥) → t ≡ (ordering_index r == 0)
      → (t ≡ true → Earlier (sites_of vars o) (vector (length vars) a) (vector (length vars) b))
      × (Earlier (sites_of vars o) (vector (length vars) a) (vector (length vars) b) → t ≡ true)
  unfolding IsTested
  tested-here vars' places a' b' n k r t ev ep ea eb en l inv e ne q =
      let f : r ≡ along (vars_of (get_or o (n - 1 - k) 0) vars 0) a b = rw (ev, ep, ea, eb) at e in
      let i : along (ranking_of vars (drop (n - k) o)) a b ≡ Equal = rw (ev, ep) at inv in
      let m : length o ≡ n = rw ep at en in
      tested r t (decided vars o (n - (k + 1)) a b r (along-more vars o n k a b m l i ∙ sym f) ne) q

  -- none where the two differ
  pub tested-nowhere : (vars' : List VarInfo) (places : List ℕ) (n k : ℕ) → vars' ≡ vars → places ≡ o → n ≤ k
      → along (ranking_of vars' (drop (n - k) places)) a b ≡ Equal
      → (false ≡ true → Earlier (sites_of vars o) (vector (length vars) a) (vector (length vars) b))
      × (Earlier (sites_of vars o) (vector (length vars) a) (vector (length vars) b) → false ≡ true)
  unfolding IsTested
  tested-nowhere vars' places n k ev ep l inv =
      let i : along (ranking_of vars (drop (n - k) o)) a b ≡ Equal = rw (ev, ep) at inv in
      tested Equal false (ap (λ z. along (ranking_of vars z) a b) (sym (all-passed o n k l)) ∙ i) refl
