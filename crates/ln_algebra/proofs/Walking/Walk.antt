-- The depth-first walk over the exponents returns the stage list.
use Rattle.std.proofs.Common.{◌≡◌, ◌≢◌, ℕ, ◌+◌, ◌<◌, ◌≤◌, zero, suc, refl, sym, ◌∙◌, ap, arith, List, [], ◌∷◌, ◌++◌, length, get_or, set}
use Rattle.std.proofs.Common.{Bool, true, false, leb, ◌⊎◌, inl, inr}
use Rattle.std.proofs.lemmas.Bool.{cases_order, cases_eq, leb-true, le-leb, and_parts}
use Rattle.std.proofs.lemmas.Grind.{same_number_lists}
use Rattle.std.proofs.lemmas.List.{get_or-set_same, get_or-set_other}
use Rattle.std.proofs.Math.ListN.{length-set}
use Rattle.ln_algebra.proofs.Expanded.Normal.{same_vector-is, same_vector-refl}
use Rattle.ln_algebra.specs.Vector.{In, same_vector}
use Rattle.ln_algebra.specs.Walk.{AllBelow, Found, all_same, at_least, before, steps, unless_none, walk}

-- a member of the first list is one of both
pub In-append_left : (xs ys : List (List ℕ)) (m : List ℕ) → In xs m → In (xs ++ ys) m
In-append_left [] ys m h = absurd h
In-append_left (x ∷ xs) ys m (inl e) = inl e
In-append_left (x ∷ xs) ys m (inr h) = inr (In-append_left xs ys m h)

-- and one of the second
pub In-append_right : (xs ys : List (List ℕ)) (m : List ℕ) → In ys m → In (xs ++ ys) m
In-append_right [] ys m h = h
In-append_right (x ∷ xs) ys m h = inr (In-append_right xs ys m h)

-- and there are no others
pub In-append : (xs ys : List (List ℕ)) (m : List ℕ) → In (xs ++ ys) m → In xs m ⊎ In ys m
In-append [] ys m h = inr h
In-append (x ∷ xs) ys m (inl e) = inl (inl e)
In-append (x ∷ xs) ys m (inr h) = elim (In-append xs ys m h) [ inl k ↦ inl (inr k) | inr k ↦ inr k ]

-- what is kept was there and has the exponent
pub at_least-in : (v e : ℕ) (ms : List (List ℕ)) (m : List ℕ) → In (at_least v e ms) m → In ms m × (e ≤ get_or m v 0)
at_least-in v e [] m h = absurd h
at_least-in v e (x ∷ ms) m h = by_case (leb e (get_or x v 0)) refl (at_least-in v e ms m) where
  by_case : (b : Bool) → leb e (get_or x v 0) ≡ b → (In (at_least v e ms) m → In ms m × (e ≤ get_or m v 0)) → In (x ∷ ms) m × (e ≤ get_or m v 0)
  by_case true d ih =
      (let k : In (x ∷ at_least v e ms) m = rw d at h in elim k [ inl q ↦ (inl q, rw q (leb-true e (get_or x v 0) d)) | inr q ↦ (inr (ih q).0, (ih q).1) ])
  by_case false d ih = (let k : In (at_least v e ms) m = rw d at h in (inr (ih k).0, (ih k).1))

-- and the other way
pub in-at_least : (v e : ℕ) (ms : List (List ℕ)) (m : List ℕ) → In ms m → e ≤ get_or m v 0 → In (at_least v e ms) m
in-at_least v e [] m h l = absurd h
in-at_least v e (x ∷ ms) m (inl q) l = let d : leb e (get_or x v 0) ≡ true = le-leb e (get_or x v 0) (rw (← q) l) in rw d (inl q)
in-at_least v e (x ∷ ms) m (inr h) l = by_case (leb e (get_or x v 0)) refl (in-at_least v e ms m h l) where
  by_case : (b : Bool) → leb e (get_or x v 0) ≡ b → In (at_least v e ms) m → In (at_least v e (x ∷ ms)) m
  by_case true d ih = rw d (inr ih)
  by_case false d ih = rw d ih

-- ---- on some variables alone
-- m has at least a's exponent in each of these variables
abbrev pub CoversOn : List ℕ → List ℕ → List ℕ → Type 0
CoversOn [] m a = Unit {0}
CoversOn (v ∷ vs) m a = (get_or a v 0 ≤ get_or m v 0) × CoversOn vs m a

-- a has the smaller exponent at the first of these variables in which the two differ
abbrev pub Lex : List ℕ → List ℕ → List ℕ → Type 0
Lex [] a b = ⊥
Lex (v ∷ vs) a b = (get_or a v 0 < get_or b v 0) ⊎ ((get_or a v 0 ≡ get_or b v 0) × Lex vs a b)

-- v is none of these variables
abbrev pub Fresh : ℕ → List ℕ → Type 0
Fresh v [] = Unit {0}
Fresh v (u ∷ vs) = (v ≢ u) × Fresh v vs

-- no variable occurs twice
abbrev pub Distinct : List ℕ → Type 0
Distinct [] = Unit {0}
Distinct (v ∷ vs) = Fresh v vs × Distinct vs

-- a is p but for the variables vs
pub record Region (vs p a : List ℕ) : Type 0 where
  pub size : length a ≡ length p
  pub off : (u : ℕ) → Fresh u vs → get_or a u 0 ≡ get_or p u 0

-- one of the vectors covers a on these variables
abbrev pub Covered : List ℕ → List (List ℕ) → List ℕ → Type 0
Covered vs ms a = (m : List ℕ) × In ms m × CoversOn vs m a

-- a is one of the vectors, and no other of them covers it on these variables
pub record Last (vs : List ℕ) (ms : List (List ℕ)) (a : List ℕ) : Type 0 where
  pub here : In ms a
  pub only : (m : List ℕ) → In ms m → CoversOn vs m a → m ≡ a

-- each is before all that follow it
abbrev pub Sorted : List ℕ → List (List ℕ) → Type 0
Sorted vs [] = Unit {0}
Sorted vs (x ∷ xs) = ((y : List ℕ) → In xs y → Lex vs x y) × Sorted vs xs

-- the list of a region, from the exponent e of its first variable on; stop is whether it was cut
pub record Listing (Here : List ℕ → Type 0) (vs : List ℕ) (ms : List (List ℕ)) (found : List (List ℕ)) (stop : Bool) : Type 0 where
  pub inside : (a : List ℕ) → In found a → Here a
  pub covered : (a : List ℕ) → In found a → Covered vs ms a
  pub uncut : (a : List ℕ) → In found a → (b : List ℕ) → Here b → Last vs ms b → Lex vs b a → ⊥
  pub complete : (a : List ℕ) → Here a → Covered vs ms a → ((b : List ℕ) → Here b → Last vs ms b → Lex vs b a → ⊥) → In found a
  pub cut : stop ≡ true → (b : List ℕ) × Here b × Last vs ms b
  pub open_end : stop ≡ false → (b : List ℕ) → Here b → Last vs ms b → ⊥
  pub sorted : Sorted vs found

-- ---- one variable fixed
-- the vectors of the region whose exponent of v is at least e
abbrev pub From : ℕ → List ℕ → List ℕ → ℕ → List ℕ → Type 0
From v vs p e a = Region (v ∷ vs) p a × (e ≤ get_or a v 0)

module _ (v : ℕ) (vs : List ℕ) (fresh : Fresh v vs) (p : List ℕ) (inside_p : v < length p) (e : ℕ) where
  -- where v has the exponent e, the region of the others
  pub down : (a : List ℕ) → Region (v ∷ vs) p a → get_or a v 0 ≡ e → Region vs (set p v e) a
  down a r q = record { size = r.size ∙ sym (length-set p v e); off = λ u f. by_case u f (cases_eq u v) } where
    by_case : (u : ℕ) → Fresh u vs → (u ≡ v) ⊎ (u ≡ v → ⊥) → get_or a u 0 ≡ get_or (set p v e) u 0
    by_case u f (inl d) = rw d (q ∙ sym (get_or-set_same p v e 0 inside_p))
    by_case u f (inr d) = r.off u (d, f) ∙ sym (get_or-set_other p v u e 0 d)

  -- and the other way
  pub up : (a : List ℕ) → Region vs (set p v e) a → Region (v ∷ vs) p a
  up a r = record { size = r.size ∙ length-set p v e; off = λ u f. r.off u f.1 ∙ get_or-set_other p v u e 0 f.0 }

  -- there v has the exponent e
  pub fixed : (a : List ℕ) → Region vs (set p v e) a → get_or a v 0 ≡ e
  fixed a r = r.off v fresh ∙ get_or-set_same p v e 0 inside_p

module _ (v : ℕ) (vs : List ℕ) (ms : List (List ℕ)) (e : ℕ) where
  -- the cut with v fixed
  last_down : (b : List ℕ) → Last (v ∷ vs) ms b → get_or b v 0 ≡ e → Last vs (at_least v e ms) b
  last_down b l q = record {
    here = in-at_least v e ms b l.here (omega arith);
    only = λ m h c. (let k = at_least-in v e ms m h in l.only m k.0 (omega (arith, k.1), c));
  }

  -- and the other way
  last_up : (b : List ℕ) → Last vs (at_least v e ms) b → get_or b v 0 ≡ e → Last (v ∷ vs) ms b
  last_up b l q = record { here = (at_least-in v e ms b l.here).0; only = λ m h c. l.only m (in-at_least v e ms m h (omega (arith, c.0))) c.1 }

  -- covered with v fixed
  cov_down : (a : List ℕ) → Covered (v ∷ vs) ms a → get_or a v 0 ≡ e → Covered vs (at_least v e ms) a
  cov_down a c q = (c.0, in-at_least v e ms c.0 c.1 (omega (arith, c.2.0)), c.2.1)

  -- and the other way
  cov_up : (a : List ℕ) → Covered vs (at_least v e ms) a → get_or a v 0 ≡ e → Covered (v ∷ vs) ms a
  cov_up a c q = let k = at_least-in v e ms c.0 c.1 in (c.0, k.0, (omega (arith, k.1), c.2))

-- ---- the steps
-- two sorted lists, all of one before all of the other
Sorted-append : (vs : List ℕ) (xs ys : List (List ℕ)) → Sorted vs xs → Sorted vs ys → ((x y : List ℕ) → In xs x → In ys y → Lex vs x y) → Sorted vs (xs ++ ys)
Sorted-append vs [] ys s t h = t
Sorted-append vs (x ∷ xs) ys s t h =
    ((λ y i. elim (In-append xs ys y i) [ inl k ↦ s.0 y k | inr k ↦ h x y (inl refl) k ]), Sorted-append vs xs ys s.1 t (λ u w i j. h u w (inr i) j))

-- a variable more, at which all are equal
Sorted-more : (v : ℕ) (vs : List ℕ) (e : ℕ) (xs : List (List ℕ)) → Sorted vs xs → ((x : List ℕ) → In xs x → get_or x v 0 ≡ e) → Sorted (v ∷ vs) xs
Sorted-more v vs e [] s h = tt
Sorted-more v vs e (x ∷ xs) s h = ((λ y i. inr (h x (inl refl) ∙ sym (h y (inr i)), s.0 y i)), Sorted-more v vs e xs s.1 (λ y i. h y (inr i)))

-- no vector is covered where none reaches e
listing-none : (v : ℕ) (vs p : List ℕ) (ms : List (List ℕ)) (e : ℕ) → ((m : List ℕ) → In (at_least v e ms) m → ⊥) → Listing (From v vs p e) (v ∷ vs) ms [] false
listing-none v vs p ms e no_one = record {
  inside = λ a i. absurd i;
  covered = λ a i. absurd i;
  uncut = λ a i. absurd i;
  complete = λ a h c u. no_one c.0 (in-at_least v e ms c.0 c.1 (omega (arith, h.1, c.2.0)));
  cut = λ q. cc;
  open_end = λ q b h l. no_one b (in-at_least v e ms b l.here h.1);
  sorted = tt;
}

module _ (v : ℕ) (vs : List ℕ) (fresh : Fresh v vs) (p : List ℕ) (inside_p : v < length p) (ms : List (List ℕ)) (e : ℕ) (L : List (List ℕ)) where
  -- what has the exponent e is from e on
  from_here : (a : List ℕ) → Region vs (set p v e) a → From v vs p e a
  from_here a r = let q : get_or a v 0 ≡ e = fixed v vs fresh p inside_p e a r in (up v vs fresh p inside_p e a r, omega (arith, q))

  -- the first exponent's list ends the whole
  listing-cut : Listing (Region vs (set p v e)) vs (at_least v e ms) L true → Listing (From v vs p e) (v ∷ vs) ms L true
  listing-cut x = record {
    inside = λ a i. from_here a (x.inside a i);
    covered = λ a i. cov_up v vs ms e a (x.covered a i) (at a i);
    uncut = λ a i b h l. uncut a i b h l (x.uncut a i);
    complete = λ a h c u. complete a h c u (cases_order (get_or a v 0) e);
    cut = λ q. let b = x.cut refl in (b.0, from_here b.0 b.1, last_up v vs ms e b.0 b.2 (fixed v vs fresh p inside_p e b.0 b.1));
    open_end = λ q. cc;
    sorted = Sorted-more v vs e L x.sorted at;
  } where
    at : (a : List ℕ) → In L a → get_or a v 0 ≡ e
    at a i = fixed v vs fresh p inside_p e a (x.inside a i)

    uncut : (a : List ℕ) → In L a → (b : List ℕ) → From v vs p e b → Last (v ∷ vs) ms b
        → ((b : List ℕ) → Region vs (set p v e) b → Last vs (at_least v e ms) b → Lex vs b a → ⊥) → Lex (v ∷ vs) b a → ⊥
    uncut a i b h l k (inl less) = omega (arith, less, h.1, at a i)
    uncut a i b h l k (inr r) = let q : get_or b v 0 ≡ e = r.0 ∙ at a i in k b (down v vs fresh p inside_p e b h.0 q) (last_down v vs ms e b l q) r.1

    complete : (a : List ℕ) → From v vs p e a → Covered (v ∷ vs) ms a → ((b : List ℕ) → From v vs p e b → Last (v ∷ vs) ms b → Lex (v ∷ vs) b a → ⊥)
        → (get_or a v 0 ≡ e) ⊎ ((get_or a v 0 < e) ⊎ (e < get_or a v 0)) → In L a
    complete a h c u (inl q) = x.complete a (down v vs fresh p inside_p e a h.0 q) (cov_down v vs ms e a c q)
        (λ b r l k. let z : get_or b v 0 ≡ e = fixed v vs fresh p inside_p e b r in u b (from_here b r) (last_up v vs ms e b l z) (inr (z ∙ sym q, k)))
    complete a h c u (inr (inl less)) = absurd (omega (arith, less, h.1))
    complete a h c u (inr (inr more)) =
        let b = x.cut refl in
        let z : get_or b.0 v 0 ≡ e = fixed v vs fresh p inside_p e b.0 b.1 in
        absurd (u b.0 (from_here b.0 b.1) (last_up v vs ms e b.0 b.2 z) (inl (omega (arith, z, more))))

  -- the first exponent's list goes before the others
  listing-join : (M : List (List ℕ)) (stop : Bool) → Listing (Region vs (set p v e)) vs (at_least v e ms) L false
      → Listing (From v vs p (suc e)) (v ∷ vs) ms M stop → Listing (From v vs p e) (v ∷ vs) ms (L ++ M) stop
  listing-join M stop x y = record {
    inside = λ a i. elim (In-append L M a i) [ inl k ↦ from_here a (x.inside a k) | inr k ↦ later a (y.inside a k) ];
    covered = λ a i. elim (In-append L M a i) [ inl k ↦ cov_up v vs ms e a (x.covered a k) (at a k) | inr k ↦ y.covered a k ];
    uncut = λ a i b h l. uncut a (In-append L M a i) b h l;
    complete = λ a h c u. complete a h c u (cases_order (get_or a v 0) e);
    cut = λ q. let b = y.cut q in (b.0, later b.0 b.1, b.2);
    open_end = λ q b h l. open_end q b h l (cases_order (get_or b v 0) e);
    sorted = Sorted-append (v ∷ vs) L M (Sorted-more v vs e L x.sorted at) y.sorted (λ s t i j. inl (omega (arith, at s i, (y.inside t j).1)));
  } where
    at : (a : List ℕ) → In L a → get_or a v 0 ≡ e
    at a i = fixed v vs fresh p inside_p e a (x.inside a i)

    later : (a : List ℕ) → From v vs p (suc e) a → From v vs p e a
    later a h = (h.0, omega (arith, h.1))

    none_here : (b : List ℕ) → From v vs p e b → Last (v ∷ vs) ms b → get_or b v 0 ≡ e → ⊥
    none_here b h l q = x.open_end refl b (down v vs fresh p inside_p e b h.0 q) (last_down v vs ms e b l q)

    uncut : (a : List ℕ) → In L a ⊎ In M a → (b : List ℕ) → From v vs p e b → Last (v ∷ vs) ms b → Lex (v ∷ vs) b a → ⊥
    uncut a (inl i) b h l (inl less) = omega (arith, less, h.1, at a i)
    uncut a (inl i) b h l (inr r) = none_here b h l (r.0 ∙ at a i)
    uncut a (inr i) b h l k = by_case (cases_order (get_or b v 0) e) where
      by_case : (get_or b v 0 ≡ e) ⊎ ((get_or b v 0 < e) ⊎ (e < get_or b v 0)) → ⊥
      by_case (inl q) = none_here b h l q
      by_case (inr (inl less)) = omega (arith, less, h.1)
      by_case (inr (inr more)) = y.uncut a i b (h.0, more) l k

    complete : (a : List ℕ) → From v vs p e a → Covered (v ∷ vs) ms a → ((b : List ℕ) → From v vs p e b → Last (v ∷ vs) ms b → Lex (v ∷ vs) b a → ⊥)
        → (get_or a v 0 ≡ e) ⊎ ((get_or a v 0 < e) ⊎ (e < get_or a v 0)) → In (L ++ M) a
    complete a h c u (inl q) = In-append_left L M a (x.complete a (down v vs fresh p inside_p e a h.0 q) (cov_down v vs ms e a c q)
        (λ b r l k. let z : get_or b v 0 ≡ e = fixed v vs fresh p inside_p e b r in u b (from_here b r) (last_up v vs ms e b l z) (inr (z ∙ sym q, k))))
    complete a h c u (inr (inl less)) = absurd (omega (arith, less, h.1))
    complete a h c u (inr (inr more)) = In-append_right L M a (y.complete a (h.0, more) c (λ b r l k. u b (later b r) l k))

    open_end : stop ≡ false → (b : List ℕ) → From v vs p e b → Last (v ∷ vs) ms b → (get_or b v 0 ≡ e) ⊎ ((get_or b v 0 < e) ⊎ (e < get_or b v 0)) → ⊥
    open_end q b h l (inl z) = none_here b h l z
    open_end q b h l (inr (inl less)) = omega (arith, less, h.1)
    open_end q b h l (inr (inr more)) = y.open_end q b (h.0, more) l

-- ---- the walk
-- then each is
pub all_same-is : (ms : List (List ℕ)) (a m : List ℕ) → all_same ms a ≡ true → In ms m → m ≡ a
all_same-is [] a m h i = absurd i
all_same-is (x ∷ ms) a m h (inl q) = q ∙ same_vector-is x a (and_parts (same_vector x a) (all_same ms a) h).0
all_same-is (x ∷ ms) a m h (inr i) = all_same-is ms a m (and_parts (same_vector x a) (all_same ms a) h).1 i

-- and the other way
pub is-all_same : (ms : List (List ℕ)) (a : List ℕ) → ((m : List ℕ) → In ms m → m ≡ a) → all_same ms a ≡ true
is-all_same [] a h = refl
is-all_same (x ∷ ms) a h =
    let q : x ≡ a = h x (inl refl) in
    let s : same_vector x a ≡ true = rw q (same_vector-refl a) in
    rw s (is-all_same ms a (λ m i. h m (inr i)))

-- where no variable remains the region is one vector
pub region-end : (p a : List ℕ) → Region [] p a → a ≡ p
region-end p a r = same_number_lists a p r.size (λ k l. r.off k tt)

-- and the list is that vector
listing-end : (m : List ℕ) (ms : List (List ℕ)) (p : List ℕ) → Listing (Region [] p) [] (m ∷ ms) (p ∷ []) (all_same (m ∷ ms) p)
listing-end m ms p = record {
  inside = λ a i. inside a i;
  covered = λ a i. (m, inl refl, tt);
  uncut = λ a i b h l k. k;
  complete = λ a h c u. inl (region-end p a h);
  cut = λ q. (
    p,
    record { size = refl; off = λ u f. refl },
    record { here = (let z : m ≡ p = all_same-is (m ∷ ms) p m q (inl refl) in inl (sym z)); only = λ n i c. all_same-is (m ∷ ms) p n q i },
  );
  open_end = λ q b h l. (let z : b ≡ p = region-end p b h in
      let s : all_same (m ∷ ms) p ≡ true = is-all_same (m ∷ ms) p (λ n i. l.only n i tt ∙ z) in let f : true ≡ false = sym s ∙ q in cc);
  sorted = ((λ y i. absurd i), tt);
} where
  inside : (a : List ℕ) → In (p ∷ []) a → Region [] p a
  inside a (inl q) = record { size = ap length q; off = λ u f. ap (λ z. get_or z u 0) q }
  inside a (inr i) = absurd i

-- each variable of the list is below n
abbrev pub Inside : List ℕ → ℕ → Type 0
Inside [] n = Unit {0}
Inside (v ∷ vs) n = (v < n) × Inside vs n

-- nothing, where there are no vectors
pub unless_none-nil : (l : List (List ℕ)) (r : Found) → l ≡ [] → unless_none l r ≡ ([], false)
unless_none-nil [] r d = refl
unless_none-nil (m ∷ l) r d = cc

-- and all, where there is one
pub unless_none-cons : (l : List (List ℕ)) (m : List ℕ) (k : List (List ℕ)) (r : Found) → l ≡ m ∷ k → unless_none l r ≡ r
unless_none-cons [] m k r d = cc
unless_none-cons (x ∷ l) m k r d = refl

-- an empty list has no member
pub no_member : (l : List (List ℕ)) (m : List ℕ) → l ≡ [] → In l m → ⊥
no_member [] m d i = i
no_member (x ∷ l) m d i = cc

-- the first is a member
first_member : (l : List (List ℕ)) (m : List ℕ) (k : List (List ℕ)) → l ≡ m ∷ k → In l m
first_member l m k d = rw d (inl refl)

module _ (v : ℕ) (vs : List ℕ) (fresh : Fresh v vs) (p : List ℕ) (inside_p : v < length p) (ms : List (List ℕ)) (bound : ℕ)
    (small : AllBelow bound ms) (go : List (List ℕ) → List ℕ → Found) where
  -- the exponents from e on, one after the other
  listing-steps : ((e : ℕ) (m : List ℕ) → In (at_least v e ms) m
      → Listing (Region vs (set p v e)) vs (at_least v e ms) (go (at_least v e ms) (set p v e)).0 (go (at_least v e ms) (set p v e)).1)
      → (k e : ℕ) → k + e ≡ bound → Listing (From v vs p e) (v ∷ vs) ms (steps go v ms p k e).0 (steps go v ms p k e).1
  listing-steps each zero e q = listing-none v vs p ms e (λ m i. (let k = at_least-in v e ms m i in omega (arith, k.1, small m v k.0)))
  listing-steps each (suc k) e q = by_list (at_least v e ms) refl (listing-steps each k (suc e) (omega arith)) where
    by_stop : (b : Bool) → (go (at_least v e ms) (set p v e)).1 ≡ b
        → Listing (Region vs (set p v e)) vs (at_least v e ms) (go (at_least v e ms) (set p v e)).0 (go (at_least v e ms) (set p v e)).1
        → Listing (From v vs p (suc e)) (v ∷ vs) ms (steps go v ms p k (suc e)).0 (steps go v ms p k (suc e)).1 → Listing (From v vs p e) (v ∷ vs) ms
        (before (go (at_least v e ms) (set p v e)) (steps go v ms p k (suc e))).0 (before (go (at_least v e ms) (set p v e)) (steps go v ms p k (suc e))).1
    by_stop true d x y = rw d (listing-cut v vs fresh p inside_p ms e (go (at_least v e ms) (set p v e)).0 (rw d at x))
    by_stop false d x y = rw d
        (listing-join v vs fresh p inside_p ms e (go (at_least v e ms) (set p v e)).0 (steps go v ms p k (suc e)).0 (steps go v ms p k (suc e)).1 (rw d at x) y)

    by_list : (l : List (List ℕ)) → at_least v e ms ≡ l → Listing (From v vs p (suc e)) (v ∷ vs) ms (steps go v ms p k (suc e)).0 (steps go v ms p k (suc e)).1
        → Listing (From v vs p e) (v ∷ vs) ms (steps go v ms p (suc k) e).0 (steps go v ms p (suc k) e).1
    by_list [] d y =
        let z : unless_none (at_least v e ms) (before (go (at_least v e ms) (set p v e)) (steps go v ms p k (suc e))) ≡ ([], false) =
        unless_none-nil (at_least v e ms) _ d in
        rw z (listing-none v vs p ms e (λ m i. no_member (at_least v e ms) m d i))
    by_list (m ∷ l) d y =
        let z : unless_none (at_least v e ms) (before (go (at_least v e ms) (set p v e)) (steps go v ms p k (suc e)))
        ≡ before (go (at_least v e ms) (set p v e)) (steps go v ms p k (suc e)) = unless_none-cons (at_least v e ms) m l _ d in
        rw z (by_stop (go (at_least v e ms) (set p v e)).1 refl (each e m (first_member (at_least v e ms) m l d)) y)

-- what is kept stays below the bound
pub below_at_least : (bound v e : ℕ) (ms : List (List ℕ)) → AllBelow bound ms → AllBelow bound (at_least v e ms)
below_at_least bound v e ms h m u i = h m u (at_least-in v e ms m i).0

-- a vector with one exponent changed is as long
pub inside_set : (vs : List ℕ) (p : List ℕ) (v e : ℕ) → Inside vs (length p) → Inside vs (length (set p v e))
inside_set vs p v e h = rw length-set h

-- from the exponent 0 on is all
region_from : (v : ℕ) (vs p : List ℕ) (ms found : List (List ℕ)) (stop : Bool) → Listing (From v vs p 0) (v ∷ vs) ms found stop
    → Listing (Region (v ∷ vs) p) (v ∷ vs) ms found stop
region_from v vs p ms found stop x = record {
  inside = λ a i. (x.inside a i).0;
  covered = x.covered;
  uncut = λ a i b h l k. x.uncut a i b (h, omega arith) l k;
  complete = λ a h c u. x.complete a (h, omega arith) c (λ b r l k. u b r.0 l k);
  cut = λ q. let b = x.cut q in (b.0, b.1.0, b.2);
  open_end = λ q b h l. x.open_end q b (h, omega arith) l;
  sorted = x.sorted;
}

-- nothing is covered where there are no monomials
listing-empty : (p : List ℕ) → Listing (Region [] p) [] [] [] false
listing-empty p = record {
  inside = λ a i. absurd i;
  covered = λ a i. absurd i;
  uncut = λ a i. absurd i;
  complete = λ a h c u. c.1;
  cut = λ q. cc;
  open_end = λ q b h l. l.here;
  sorted = tt;
}

-- the walk returns the list of its region
pub listing-walk : (bound : ℕ) (vs : List ℕ) (ms : List (List ℕ)) (p : List ℕ) → Distinct vs → Inside vs (length p) → AllBelow bound ms
    → Listing (Region vs p) vs ms (walk bound vs ms p).0 (walk bound vs ms p).1
listing-walk bound [] [] p d i h = listing-empty p
listing-walk bound [] (m ∷ ms) p d i h = listing-end m ms p
listing-walk bound (v ∷ vs) ms p d i h =
    region_from v vs p ms (walk bound (v ∷ vs) ms p).0 (walk bound (v ∷ vs) ms p).1
    (listing-steps v vs d.0 p i.0 ms bound h (walk bound vs)
    (λ e n j. listing-walk bound vs (at_least v e ms) (set p v e) d.1 (inside_set vs p v e i.1) (below_at_least bound v e ms h))
    bound 0 (omega arith))
