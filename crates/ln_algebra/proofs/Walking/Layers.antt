-- The walk over degrees, layer by layer, lists the graded stages in order, up to the cut.
use Rattle.std.proofs.Common.{◌≡◌, ℕ, ◌+◌, ◌<◌, ◌≤◌, zero, suc, refl, sym, ◌∙◌, ap, arith, List, [], ◌∷◌, length, get_or, set, true, false, ◌⊎◌, inl, inr}
use Rattle.std.proofs.lemmas.Bool.{cases_lt}
use Rattle.ln_algebra.proofs.Walking.Walk.{CoversOn, Distinct, Fresh, Inside, Last, Lex, Region, all_same-is, at_least-in, down, fixed}
use Rattle.ln_algebra.proofs.Walking.Walk.{in-at_least, inside_set, is-all_same, no_member, region-end, unless_none-cons, unless_none-nil}
use Rattle.ln_algebra.proofs.Walking.Walk.{up}
use Rattle.ln_algebra.proofs.Walking.Walk as walk_of
use Rattle.ln_algebra.specs.Vector.{In}
use Rattle.ln_algebra.specs.Walk.{Found, all_same, at_least, before, unless_none}
use Rattle.ln_algebra.specs.Layers.{DegreesBelow, NoneReaches, degree_on, ending, layers, steps_at, walk_at}
use Rattle.ln_algebra.proofs.Walking.Listings.{Listing, Parted, Same, listing-cut, listing-join, listing-moves, listing-none}

-- what covers on some variables has at least the degree there
covers-on : (vs m a : List ℕ) → CoversOn vs m a → degree_on vs a ≤ degree_on vs m
covers-on [] m a c = omega arith
covers-on (v ∷ vs) m a c = omega (arith, c.0, covers-on vs m a c.1)

-- ---- one degree
-- a is p but for the variables vs, whose exponents sum up to d
abbrev pub HereAt : List ℕ → ℕ → List ℕ → List ℕ → Type 0
HereAt vs d p a = Region vs p a × (degree_on vs a ≡ d)

-- the same with the exponent e of v, or more
abbrev FromAt : ℕ → List ℕ → ℕ → List ℕ → ℕ → List ℕ → Type 0
FromAt v vs d p e a = HereAt (v ∷ vs) d p a × (e ≤ get_or a v 0)

abbrev OneAt : ℕ → List ℕ → ℕ → List ℕ → ℕ → List ℕ → Type 0
OneAt v vs d p e a = HereAt (v ∷ vs) d p a × (get_or a v 0 ≡ e)

module _ (v : ℕ) (vs : List ℕ) (fresh : Fresh v vs) (p : List ℕ) (inside_p : v < length p) (ms : List (List ℕ)) (e left whole : ℕ)
    (sum : left + e ≡ whole) where
  abbrev kept : List (List ℕ)
  kept = at_least v e ms

  -- with v fixed to e, what the rest has to reach remains
  fixed-same : Same (Lex vs) (Lex (v ∷ vs)) (HereAt vs left (set p v e)) (OneAt v vs whole p e) (walk_of.Covered vs kept)
      (walk_of.Covered (v ∷ vs) ms) (Last vs kept) (Last (v ∷ vs) ms)
  fixed-same = record {
    to = λ a h. ((up v vs fresh p inside_p e a h.0, omega (arith, at a h, h.1, sum)), at a h);
    from = λ a h. (down v vs fresh p inside_p e a h.0.0 h.1, omega (arith, h.0.1, h.1, sum));
    covered_to = λ a h c. let j = at_least-in v e ms c.0 c.1 in (c.0, j.0, (omega (arith, j.1, at a h), c.2));
    covered_from = λ a h c. (c.0, in-at_least v e ms c.0 c.1 (omega (arith, at a h, c.2.0)), c.2.1);
    last_to = λ a h l. record {
      here = (at_least-in v e ms a l.here).0;
      only = λ m i c. l.only m (in-at_least v e ms m i (omega (arith, at a h, c.0))) c.1;
    };
    last_from = λ a h l. record {
      here = in-at_least v e ms a l.here (omega (arith, at a h));
      only = λ m i c. let j = at_least-in v e ms m i in l.only m j.0 (omega (arith, j.1, at a h), c);
    };
    order_to = λ a b h g l. inr (at a h ∙ sym (at b g), l);
    order_from = λ a b h g l. elim l [ inl less ↦ absurd (omega (arith, less, at a h, at b g)) | inr r ↦ r.1 ];
  } where
    at : (a : List ℕ) → HereAt vs left (set p v e) a → get_or a v 0 ≡ e
    at a h = fixed v vs fresh p inside_p e a h.0

  -- the exponent e, and those from the next on
  parted : Parted (Lex (v ∷ vs)) (FromAt v vs whole p e) (OneAt v vs whole p e) (FromAt v vs whole p (suc e))
  parted = record {
    parts = λ a h. elim (cases_lt e (get_or a v 0)) [ inl l ↦ inr (h.0, omega (arith, l)) | inr l ↦ inl (h.0, omega (arith, l, h.1)) ];
    of_first = λ a h. (h.0, omega (arith, h.1));
    of_second = λ a h. (h.0, omega (arith, h.1));
    in_order = λ a b h g. inl (omega (arith, h.1, g.1));
    not_back = λ a b h g l. elim l [ inl less ↦ absurd (omega (arith, less, h.1, g.1)) | inr r ↦ absurd (omega (arith, r.0, h.1, g.1)) ];
  }

-- a list of the first part before one of the second, with the cut between
joined : (order : List ℕ → List ℕ → Type 0) (here first second covered last : List ℕ → Type 0) → Parted order here first second → (r s : Found)
    → Listing order first covered last r.0 r.1 → Listing order second covered last s.0 s.1 → Listing order here covered last (before r s).0 (before r s).1
joined order here first second covered last p (l, true) s x y = listing-cut order here first second covered last p l x
joined order here first second covered last p (l, false) s x y = listing-join order here first second covered last p l s.0 s.1 x y

module _ (v : ℕ) (vs : List ℕ) (fresh : Fresh v vs) (p : List ℕ) (inside_p : v < length p) (ms : List (List ℕ)) (whole : ℕ)
    (go : ℕ → List (List ℕ) → List ℕ → Found)
    (each : (left e : ℕ) → Listing (Lex vs) (HereAt vs left (set p v e)) (walk_of.Covered vs (at_least v e ms)) (Last vs (at_least v e ms))
    (go left (at_least v e ms) (set p v e)).0 (go left (at_least v e ms) (set p v e)).1) where
  -- what go lists, with v fixed
  one : (left e : ℕ) → left + e ≡ whole → Listing (Lex (v ∷ vs)) (OneAt v vs whole p e) (walk_of.Covered (v ∷ vs) ms) (Last (v ∷ vs) ms)
      (go left (at_least v e ms) (set p v e)).0 (go left (at_least v e ms) (set p v e)).1
  one left e q = listing-moves (Lex vs) (Lex (v ∷ vs)) (HereAt vs left (set p v e)) (OneAt v vs whole p e)
      (walk_of.Covered vs (at_least v e ms)) (walk_of.Covered (v ∷ vs) ms) (Last vs (at_least v e ms)) (Last (v ∷ vs) ms)
      (go left (at_least v e ms) (set p v e)).0 (go left (at_least v e ms) (set p v e)).1 (fixed-same v vs fresh p inside_p ms e left whole q) (each left e)

  -- the exponents from e on
  listing-steps : (k e : ℕ) → k + e ≡ suc whole
      → Listing (Lex (v ∷ vs)) (FromAt v vs whole p e) (walk_of.Covered (v ∷ vs) ms) (Last (v ∷ vs) ms) (steps_at go v ms p k e).0 (steps_at go v ms p k e).1
  listing-steps zero e q = listing-none (Lex (v ∷ vs)) (FromAt v vs whole p e) (walk_of.Covered (v ∷ vs) ms) (Last (v ∷ vs) ms)
      (λ a h c. omega (arith, h.0.1, h.1, q)) (λ a h l. omega (arith, h.0.1, h.1, q))
  listing-steps (suc left) e q = by_list (at_least v e ms) refl (listing-steps left (suc e) (omega (arith, q))) where
    rest : Found
    rest = steps_at go v ms p left (suc e)

    first : Found
    first = go left (at_least v e ms) (set p v e)

    by_list : (l : List (List ℕ)) → at_least v e ms ≡ l
        → Listing (Lex (v ∷ vs)) (FromAt v vs whole p (suc e)) (walk_of.Covered (v ∷ vs) ms) (Last (v ∷ vs) ms) rest.0 rest.1 → Listing (Lex (v ∷ vs))
        (FromAt v vs whole p e) (walk_of.Covered (v ∷ vs) ms) (Last (v ∷ vs) ms) (steps_at go v ms p (suc left) e).0 (steps_at go v ms p (suc left) e).1
    by_list [] d y =
        let z : unless_none (at_least v e ms) (before first rest) ≡ ([], false) = unless_none-nil (at_least v e ms) (before first rest) d in
        rw z (listing-none (Lex (v ∷ vs)) (FromAt v vs whole p e) (walk_of.Covered (v ∷ vs) ms) (Last (v ∷ vs) ms)
        (λ a h c. no_member (at_least v e ms) c.0 d (in-at_least v e ms c.0 c.1 (omega (arith, h.1, c.2.0))))
        (λ a h l. no_member (at_least v e ms) a d (in-at_least v e ms a l.here h.1)))
    by_list (m ∷ l) d y =
        let z : unless_none (at_least v e ms) (before first rest) ≡ before first rest = unless_none-cons (at_least v e ms) m l (before first rest) d in
        rw z (joined (Lex (v ∷ vs)) (FromAt v vs whole p e) (OneAt v vs whole p e) (FromAt v vs whole p (suc e)) (walk_of.Covered (v ∷ vs) ms)
        (Last (v ∷ vs) ms) (parted v vs fresh p inside_p ms e left whole (omega (arith, q))) first rest (one left e (omega (arith, q))) y)

-- ---- where no variable remains
listing-end : (d : ℕ) (ms : List (List ℕ)) (p : List ℕ)
    → Listing (Lex []) (HereAt [] d p) (walk_of.Covered [] ms) (Last [] ms) (ending d ms p).0 (ending d ms p).1
listing-end (suc d) ms p =
    listing-none (Lex []) (HereAt [] (suc d) p) (walk_of.Covered [] ms) (Last [] ms) (λ a h c. omega (arith, h.1)) (λ a h l. omega (arith, h.1))
listing-end zero [] p = listing-none (Lex []) (HereAt [] 0 p) (walk_of.Covered [] []) (Last [] []) (λ a h c. c.1) (λ a h l. l.here)
listing-end zero (m ∷ ms) p = record {
  inside = λ a i. inside a i;
  are_covered = λ a i. (m, inl refl, tt);
  uncut = λ a i b h l k. k;
  complete = λ a h c u. inl (region-end p a h.0);
  cut = λ q. (
    p,
    (record { size = refl; off = λ u f. refl }, refl),
    record { here = (let z : m ≡ p = all_same-is (m ∷ ms) p m q (inl refl) in inl (sym z)); only = λ n i c. all_same-is (m ∷ ms) p n q i },
  );
  open_end = λ q b h l. (let z : b ≡ p = region-end p b h.0 in
      let s : all_same (m ∷ ms) p ≡ true = is-all_same (m ∷ ms) p (λ n i. l.only n i tt ∙ z) in let f : true ≡ false = sym s ∙ q in cc);
  sorted = ((λ y i. absurd i), tt);
} where
  inside : (a : List ℕ) → In (p ∷ []) a → HereAt [] 0 p a
  inside a (inl q) = (record { size = ap length q; off = λ u f. ap (λ z. get_or z u 0) q }, refl)
  inside a (inr i) = absurd i

-- ---- the walk of one degree
-- the walk of one degree lists the covered vectors of that degree in order, up to the first last one
pub listing-at : (vs : List ℕ) (d : ℕ) (ms : List (List ℕ)) (p : List ℕ) → Distinct vs → Inside vs (length p)
    → Listing (Lex vs) (HereAt vs d p) (walk_of.Covered vs ms) (Last vs ms) (walk_at vs d ms p).0 (walk_at vs d ms p).1
listing-at [] d ms p t i = listing-end d ms p
listing-at (v ∷ vs) d ms p t i =
    listing-moves (Lex (v ∷ vs)) (Lex (v ∷ vs)) (FromAt v vs d p 0) (HereAt (v ∷ vs) d p) (walk_of.Covered (v ∷ vs) ms)
    (walk_of.Covered (v ∷ vs) ms) (Last (v ∷ vs) ms) (Last (v ∷ vs) ms)
    (steps_at (walk_at vs) v ms p (suc d) 0).0 (steps_at (walk_at vs) v ms p (suc d) 0).1 same
    (listing-steps v vs t.0 p i.0 ms d (walk_at vs) (λ left e. listing-at vs left (at_least v e ms) (set p v e) t.1 (inside_set vs p v e i.1))
    (suc d) 0 (omega arith))
  where
    same : Same (Lex (v ∷ vs)) (Lex (v ∷ vs)) (FromAt v vs d p 0) (HereAt (v ∷ vs) d p) (walk_of.Covered (v ∷ vs) ms)
        (walk_of.Covered (v ∷ vs) ms) (Last (v ∷ vs) ms) (Last (v ∷ vs) ms)
    same = record {
      to = λ a h. h.0;
      from = λ a h. (h, omega arith);
      covered_to = λ a h c. c;
      covered_from = λ a h c. c;
      last_to = λ a h l. l;
      last_from = λ a h l. l;
      order_to = λ a b h g l. l;
      order_from = λ a b h g l. l;
    }

-- ---- where the degree is out of reach nothing is listed
unless_none-same : (l : List (List ℕ)) (r : Found) → r ≡ ([], false) → unless_none l r ≡ ([], false)
unless_none-same [] r e = refl
unless_none-same (m ∷ l) r e = e

before-none : (r s : Found) → r ≡ ([], false) → s ≡ ([], false) → before r s ≡ ([], false)
before-none r s e f = rw (e, f) refl

steps-none : (v : ℕ) (vs : List ℕ) (ms : List (List ℕ)) (p : List ℕ) (whole : ℕ) (go : ℕ → List (List ℕ) → List ℕ → Found) →
    ((d : ℕ) (ks : List (List ℕ)) (q : List ℕ) → NoneReaches d vs ks → go d ks q ≡ ([], false)) → NoneReaches whole (v ∷ vs) ms →
    (k e : ℕ) → k + e ≡ suc whole → steps_at go v ms p k e ≡ ([], false)
steps-none v vs ms p whole go h low zero e q = refl
steps-none v vs ms p whole go h low (suc k) e q =
    let r : go k (at_least v e ms) (set p v e) ≡ ([], false) =
    h k (at_least v e ms) (set p v e) (λ m i. let j = at_least-in v e ms m i in omega (arith, low m j.0, j.1, q)) in
    let s : steps_at go v ms p k (suc e) ≡ ([], false) = steps-none v vs ms p whole go h low k (suc e) (omega (arith, q)) in
    unless_none-same (at_least v e ms) (before (go k (at_least v e ms) (set p v e)) (steps_at go v ms p k (suc e)))
    (before-none (go k (at_least v e ms) (set p v e)) (steps_at go v ms p k (suc e)) r s)

-- where no vector reaches the degree on these variables, the walk of that degree lists nothing and isn't cut
pub walk-none : (vs : List ℕ) (d : ℕ) (ms : List (List ℕ)) (p : List ℕ) → NoneReaches d vs ms → walk_at vs d ms p ≡ ([], false)
walk-none [] (suc d) ms p low = refl
walk-none [] zero [] p low = refl
walk-none [] zero (m ∷ ms) p low = absurd (omega (arith, low m (inl refl)))
walk-none (v ∷ vs) d ms p low = steps-none v vs ms p d (walk_at vs) (walk-none vs) low (suc d) 0 (omega arith)

-- ---- all degrees
-- by the degree on the variables first
abbrev pub Graded : List ℕ → List ℕ → List ℕ → Type 0
Graded vs a b = (degree_on vs a < degree_on vs b) ⊎ ((degree_on vs a ≡ degree_on vs b) × Lex vs a b)

-- a is p but for the variables vs, whose exponents sum up to at least d
abbrev pub FromDegree : List ℕ → ℕ → List ℕ → List ℕ → Type 0
FromDegree vs d p a = Region vs p a × (d ≤ degree_on vs a)

-- where each vector's degree is below the limit, the layers from d up to it list the covered vectors from degree d on, up to the cut
pub listing-layers : (vs : List ℕ) (ms : List (List ℕ)) (p : List ℕ) (limit : ℕ) → Distinct vs → Inside vs (length p) →
    DegreesBelow limit vs ms → (k d : ℕ) → k + d ≡ limit →
    Listing (Graded vs) (FromDegree vs d p) (walk_of.Covered vs ms) (Last vs ms) (layers k d vs ms p).0 (layers k d vs ms p).1
listing-layers vs ms p limit t i low zero d q =
    listing-none (Graded vs) (FromDegree vs d p) (walk_of.Covered vs ms) (Last vs ms)
    (λ a h c. omega (arith, h.1, covers-on vs c.0 a c.2, low c.0 c.1, q))
    (λ a h l. omega (arith, h.1, low a l.here, q))
listing-layers vs ms p limit t i low (suc k) d q =
    joined (Graded vs) (FromDegree vs d p) (HereAt vs d p) (FromDegree vs (suc d) p) (walk_of.Covered vs ms) (Last vs ms) parts
    (walk_at vs d ms p) (layers k (suc d) vs ms p)
    (listing-moves (Lex vs) (Graded vs) (HereAt vs d p) (HereAt vs d p) (walk_of.Covered vs ms) (walk_of.Covered vs ms) (Last vs ms)
    (Last vs ms) (walk_at vs d ms p).0 (walk_at vs d ms p).1 same (listing-at vs d ms p t i))
    (listing-layers vs ms p limit t i low k (suc d) (omega (arith, q))) where
      same : Same (Lex vs) (Graded vs) (HereAt vs d p) (HereAt vs d p) (walk_of.Covered vs ms) (walk_of.Covered vs ms) (Last vs ms) (Last vs ms)
      same = record {
        to = λ a h. h;
        from = λ a h. h;
        covered_to = λ a h c. c;
        covered_from = λ a h c. c;
        last_to = λ a h l. l;
        last_from = λ a h l. l;
        order_to = λ a b h g l. inr (h.1 ∙ sym g.1, l);
        order_from = λ a b h g l. elim l [ inl less ↦ absurd (omega (arith, less, h.1, g.1)) | inr r ↦ r.1 ];
      }

      parts : Parted (Graded vs) (FromDegree vs d p) (HereAt vs d p) (FromDegree vs (suc d) p)
      parts = record {
        parts = λ a h. elim (cases_lt d (degree_on vs a)) [ inl l ↦ inr (h.0, omega (arith, l)) | inr l ↦ inl (h.0, omega (arith, l, h.1)) ];
        of_first = λ a h. (h.0, omega (arith, h.1));
        of_second = λ a h. (h.0, omega (arith, h.1));
        in_order = λ a b h g. inl (omega (arith, h.1, g.1));
        not_back = λ a b h g l. elim l [ inl less ↦ absurd (omega (arith, less, h.1, g.1)) | inr r ↦ absurd (omega (arith, r.0, h.1, g.1)) ];
      }
