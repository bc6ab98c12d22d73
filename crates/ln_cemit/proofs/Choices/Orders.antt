-- The least indices, one after the other, are the order of the row.
use Rattle.std.proofs.Common.{◌≡◌, ◌⊎◌, inl, inr, ℕ, zero, suc, ◌+◌, ◌<◌, ◌≤◌, Bool, true, false, cond, ◌&&◌, List, [], ◌∷◌, ◌++◌}
use Rattle.std.proofs.Common.{append_assoc, append-nil, length, map, get_or, take, refl, sym, ap, ◌∙◌, arith, add-one, eqb, eq-eqb, subst}
use Rattle.std.specs.Prelude.{ℤ, pos, ◌<ℤ◌, int_lt, not, AllPairs}
use Rattle.std.specs.List.{range_with_len}
use Rattle.std.proofs.lemmas.Bool.{and_parts, cases_eq, eqb-true}
use Rattle.std.proofs.lemmas.Int.{ints}
use Rattle.std.proofs.lemmas.Option.{slice_get-get_or}
use Rattle.ln_order.specs.Prefixes.{joined}
use Rattle.ln_algebra.specs.Walk.{Member}
use Rattle.ln_order.specs.Order.{IsOrder, index_at}
use Rattle.ln_order.specs.Orders.{IsOrderOf}
use Rattle.ln_order.proofs.Signs.SitesLemmas.{each-there}
use Rattle.ln_order.proofs.Signs.RankingLemmas.{at-member}
use Rattle.ln_csyn.specs.Meaning as meaning
use Rattle.ln_cemit.specs.Choose.{IndexGives, first_of_signs}
use Rattle.ln_cemit.specs.Walked.{walked, without}
use Rattle.ln_cemit.specs.Chosen.{FindsTheOrder, list_of_order}
use Rattle.ln_cemit.proofs.Choices.Finds.{along_row, below_all, least, tries_then, walked_is}

-- ---- the least one
is-less : (x y : ℤ) → x <ℤ y → int_lt x y ≡ true
is-less x y h = grind (arith, ints)

less-is : (x y : ℤ) → int_lt x y ≡ true → x <ℤ y
less-is x y h = grind (arith, ints)

never-both : (x y : ℤ) → x <ℤ y → y <ℤ x → ⊥
never-both x y h l = grind (arith, ints)

module _ (at : ℕ → ℤ) where
  -- one that isn't below all has one that it isn't below
  some-not : (i : ℕ) (js : List ℕ) → below_all at i js ≡ false → (j : ℕ) × Member js j × (int_lt (at i) (at j) ≡ false)
  some-not i [] h = cc
  some-not i (j ∷ js) h = go (int_lt (at i) (at j)) refl h (some-not i js) where
    go : (b : Bool) → int_lt (at i) (at j) ≡ b → (b && below_all at i js) ≡ false
        → (below_all at i js ≡ false → (x : ℕ) × Member js x × (int_lt (at i) (at x) ≡ false)) → (x : ℕ) × Member (j ∷ js) x × (int_lt (at i) (at x) ≡ false)
    go true e k ih = let r = ih k in (r.0, inr r.1, r.2)
    go false e k ih = (j, inl refl, e)

  all-below : (i : ℕ) (js : List ℕ) (x : ℕ) → below_all at i js ≡ true → Member js x → at i <ℤ at x
  all-below i [] x h m = absurd m
  all-below i (j ∷ js) x h (inl e) = rw e (less-is (at i) (at j) (and_parts (int_lt (at i) (at j)) (below_all at i js) h).0)
  all-below i (j ∷ js) x h (inr m) = all-below i js x (and_parts (int_lt (at i) (at j)) (below_all at i js) h).1 m

  -- what is below all others is the least
  least-is : (i : ℕ) (js : List ℕ) (x : ℕ) → Member (i ∷ js) x → ((j : ℕ) → Member (i ∷ js) j → (j ≡ x) ⊎ (at x <ℤ at j)) → least at i js ≡ x
  least-is i [] x (inl e) h = sym e
  least-is i [] x (inr m) h = absurd m
  least-is i (j ∷ js) x m h = go (below_all at i (j ∷ js)) refl m (λ n. least-is j js x n (λ y l. h y (inr l))) where
    go : (b : Bool) → below_all at i (j ∷ js) ≡ b → Member (i ∷ j ∷ js) x → (Member (j ∷ js) x → least at j js ≡ x) → cond b i (least at j js) ≡ x
    go true e (inl q) ih = sym q
    go true e (inr n) ih = apart (h i (inl refl)) where
      apart : (i ≡ x) ⊎ (at x <ℤ at i) → i ≡ x
      apart (inl q) = q
      apart (inr l) = absurd (never-both (at i) (at x) (all-below i (j ∷ js) x e n) l)
    go false e (inr n) ih = ih n
    go false e (inl q) ih =
        let r = some-not i (j ∷ js) e in
        ih (same r.0 r.1 r.2 (h r.0 (inr r.1))) where
          same : (y : ℕ) → Member (j ∷ js) y → int_lt (at i) (at y) ≡ false → (y ≡ x) ⊎ (at x <ℤ at y) → Member (j ∷ js) x
          same y n f (inl z) = rw z at n
          same y n f (inr l) = absurd (let t : int_lt (at i) (at y) ≡ true = rw q at (is-less (at x) (at y) l) in let w : true ≡ false = sym t ∙ f in cc)

  -- ---- the order of the remaining sites
  abbrev RowOrder : List ℕ → List ℕ → Type 0
  RowOrder left [] = left ≡ []
  RowOrder left (x ∷ o) = Member left x × ((j : ℕ) → Member left j → (j ≡ x) ⊎ (at x <ℤ at j)) × RowOrder (without x left) o

  -- the segments from a prefix on
  abbrev along_order : (List ℕ → List ℕ) → List ℕ → List ℕ → List ℕ
  along_order segment p [] = segment p
  along_order segment p (x ∷ o) = segment p ++ along_order segment (p ++ x ∷ []) o

  rows-are-orders : (segment : List ℕ → List ℕ) (d : ℕ) (p left o : List ℕ) → length o ≤ d → RowOrder left o
      → along_row segment at d p left ≡ along_order segment p o
  rows-are-orders segment zero p left [] l r = refl
  rows-are-orders segment (suc d) p left [] l r = rw r refl
  rows-are-orders segment zero p left (x ∷ o) l r = absurd (omega arith)
  rows-are-orders segment (suc d) p [] (x ∷ o) l r = absurd r.0
  rows-are-orders segment (suc d) p (i ∷ js) (x ∷ o) l r =
      let e : least at i js ≡ x = least-is i js x r.0 r.1 in
      let ih = rows-are-orders segment d (p ++ x ∷ []) (without x (i ∷ js)) o (omega (arith, l)) r.2 in
      subst (λ z. segment p ++ along_row segment at d (p ++ z ∷ []) (without z (i ∷ js)) ≡ segment p ++ along_order segment (p ++ x ∷ []) o)
      (sym e) (ap (λ z. segment p ++ z) ih)

  -- ---- the order of a row
  abbrev Rising : List ℕ → Type 0
  Rising [] = Unit {0}
  Rising (x ∷ o) = ((j : ℕ) → Member o j → at x <ℤ at j) × Rising o

  kept-without : (x : ℕ) (js : List ℕ) (j : ℕ) → Member js j → (j ≡ x → ⊥) → Member (without x js) j
  kept-without x [] j m ne = absurd m
  kept-without x (y ∷ js) j m ne = go (eqb y x) refl m (kept-without x js j) where
    go : (b : Bool) → eqb y x ≡ b → (j ≡ y) ⊎ Member js j → (Member js j → (j ≡ x → ⊥) → Member (without x js) j)
        → Member (cond (not b) (y ∷ without x js) (without x js)) j
    go true e (inl q) ih = absurd (ne (q ∙ eqb-true y x e))
    go true e (inr k) ih = ih k ne
    go false e (inl q) ih = inl q
    go false e (inr k) ih = inr (ih k ne)

  gone-without : (x : ℕ) (js : List ℕ) (j : ℕ) → Member (without x js) j → Member js j × (eqb j x ≡ false)
  gone-without x [] j m = absurd m
  gone-without x (y ∷ js) j m = go (eqb y x) refl m (gone-without x js j) where
    go : (b : Bool) → eqb y x ≡ b → Member (cond (not b) (y ∷ without x js) (without x js)) j
        → (Member (without x js) j → Member js j × (eqb j x ≡ false)) → Member (y ∷ js) j × (eqb j x ≡ false)
    go true e k ih = let r = ih k in (inr r.0, r.1)
    go false e (inl q) ih = (inl q, rw q e)
    go false e (inr k) ih = let r = ih k in (inr r.0, r.1)

  row-order : (left o : List ℕ) → ((j : ℕ) → Member left j → Member o j) → ((j : ℕ) → Member o j → Member left j) → Rising o → RowOrder left o
  row-order [] [] h k r = refl
  row-order (i ∷ left) [] h k r = absurd (h i (inl refl))
  row-order left (x ∷ o) h k r =
      let first : (j : ℕ) → Member left j → (j ≡ x) ⊎ (at x <ℤ at j) = λ j m. elim (h j m) [ inl e ↦ inl e | inr n ↦ inr (r.0 j n) ] in
      let down : (j : ℕ) → Member (without x left) j → Member o j = λ j m. (let g = gone-without x left j m in behind j (h j g.0) g.1) in
      let up : (j : ℕ) → Member o j → Member (without x left) j = λ j m. kept-without x left j (k j (inr m)) (λ e. other j m e) in
      (k x (inl refl), first, row-order (without x left) o down up r.1) where
        behind : (j : ℕ) → (j ≡ x) ⊎ Member o j → eqb j x ≡ false → Member o j
        behind j (inl e) f = absurd (let t : eqb j x ≡ true = eq-eqb j x e in let w : true ≡ false = sym t ∙ f in cc)
        behind j (inr m) f = m

        other : (j : ℕ) → Member o j → j ≡ x → ⊥
        other j m e = let l : at x <ℤ at x = rw e at (r.0 j m) in never-both (at x) (at x) l l

-- ---- one segment for each prefix
shift : (g h : ℕ → List ℕ) (a n : ℕ) → ((j : ℕ) → g (suc j) ≡ h j) → map g (range_with_len (suc a) n) ≡ map h (range_with_len a n)
shift g h a zero e = refl
shift g h a (suc n) e = rw (e a, add-one, add-one) (ap (λ z. h a ∷ z) (shift g h (suc a) n e))

along-pieces : (at : ℕ → ℤ) (segment : List ℕ → List ℕ) (p o : List ℕ)
    → along_order at segment p o ≡ joined (map (λ j. segment (p ++ take j o)) (range_with_len 0 (suc (length o))))
along-pieces at segment p [] = sym (append-nil (segment (p ++ [])) ∙ ap segment (append-nil p))
along-pieces at segment p (x ∷ o) =
    let ih = along-pieces at segment (p ++ x ∷ []) o in
    let m = shift (λ j. segment (p ++ take j (x ∷ o))) (λ j. segment ((p ++ x ∷ []) ++ take j o)) 0 (suc (length o))
    (λ j. ap segment (sym (append_assoc p (x ∷ []) (take j o)))) in
    ap (λ z. segment z ++ along_order at segment (p ++ x ∷ []) o) (sym (append-nil p)) ∙ ap (λ z. segment (p ++ []) ++ z) (ih ∙ ap joined (sym m))

-- ---- places of an order
-- each of the n numbers from a on is at least a and below a + n
pub member-range : (a n j : ℕ) → Member (range_with_len a n) j → (a ≤ j) × (j < a + n)
member-range a zero j m = absurd m
member-range a (suc n) j (inl e) = (omega (arith, e), omega (arith, e))
member-range a (suc n) j (inr m) = let r = member-range (a + 1) n j m in (omega (arith, r.0), omega (arith, r.1))

range-member : (a n j : ℕ) → a ≤ j → j < a + n → Member (range_with_len a n) j
range-member a zero j h l = absurd (omega (arith, h, l))
range-member a (suc n) j h l = go (cases_eq j a) (range-member (a + 1) n j) where
  go : (j ≡ a) ⊎ (j ≡ a → ⊥) → (a + 1 ≤ j → j < a + 1 + n → Member (range_with_len (a + 1) n) j) → Member (range_with_len a (suc n)) j
  go (inl e) ih = inl e
  go (inr ne) ih = inr (ih (omega (arith, h, ne)) (omega (arith, l)))

member-at : (xs : List ℕ) (w : ℕ) → Member xs w → (k : ℕ) × (k < length xs) × ((d : ℕ) → get_or xs k d ≡ w)
member-at [] w m = absurd m
member-at (x ∷ xs) w (inl e) = (0, omega arith, λ d. sym e)
member-at (x ∷ xs) w (inr m) = let r = member-at xs w m in (suc r.0, omega (arith, r.1), r.2)

rising-is : (at : ℕ → ℤ) (o : List ℕ) → AllPairs (λ j k. at j <ℤ at k) o → Rising at o
rising-is at [] h = tt
rising-is at (x ∷ o) h = (first, rising-is at o (λ i j d l m. h (suc i) (suc j) d (omega (arith, l)) (omega (arith, m)))) where
  first : (j : ℕ) → Member o j → at x <ℤ at j
  first j m = let r = member-at o j m in subst (λ z. at x <ℤ at z) (r.2 0) (h 0 (suc r.0) 0 (omega arith) (omega (arith, r.1)))

module _ (indices : List ℤ) (places : List ℕ) (o : IsOrder indices places) where
  order-places : IsOrderOf (length indices) places
  order-places = record {
    size = o.size;
    each = record {
      within = λ k d h. omega (arith, o.each k d h, o.size);
      differ = λ i j d l h e. never-both (index_at indices (get_or places i d)) (index_at indices (get_or places j d))
          (o.rising i j d l h) (subst (λ z. index_at indices z <ℤ index_at indices (get_or places i d)) e
          (subst (λ z. index_at indices (get_or places i d) <ℤ index_at indices z) (sym e) (o.rising i j d l h)));
    };
  }

  the-row-order : RowOrder (index_at indices) (range_with_len 0 (length indices)) places
  the-row-order =
      row-order (index_at indices) (range_with_len 0 (length indices)) places
      (λ j m. at-member places j (each-there (length indices) places j order-places (omega (arith, (member-range 0 (length indices) j m).1))))
      (λ j m. (let r = member-at places j m in let l : j < length indices = subst (λ z. z < length indices) (r.2 0) (o.each r.0 0 r.1) in
      range-member 0 (length indices) j (omega arith) (omega (arith, l))))
      (rising-is (index_at indices) places o.rising)

  list-of-row : (segment : List ℕ → List ℕ)
      → along_row segment (index_at indices) (length indices) [] (range_with_len 0 (length indices)) ≡ list_of_order segment (length indices) places
  list-of-row segment =
      rows-are-orders (index_at indices) segment (length indices) [] (range_with_len 0 (length indices)) places (omega (arith, o.size)) the-row-order
      ∙ along-pieces (index_at indices) segment [] places ∙ ap (λ n. joined (map (λ j. segment (take j places)) (range_with_len 0 (suc n)))) o.size

-- on a row whose indices differ, the body returns what the filter and the blocks of the row's order return
pub finds-the-order : FindsTheOrder
finds-the-order block own s m sign after segment before places indices k answers b numbers e fits o =
    let n = length indices in
    let at : ℕ → ℤ = index_at indices in
    let gives : (i : ℕ) → Member (range_with_len 0 n) i → IndexGives s i (at i) =
    λ i l. (let h : i < length indices = omega (arith, (member-range 0 n i l).1) in
    record { there = ap (λ z. meaning.index_at z i) e ∙ slice_get-get_or indices i (pos 0) h; fits = fits i h }) in
    tries_then block own s m at sign after answers before (list_of_order segment n places) (walked block own segment n [] (range_with_len 0 n)) k b
    (λ j. walked_is block own s m at sign after answers segment numbers n [] (range_with_len 0 n) j gives
    ∙ ap (λ z. first_of_signs sign after z j) (list-of-row indices places o segment))
