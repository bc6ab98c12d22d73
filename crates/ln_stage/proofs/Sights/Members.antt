-- What holds of the members of the stage lists of all orders, in either order of infinitesimals: each is over variables of sites, the
-- vector of zeros comes first, and the distinct ones are no more than their count and their weight.
use Rattle.std.proofs.Common.{◌≡◌, inl, inr, ℕ, ◌+◌, ◌<◌, ◌≤◌, zero, suc, Bool, true, false, cond, List, [], ◌∷◌, length, map, get_or, refl}
use Rattle.std.proofs.Common.{ap, sym, subst, ◌∙◌, arith, None, if◌then◌else◌}
use Rattle.std.specs.List.{AllByRecursion}
use Rattle.std.specs.Prelude.{◌≢◌, All, AllPairs}
use Rattle.std.proofs.lemmas.List.{ext_get_or, get_or-map, get_or_default, length-append, length-map}
use Rattle.std.proofs.lemmas.List.Elements.{All-cons, All-nil}
use Rattle.std.proofs.lemmas.List.Sums.{sum_by-cons}
use Rattle.ln_algebra.proofs.Expanded.Expansion.{length-zeros}
use Rattle.ln_algebra.proofs.Ordering.Admissible.{both-admissible, degree-zeros}
use Rattle.ln_algebra.proofs.Ordering.Order.{earlier-irreflexive}
use Rattle.ln_algebra.proofs.Ordering.Unique.{stage_list-unique-by}
use Rattle.ln_algebra.proofs.Vectors.Zeros.{covers-zeros}
use Rattle.ln_algebra.specs.Earlier.{IsSortedIn, Sites}
use Rattle.ln_algebra.specs.Orders.{Before, BySmallest, ByDegree, Rank}
use Rattle.ln_algebra.specs.Stage.{CoveredBy, IsStageBy}
use Rattle.ln_algebra.specs.Vector.{In, covers, same_vector, zeros}
use Rattle.ln_algebra.proofs.Walking.Stages.{zeros-get}
use Rattle.ln_tree.specs.declared.shape.VarInfo.{VarInfo}
use Rattle.ln_tree.specs.Exps.{Pairs, vector}
use Rattle.ln_tree.specs.Variables.{is_laid_out}
use Rattle.ln_order.specs.Orders.{IsOrderOf, behind, firsts, orders_of}
use Rattle.ln_order.specs.Sites.{site_of, sites_of}
use Rattle.ln_order.proofs.Listing.OrdersLemmas.{member-is}
use Rattle.ln_order.proofs.Signs.RowSigns.{orders-differ}
use Rattle.ln_poly.specs.Sparse.{AreBelow, IsPoly, Sparse}
use Rattle.ln_stage.specs.Kept.{all_rows}
use Rattle.ln_stage.specs.Lists.{AreStageListsIn, all_covering, all_seen_behind, covering, first_seen, put_last, seen_behind, stage_count, stage_weight}
use Rattle.ln_stage.specs.StageList.{IsMonomialOf}
use Rattle.ln_stage.specs.Staged.{Staged, block_vector, vectors_of}
use Rattle.ln_stage.proofs.Monomials.MonomialLemmas.{poly-terms, rows-monomials}
use Rattle.ln_stage.proofs.Walks.StepLemmas.{ones}

-- ---- what holds of each vector of the lists holds of each distinct one
module _ (P : List ℕ → Type 0) where
  -- it holds of each member
  pub each-in : (xs : List (List ℕ)) → ((a : List ℕ) → In xs a → P a) → AllByRecursion P xs
  each-in [] h = tt
  each-in (x ∷ xs) h = (h x (inl refl), each-in xs (λ a i. h a (inr i)))

  -- one vector more
  pub each-put : (bs : List (List ℕ)) (a : List ℕ) → AllByRecursion P bs → P a → AllByRecursion P (put_last bs a)
  each-put [] a h p = (p, tt)
  each-put (b ∷ bs) a h p = by_case (same_vector a b) (each-put bs a h.1 p) where
    by_case : (t : Bool) → AllByRecursion P (put_last bs a) → AllByRecursion P (if t then b ∷ bs else b ∷ put_last bs a)
    by_case true r = h
    by_case false r = (h.0, r)

  -- several
  pub each-behind : (bs xs : List (List ℕ)) → AllByRecursion P bs → AllByRecursion P xs → AllByRecursion P (seen_behind bs xs)
  each-behind bs [] h k = h
  each-behind bs (x ∷ xs) h k = each-behind (put_last bs x) xs (each-put bs x h k.0) k.1

  -- several lists
  pub each-seen : (bs : List (List ℕ)) (ls : List (List (List ℕ))) → AllByRecursion P bs → AllByRecursion (AllByRecursion P) ls
      → AllByRecursion P (all_seen_behind bs ls)
  each-seen bs [] h k = h
  each-seen bs (l ∷ ls) h k = each-seen (seen_behind bs l) ls (each-behind bs l h k.0) k.1

  all-are : (ls : List (List (List ℕ))) → ((j : ℕ) → j < length ls → (a : List ℕ) → In (get_or ls j []) a → P a) → AllByRecursion (AllByRecursion P) ls
  all-are [] h = tt
  all-are (l ∷ ls) h = (each-in l (h 0 (omega arith)), all-are ls (λ j g. h (suc j) (omega arith)))

  each-vector : (n : ℕ) (exps : List Pairs) → AllByRecursion P (map (vector n) exps) → All (λ e. P (vector n e)) exps
  each-vector n [] h = All-nil (λ e. P (vector n e))
  each-vector n (e ∷ exps) h = All-cons (λ y. P (vector n y)) e exps h.0 (each-vector n exps h.1)

-- no exponent of a variable without a site
abbrev pub IsOfSites : List VarInfo → List ℕ → Type 0
IsOfSites vars a = (v : ℕ) → site_of vars v ≡ None → get_or a v 0 ≡ 0

-- ---- how many there are
put-length : (bs : List (List ℕ)) (a : List ℕ) → length (put_last bs a) ≤ length bs + 1
put-length [] a = omega arith
put-length (b ∷ bs) a = by_case (same_vector a b) (put-length bs a) where
  by_case : (t : Bool) → length (put_last bs a) ≤ length bs + 1 → length (if t then b ∷ bs else b ∷ put_last bs a) ≤ length (b ∷ bs) + 1
  by_case true h = omega arith
  by_case false h = omega (arith, h)

behind-length : (bs xs : List (List ℕ)) → length (seen_behind bs xs) ≤ length bs + length xs
behind-length bs [] = omega arith
behind-length bs (x ∷ xs) = omega (arith, behind-length (put_last bs x) xs, put-length bs x)

seen-length : (bs : List (List ℕ)) (ls : List (List (List ℕ))) → length (all_seen_behind bs ls) ≤ length bs + stage_count ls
seen-length bs [] = omega arith
seen-length bs (l ∷ ls) = omega (arith, seen-length (seen_behind bs l) ls, behind-length bs l)

-- ---- the vector of zeros is the first
-- no vector is before the vector of zeros
pub none-before : (rank : Rank) (n : ℕ) (sites : Sites) (b : List ℕ) → Before rank sites b (zeros n) → ⊥
none-before BySmallest n sites b (v, s, o, l, r) = absurd (omega (arith, l, zeros-get n v))
none-before ByDegree n sites b (inl l) = absurd (omega (arith, l, degree-zeros n))
none-before ByDegree n sites b (inr (q, w)) = absurd (omega (arith, w.3, zeros-get n w.0))

-- it is a stage
pub zeros-stage : (rank : Rank) (n : ℕ) (sites : Sites) (f : Sparse) → IsPoly f → AreBelow n f → f ≢ []
    → IsStageBy (Before rank sites) n sites (IsMonomialOf n f) (zeros n)
zeros-stage rank n sites [] p b d = absurd (d refl)
zeros-stage rank n sites (t ∷ f) p b d =
    let m = (rows-monomials n (t ∷ f) (poly-terms (t ∷ f) p) b).monomials (vector n t.0) (inl refl) in
    record {
      over = record { size = length-zeros n; of_sites = λ v e. zeros-get n v };
      covered = (vector n t.0, m, covers-zeros (vector n t.0) n m.size);
      before_cut = λ b o l e. none-before rank n sites b e;
    }

-- so it is the first of each list
first-zeros : (rank : Rank) (n : ℕ) (sites : Sites) (list : List (List ℕ)) → IsSortedIn (Before rank sites) list → In list (zeros n)
    → (0 < length list) × (get_or list 0 [] ≡ zeros n)
first-zeros rank n sites [] o i = absurd i
first-zeros rank n sites (x ∷ xs) o (inl e) = (omega arith, sym e)
first-zeros rank n sites (x ∷ xs) o (inr i) = absurd (none-before rank n sites x (o.0 (zeros n) i))

-- a first vector stays
abbrev pub Begins : List (List ℕ) → List ℕ → Type 0
Begins bs a = (0 < length bs) × (get_or bs 0 [] ≡ a)

begins-put : (bs : List (List ℕ)) (a x : List ℕ) → Begins bs x → Begins (put_last bs a) x
begins-put [] a x h = absurd (omega (arith, h.0))
begins-put (b ∷ bs) a x h = by_case (same_vector a b) where
  by_case : (t : Bool) → Begins (if t then b ∷ bs else b ∷ put_last bs a) x
  by_case true = h
  by_case false = (omega arith, h.1)

begins-behind : (bs xs : List (List ℕ)) (x : List ℕ) → Begins bs x → Begins (seen_behind bs xs) x
begins-behind bs [] x h = h
begins-behind bs (y ∷ ys) x h = begins-behind (put_last bs y) ys x (begins-put bs y x h)

begins-seen : (bs : List (List ℕ)) (ls : List (List (List ℕ))) (x : List ℕ) → Begins bs x → Begins (all_seen_behind bs ls) x
begins-seen bs [] x h = h
begins-seen bs (l ∷ ls) x h = begins-seen (seen_behind bs l) ls x (begins-behind bs l x h)

begins-first : (ls : List (List (List ℕ))) (x : List ℕ) → 0 < length ls → Begins (get_or ls 0 []) x → Begins (first_seen ls) x
begins-first [] x l h = absurd (omega arith)
begins-first ([] ∷ ls) x l h = absurd (omega (arith, h.0))
begins-first ((y ∷ ys) ∷ ls) x l h = begins-seen (seen_behind (y ∷ []) ys) ls x (begins-behind (y ∷ []) ys x (omega arith, h.1))

some-firsts : (n : ℕ) (os : List (List ℕ)) → 0 < length os → 0 < length (firsts (suc n) os)
some-firsts n os h = omega (arith, h, length-append (firsts n os) (map (behind n) os), length-map os (behind n))

-- any number of sites has an order
pub some-orders : (k : ℕ) → 0 < length (orders_of k)
some-orders zero = omega arith
some-orders (suc k) = some-firsts k (orders_of k) (some-orders k)

-- ---- each is covered
covering-more : (n : ℕ) (f : Sparse) (a m : List ℕ) → In (all_rows n f) m → covers m a ≡ true → 0 < covering n f a
covering-more n [] a m i c = absurd i
covering-more n (t ∷ f) a m (inl q) c =
    let k : covers (vector n t.0) a ≡ true = rw q at c in
    omega (arith, ap ones k, sum_by-cons (λ u. cond (covers (vector n u.0) a) 1 0) t f)
covering-more n (t ∷ f) a m (inr i) c = omega (arith, covering-more n f a m i c, sum_by-cons (λ u. cond (covers (vector n u.0) a) 1 0) t f)

covered-some : (n : ℕ) (f : Sparse) → IsPoly f → AreBelow n f → (a : List ℕ) → CoveredBy (IsMonomialOf n f) a → 0 < covering n f a
covered-some n f p b a c = covering-more n f a c.0 ((rows-monomials n f (poly-terms f p) b).all c.0 c.1) c.2

weighs-each : (n : ℕ) (f : Sparse) (as' : List (List ℕ)) → AllByRecursion (λ a. 0 < covering n f a) as' → length as' ≤ all_covering n f as'
weighs-each n f [] h = omega arith
weighs-each n f (a ∷ as') h = omega (arith, h.0, weighs-each n f as' h.1)

-- ---- the distinct members of the lists of all orders, as exponents
module _ (rank : Rank) (k : ℕ) (vars : List VarInfo) (f : Sparse) (ls : List (List (List ℕ))) (s : AreStageListsIn rank k vars f ls)
    (exps : List Pairs) (sight : map (vector (length vars)) exps ≡ first_seen ls) where
  -- no distinct member has an exponent of a variable without a site
  pub of-sites : All (λ e. IsOfSites vars (vector (length vars) e)) exps
  of-sites =
      let a : AllByRecursion (AllByRecursion (IsOfSites vars)) ls = all-are (IsOfSites vars) ls (λ j h b i. ((s.each j h).stages b i).over.of_sites) in
      let e : AllByRecursion (IsOfSites vars) (map (vector (length vars)) exps) =
      subst (AllByRecursion (IsOfSites vars)) (sym sight) (each-seen (IsOfSites vars) [] ls tt a) in
      each-vector (IsOfSites vars) (length vars) exps e

  -- they are no more than the stages
  pub few-blocks : length exps ≤ stage_count ls
  few-blocks = omega (arith, seen-length [] ls, ap length sight, length-map exps (vector (length vars)))

  module _ (p : IsPoly f) (b : AreBelow (length vars) f) where
    -- nor more than the monomials that cover them
    pub light-blocks : length exps ≤ stage_weight (length vars) f ls
    light-blocks =
        let a : AllByRecursion (AllByRecursion (λ a. 0 < covering (length vars) f a)) ls =
        all-are (λ a. 0 < covering (length vars) f a) ls (λ j h a i. covered-some (length vars) f p b a ((s.each j h).stages a i).covered) in
        omega (
          arith,
          weighs-each (length vars) f (first_seen ls) (each-seen (λ a. 0 < covering (length vars) f a) [] ls tt a),
          ap length sight,
          length-map exps (vector (length vars)),
        )

    module _ (d : f ≢ []) where
      -- where the polynomial isn't 0, each list begins with the vector of zeros
      pub zeros-in : (j : ℕ) → j < length ls → Begins (get_or ls j []) (zeros (length vars))
      zeros-in j h =
          let o : Sites = sites_of vars (get_or (orders_of k) j []) in
          let l = s.each j h in
          first-zeros rank (length vars) (sites_of vars (get_or (orders_of k) j [])) (get_or ls j []) l.in_order
          (l.all (zeros (length vars)) (zeros-stage rank (length vars) (sites_of vars (get_or (orders_of k) j [])) f p b d))

      -- the first has no exponents
      pub first-exps : (0 < length exps) × (vector (length vars) (get_or exps 0 []) ≡ zeros (length vars))
      first-exps =
          let some : 0 < length ls = omega (arith, s.size, some-orders k) in
          let z : Begins (first_seen ls) (zeros (length vars)) = begins-first ls (zeros (length vars)) some (zeros-in 0 some) in
          let l : 0 < length exps = omega (arith, z.0, ap length sight, length-map exps (vector (length vars))) in
          (l, sym (get_or-map (vector (length vars)) exps 0 [] [] l) ∙ ap (λ xs. get_or xs 0 []) sight ∙ z.1)

-- ---- the numbers of a list
irreflexive : (rank : Rank) (sites : Sites) (a : List ℕ) → Before rank sites a a → ⊥
irreflexive BySmallest sites a h = earlier-irreflexive sites a h
irreflexive ByDegree sites a (inl l) = absurd (omega (arith, l))
irreflexive ByDegree sites a (inr (q, w)) = earlier-irreflexive sites a w

sorted-at : (before : List ℕ → List ℕ → Type 0) (xs : List (List ℕ)) (i j : ℕ) → IsSortedIn before xs → i < j → j < length xs
    → before (get_or xs i []) (get_or xs j [])
sorted-at before [] i j o h l = absurd (omega arith)
sorted-at before (x ∷ xs) i zero o h l = absurd (omega arith)
sorted-at before (x ∷ xs) zero (suc j) o h l = o.0 (get_or xs j []) (in-at xs j (omega arith)) where
  in-at : (ys : List (List ℕ)) (m : ℕ) → m < length ys → In ys (get_or ys m [])
  in-at [] m g = absurd (omega arith)
  in-at (y ∷ ys) zero g = inl refl
  in-at (y ∷ ys) (suc m) g = inr (in-at ys m (omega arith))
sorted-at before (x ∷ xs) (suc i) (suc j) o h l = sorted-at before xs i j o.1 (omega arith) (omega arith)

-- those of a list whose vectors are in order differ
pub numbers-differ : (rank : Rank) (sites : Sites) (g : ℕ → List ℕ) (list : List ℕ) → IsSortedIn (Before rank sites) (map g list) → AllPairs (λ m n. m ≢ n) list
numbers-differ rank sites g list o = λ i j d h l e.
    let a : get_or (map g list) i [] ≡ g (get_or list i d) = get_or-map g list i d [] (omega arith) in
    let c : get_or (map g list) j [] ≡ g (get_or list j d) = get_or-map g list j d [] l in
    let same : get_or (map g list) i [] ≡ get_or (map g list) j [] = a ∙ ap g e ∙ sym c in
    let r : Before rank sites (get_or (map g list) i []) (get_or (map g list) j []) =
    sorted-at (Before rank sites) (map g list) i j o h (omega (arith, l, length-map list g)) in
    irreflexive rank sites (get_or (map g list) j []) (rw same at r)

-- the list of an order names none twice, and isn't empty
module _ (rank : Rank) (k : ℕ) (vars : List VarInfo) (f : Sparse) (st : Staged)
    (s : AreStageListsIn rank k vars f (vectors_of (length vars) st)) (p : IsPoly f) (b : AreBelow (length vars) f) (d : f ≢ [])
    (sight : map (vector (length vars)) st.exps ≡ first_seen (vectors_of (length vars) st)) (j : ℕ) (x : List ℕ) (h : j < length st.lists) where
  here : get_or (vectors_of (length vars) st) j [] ≡ map (block_vector (length vars) st.exps) (get_or st.lists j x)
  here = get_or-map (λ list. map (block_vector (length vars) st.exps) list) st.lists j x [] h

  there : j < length (vectors_of (length vars) st)
  there = omega (arith, h, length-map st.lists (λ list. map (block_vector (length vars) st.exps) list))

  -- no number is in the list of an order twice
  pub list-once : AllPairs (λ m n. m ≢ n) (get_or st.lists j x)
  list-once = numbers-differ rank (sites_of vars (get_or (orders_of k) j [])) (block_vector (length vars) st.exps) (get_or st.lists j x)
      (subst (IsSortedIn (Before rank (sites_of vars (get_or (orders_of k) j [])))) here (s.each j there).in_order)

  -- the list of an order isn't empty
  pub list-filled : 0 < length (get_or st.lists j x)
  list-filled = omega (
    arith,
    (zeros-in rank k vars f (vectors_of (length vars) st) s st.exps sight p b d j there).0,
    ap length here,
    length-map (get_or st.lists j x) (block_vector (length vars) st.exps),
  )

-- ---- a polynomial has one set of stage lists
-- what is at a place in the list of all orders is an order
pub order-at : (k j : ℕ) → j < length (orders_of k) → IsOrderOf k (get_or (orders_of k) j [])
order-at k j h = member-is k (get_or (orders_of k) j []) (j, h, get_or_default (orders_of k) j (get_or (orders_of k) j []) [] h)

-- a polynomial has at most one set of stage lists
pub lists-one : (rank : Rank) (k : ℕ) (vars : List VarInfo) (f : Sparse) (ls ms : List (List (List ℕ))) → is_laid_out k vars ≡ true
    → AreStageListsIn rank k vars f ls → AreStageListsIn rank k vars f ms → ls ≡ ms
lists-one rank k vars f ls ms h a b = ext_get_or [] ls ms (a.size ∙ sym b.size) (λ j l.
    let d = orders-differ k vars (get_or (orders_of k) j []) h (order-at k j (omega (arith, l, a.size))) in
    stage_list-unique-by (length vars) (sites_of vars (get_or (orders_of k) j [])) (Before rank (sites_of vars (get_or (orders_of k) j [])))
    (both-admissible rank (length vars) (sites_of vars (get_or (orders_of k) j [])) d) (IsMonomialOf (length vars) f)
    (get_or ls j []) (get_or ms j []) (a.each j l) (b.each j (omega (arith, l, a.size, b.size))))
