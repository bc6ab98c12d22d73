-- The exponents of one variable in turn, each with what goes down from it for the remaining degree.
use Rattle.std.proofs.Common.{◌≡◌, ℕ, zero, suc, ◌+◌, ◌-◌, ◌<◌, ◌≤◌, true, false, leb, List, [], ◌∷◌, length, get_or, set, drop}
use Rattle.std.proofs.Common.{refl, sym, ◌∙◌, ap, arith, inl, inr}
use Rattle.std.specs.Prelude.{All, nat_le}
use Rattle.std.proofs.lemmas.Bool.{or_parts}
use Rattle.std.proofs.lemmas.Bool.Decides.{nat_tests}
use Rattle.std.proofs.lemmas.List.{nil_from_length}
use Rattle.std.proofs.lemmas.List.Elements.{All-filter, All-head, All-tail}
use Rattle.ln_algebra.specs.Vector.{In}
use Rattle.ln_algebra.specs.Walk.{Found, Member, all_same, at_least, before, unless_none}
use Rattle.ln_algebra.specs.Layers.{DegreesBelow, degree_on, ending, steps_at, walk_at}
use Rattle.ln_algebra.proofs.Walking.Layers.{walk-none}
use Rattle.ln_tree.proofs.Powers.{vector-get}
use Rattle.ln_tree.specs.Exps.{Pairs, exponent, vector}
use Rattle.ln_poly.specs.Sparse.{AreRising, Sparse}
use Rattle.ln_stage.specs.Degrees.{any_reaches, largest_degree, listed_degree, listed_degree_from, listed_layers, pairs_degree}
use Rattle.ln_stage.specs.Kept.{AreFresh, IsStep, high, listed, rows, term_at}
use Rattle.ln_stage.proofs.Monomials.MonomialLemmas.{vector-small}
use Rattle.ln_stage.proofs.Walks.TurnLemmas.{Turn, before-end, unless_empty, unless_some}
use Rattle.ln_stage.proofs.Walks.WalkLemmas.{from-step, rows-are, rows-count, size, step}
use Rattle.ln_stage.proofs.Walks.SiteWalkLemmas.{at_least-all, set-zero}

-- ---- degrees of terms
-- the degree of a term is that of its vector
pairs-degree : (n : ℕ) (vs : List ℕ) (a : Pairs) → AreFresh n vs → degree_on vs (vector n a) ≡ pairs_degree vs a
pairs-degree n [] a f = refl
pairs-degree n (v ∷ vs) a f = omega (arith, vector-get n v a f.0, pairs-degree n vs a f.2)

not_le : (d k : ℕ) → nat_le d k ≡ false → k < d
not_le d k e = grind (arith, nat_tests)

-- where no term reaches d, no row does
rows-below : (n : ℕ) (f : Sparse) (vs : List ℕ) (d : ℕ) (kept : List ℕ) → AreFresh n vs → any_reaches f vs d kept ≡ false → (m : List ℕ)
    → In (rows n f kept) m → degree_on vs m < d
rows-below n f vs d [] r h m i = absurd i
rows-below n f vs d (j ∷ kept) r h m (inl q) =
    let l : pairs_degree vs (term_at f j).0 < d =
    not_le d (pairs_degree vs (term_at f j).0) (or_parts (nat_le d (pairs_degree vs (term_at f j).0)) (any_reaches f vs d kept) h).0 in
    omega (arith, l, pairs-degree n vs (term_at f j).0 r, ap (degree_on vs) q)
rows-below n f vs d (j ∷ kept) r h m (inr i) =
    rows-below n f vs d kept r (or_parts (nat_le d (pairs_degree vs (term_at f j).0)) (any_reaches f vs d kept) h).1 m i

-- no row has an exponent of 128
rows-none : (n : ℕ) (f : Sparse) (v : ℕ) (kept : List ℕ) → AreRising f → All (λ i. i < length f) kept → length (at_least v 128 (rows n f kept)) ≡ 0
rows-none n f v [] r h = refl
rows-none n f v (i ∷ kept) r h =
    let l : i < length f = All-head (λ i. i < length f) i kept h in
    let s : get_or (vector n (term_at f i).0) v 0 < 128 = vector-small n (term_at f i).0 v (r i _ l) in
    let t : leb 128 (get_or (vector n (term_at f i).0) v 0) ≡ false = grind (arith, nat_tests) in
    rw t (rows-none n f v kept r (All-tail (λ i. i < length f) i kept h))

-- ---- the exponents of the first variable in turn
-- where a variable remains, what is listed from its exponent 0 on is all that is listed of the degree
begins : (f : Sparse) (vs kept p : List ℕ) (d : ℕ) → 0 < length vs → listed_degree_from f vs kept p d 0 ≡ listed_degree f vs kept p d
unfolding listed_degree listed_degree_from
begins f [] kept p d h = absurd (omega arith)
begins f (v ∷ vs) kept p d h = let z : d + 1 - 0 ≡ suc d = omega arith in rw z refl

-- past the degree
pub ends-degree : (f : Sparse) (vs kept p : List ℕ) (d e : ℕ) → d < e → listed_degree_from f vs kept p d e ≡ ([], false)
unfolding listed_degree_from
ends-degree f vs kept p d e h = let z : d + 1 - e ≡ 0 = omega (arith, h) in rw z refl

-- past the largest exponent
pub ends-exponent : (f : Sparse) (vs kept p : List ℕ) (d : ℕ) → IsStep f vs kept p → listed_degree_from f vs kept p d 128 ≡ ([], false)
unfolding listed_degree_from
ends-exponent f vs kept p d s = by (d + 1 - 128) where
  by : (k : ℕ) → steps_at (walk_at (drop 1 vs)) (get_or vs 0 0) (rows (length p) f kept) p k 128 ≡ ([], false)
  by zero = refl
  by (suc k) = unless_empty _ _ (rows-none (length p) f (get_or vs 0 0) kept s.rising s.inside)

-- with an empty list of variables nothing is listed where some of the degree remains
pub leaf-left : (f : Sparse) (kept p : List ℕ) (d : ℕ) → 0 < d → listed_degree f [] kept p d ≡ ([], false)
unfolding listed_degree
leaf-left f kept p zero h = absurd (omega (arith, h))
leaf-left f kept p (suc d) h = refl

module _ {f : Sparse} {vs kept p : List ℕ} (s : IsStep f vs kept p) (more : 0 < length vs) (d e : ℕ) (small : e < 128) (within : e ≤ d)
    {h : List ℕ} (eh : h ≡ high f (get_or vs 0 0) e kept) where
  abbrev down : Found
  down = walk_at (drop 1 vs) (d - e) (at_least (get_or vs 0 0) e (rows (length p) f kept)) (set p (get_or vs 0 0) e)

  counts : d + 1 - e ≡ suc (d - e)
  counts = omega (arith, within)

  -- where no remaining term has the exponent e or more in the first variable, nothing is listed from e on
  pub at-none : length h ≡ 0 → listed_degree_from f vs kept p d e ≡ ([], false)
  unfolding listed_degree_from
  at-none z = rw counts (unless_empty _ _ (rows-count s more e small eh ∙ z))

  module _ (some : 0 < length h) where
    -- what is listed at the exponent, and then what is listed from the next on
    in-turn : listed_degree_from f vs kept p d e ≡ before down (listed_degree_from f vs kept p d (e + 1))
    unfolding listed_degree_from
    in-turn =
        let c : d + 1 - (e + 1) ≡ d - e = omega (arith, within) in
        let g : e + 1 ≡ suc e = omega arith in
        let long : 0 < length (at_least (get_or vs 0 0) e (rows (length p) f kept)) = omega (arith, some, rows-count s more e small eh) in
        ap (λ k. steps_at (walk_at (drop 1 vs)) (get_or vs 0 0) (rows (length p) f kept) p k e) counts
        ∙ unless_some _ _ long ∙ rw (c, g) refl

    -- where no term with the exponent e or more reaches the remaining degree in the other variables, the next exponent follows
    pub at-skips : any_reaches f (drop 1 vs) (d - e) h ≡ false → listed_degree_from f vs kept p d e ≡ listed_degree_from f vs kept p d (e + 1)
    at-skips n =
        let low : (m : List ℕ) → In (at_least (get_or vs 0 0) e (rows (length p) f kept)) m → degree_on (drop 1 vs) m < d - e =
        λ m i. rows-below (length p) f (drop 1 vs) (d - e) h (step s more e small eh).fresh.2 n m (rw (← rows-are s more e small eh) at i) in
        in-turn ∙ ap (λ z. before z (listed_degree_from f vs kept p d (e + 1)))
        (walk-none (drop 1 vs) (d - e) (at_least (get_or vs 0 0) e (rows (length p) f kept)) (set p (get_or vs 0 0) e) low)

    -- else its list begins with what is listed at the exponent
    pub at-turn : {q r : List ℕ} (left : ℕ) → q ≡ set p (get_or vs 0 0) e → r ≡ drop 1 vs → left ≡ d - e
        → Turn (length q) (length p) (listed_degree f r h q left) (listed_degree_from f vs kept p d (e + 1)) (listed_degree_from f vs kept p d e)
    unfolding listed_degree
    at-turn {q} {r} left eq er el =
        let w : walk_at r left (rows (length q) f h) q ≡ down = rw (size s more e small eh some eq er, rows-are s more e small eh, er, eq, el) refl in
        record { size = size s more e small eh some eq er; next = in-turn ∙ ap (λ z. before z (listed_degree_from f vs kept p d (e + 1))) (sym w) }

unless_none-twice : (ms : List (List ℕ)) (r : Found) → unless_none ms (unless_none ms r) ≡ unless_none ms r
unless_none-twice [] r = refl
unless_none-twice (m ∷ ms) r = refl

walk-nothing : (vs : List ℕ) (ms : List (List ℕ)) (p : List ℕ) → ((v : ℕ) → Member vs v → get_or p v 0 ≡ 0) → walk_at vs 0 ms p ≡ ending 0 ms p
walk-nothing [] ms p h = refl
walk-nothing (v ∷ vs) ms p h =
    let ih : walk_at vs 0 ms p ≡ ending 0 ms p = walk-nothing vs ms p (λ w i. h w (inr i)) in
    let a : at_least v 0 ms ≡ ms = at_least-all v ms in
    let q : set p v 0 ≡ p = set-zero p v (h v (inl refl)) in
    let down : walk_at vs 0 (at_least v 0 ms) (set p v 0) ≡ ending 0 ms p = ap (λ z. walk_at vs 0 z (set p v 0)) a ∙ ap (walk_at vs 0 ms) q ∙ ih in
    ap (λ z. unless_none z (before (walk_at vs 0 (at_least v 0 ms) (set p v 0)) ([], false))) a
    ∙ ap (unless_none ms) (before-end (walk_at vs 0 (at_least v 0 ms) (set p v 0)) ∙ down)
    ∙ unless_none-twice ms (p ∷ [], all_same ms p)

-- ---- the exponent 0: all terms remain, and the vector stays as it is
high-all : (f : Sparse) (v : ℕ) (kept : List ℕ) → kept ≡ high f v 0 kept
high-all f v [] = refl
high-all f v (i ∷ kept) =
    let z : nat_le 0 (exponent v (term_at f i).0) ≡ true = grind (arith, nat_tests) in
    rw z (ap (λ r. i ∷ r) (high-all f v kept))

first-none : (vs p : List ℕ) → 0 < length vs → ((v : ℕ) → Member vs v → get_or p v 0 ≡ 0) → get_or p (get_or vs 0 0) 0 ≡ 0
first-none [] p more h = absurd (omega (arith, more))
first-none (v ∷ vs) p more h = h v (inl refl)

module _ {f : Sparse} {vs kept p : List ℕ} (s : IsStep f vs kept p) (more : 0 < length vs) {r : List ℕ} (er : r ≡ drop 1 vs) where
  stays : p ≡ set p (get_or vs 0 0) 0
  stays = sym (set-zero p (get_or vs 0 0) (first-none vs p more s.none_yet))

  -- it is a step without the first variable
  pub zero-step : IsStep f r kept p
  zero-step = from-step s more 0 (omega arith) (high-all f (get_or vs 0 0) kept) s.some stays er

  -- what is listed of a degree is what is listed without the first variable, and then what is listed from its exponent 1 on
  pub zero-turn : (d : ℕ) → Turn (length p) (length p) (listed_degree f r kept p d) (listed_degree_from f vs kept p d 1) (listed_degree f vs kept p d)
  zero-turn d =
      let w = at-turn s more d 0 (omega arith) (omega arith) (high-all f (get_or vs 0 0) kept) s.some d stays er (omega arith) in
      record { size = refl; next = sym (begins f vs kept p d more) ∙ w.next }

-- the end of a branch
pub leaf-is : (f : Sparse) (vs kept p : List ℕ) (d : ℕ) → IsStep f vs kept p → d ≡ 0 → listed_degree f vs kept p d ≡ listed f [] kept p
unfolding listed listed_degree
leaf-is f vs kept p d s e = ap (λ z. walk_at vs z (rows (length p) f kept) p) e ∙ walk-nothing vs (rows (length p) f kept) p s.none_yet

-- where no variable remains and some of the degree does, nothing is listed
pub leaf-none : (f : Sparse) (vs kept p : List ℕ) (d : ℕ) → length vs ≡ 0 → 0 < d → listed_degree f vs kept p d ≡ ([], false)
leaf-none f vs kept p d h l = ap (λ x. listed_degree f x kept p d) (nil_from_length vs h) ∙ leaf-left f kept p d l

-- the remaining ones are places of terms
pub inside-high : (f : Sparse) (v e : ℕ) (kept h : List ℕ) → h ≡ high f v e kept → All (λ i. i < length f) kept → All (λ i. i < length f) h
inside-high f v e kept h eh a = rw eh (All-filter (λ i. nat_le e (exponent v (term_at f i).0)) (λ i. i < length f) kept a)

-- ---- the degrees in turn
-- each row's degree is at most the largest
pub rows-largest : (n : ℕ) (f : Sparse) (vs kept : List ℕ) → AreFresh n vs → DegreesBelow (largest_degree f vs kept + 1) vs (rows n f kept)
rows-largest n f vs [] r m i = absurd i
rows-largest n f vs (j ∷ kept) r m (inl q) = omega (arith, ap (degree_on vs) q, pairs-degree n vs (term_at f j).0 r)
rows-largest n f vs (j ∷ kept) r m (inr i) = let ih = rows-largest n f vs kept r m i in omega (arith, ih)

-- what is listed from a degree on is what is listed of the degree, and then what is listed from the next on
pub layer-turn : (f : Sparse) (vs kept p : List ℕ) (limit d : ℕ) → d < limit
    → Turn (length p) (length p) (listed_degree f vs kept p d) (listed_layers f vs kept p (limit - (d + 1)) (d + 1)) (listed_layers f vs kept p (limit - d) d)
unfolding listed_degree listed_layers
layer-turn f vs kept p limit d within =
    let c : limit - d ≡ suc (limit - (d + 1)) = omega (arith, within) in
    let g : d + 1 ≡ suc d = omega arith in
    record { size = refl; next = rw (c, g) refl }

-- the end of the loop over the degrees: from the limit on nothing is listed
pub layers-end : (f : Sparse) (vs kept p : List ℕ) (limit d : ℕ) → limit ≤ d → listed_layers f vs kept p (limit - d) d ≡ ([], false)
unfolding listed_layers
layers-end f vs kept p limit d h = let z : limit - d ≡ 0 = omega (arith, h) in rw z refl
