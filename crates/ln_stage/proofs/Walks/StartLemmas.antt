-- The first step of a listing: all terms, and the vector of zeros.
use Rattle.std.proofs.Common.{◌≡◌, inl, inr, ℕ, zero, suc, ◌+◌, ◌<◌, ◌≤◌, Bool, true, false, eqb}
use Rattle.std.proofs.Common.{eqb-true, List, [], ◌∷◌, ◌++◌, length, get_or, replicate, refl, sym, ◌∙◌, ap, arith, pos}
use Rattle.std.specs.Prelude.{All, filter}
use Rattle.std.specs.List.{AllByRecursion, IsDistinct, list_any, range_with_len}
use Rattle.std.proofs.lemmas.List.{get_or-map, length-map, same_lists}
use Rattle.std.proofs.lemmas.List.Elements.{All-replicate}
use Rattle.std.proofs.lemmas.Map.Steps.{length-le_from_distinct_below}
use Rattle.std.proofs.lemmas.List.FromFn.{get_or-map-range_with_len, get_or-range_with_len, length-map-range_with_len, length-range_with_len}
use Rattle.ln_algebra.specs.Earlier.{Sites}
use Rattle.ln_algebra.specs.Vector.{covers, zeros}
use Rattle.ln_algebra.specs.Walk.{IsRanked, IsRanking, Member}
use Rattle.ln_algebra.proofs.Expanded.Expansion.{length-zeros}
use Rattle.ln_algebra.proofs.Ordering.Order.{before-irreflexive}
use Rattle.ln_algebra.proofs.Vectors.Zeros.{covers-zeros}
use Rattle.ln_algebra.proofs.Walking.Stages.{zeros-get}
use Rattle.ln_tree.specs.Exps.{vector}
use Rattle.ln_tree.proofs.Powers.{vector-length}
use Rattle.ln_poly.specs.Sparse.{Sparse, AreBelow, AreRising}
use Rattle.ln_stage.specs.Kept.{AreFresh, IsStep, all_rows, rows, term_at}

-- ---- the variables
fresh-ranked : (n : ℕ) (sites : Sites) (vs : List ℕ) → IsRanked sites vs → ((v : ℕ) → Member vs v → v < n) → AreFresh n vs
fresh-ranked n sites [] r h = tt
fresh-ranked n sites (v ∷ vs) r h = (h v (inl refl), (λ m. before-irreflexive sites v (r.2 v m)), fresh-ranked n sites vs r.3 (λ w m. h w (inr m)))

-- a ranking has variables below n, and none twice
pub fresh-ranking : (n : ℕ) (sites : Sites) (vs : List ℕ) → IsRanking n sites vs → AreFresh n vs
fresh-ranking n sites vs r = fresh-ranked n sites vs r.ranked r.below

-- ---- the terms
-- the exponent vectors of the terms at all places are those of all terms
pub rows-all : (n : ℕ) (f : Sparse) → rows n f (range_with_len 0 (length f)) ≡ all_rows n f
rows-all n f =
    same_lists (rows n f (range_with_len 0 (length f))) (all_rows n f)
    (length-map-range_with_len (λ i. vector n (term_at f i).0) 0 (length f) ∙ sym (length-map f (λ t. vector n t.0)))
    (λ k d h. let l : k < length f = omega (arith, h, length-map-range_with_len (λ i. vector n (term_at f i).0) 0 (length f)) in
    get_or-map-range_with_len (λ i. vector n (term_at f i).0) 0 (length f) k k d l (omega arith) ∙ sym (get_or-map (λ t. vector n t.0) f k ([], pos 0) d l))

-- and so with as many variables as the vector of zeros has
pub rows-start : (n : ℕ) (f : Sparse) → rows (length (zeros n)) f (range_with_len 0 (length f)) ≡ all_rows n f
rows-start n f = ap (λ z. rows z f (range_with_len 0 (length f))) (length-zeros n) ∙ rows-all n f

covered-all : (n : ℕ) (f : Sparse) → filter (λ m. covers m (zeros n)) (all_rows n f) ≡ all_rows n f
covered-all n [] = refl
covered-all n (t ∷ f) = rw (covers-zeros (vector n t.0) n (vector-length n t.0), covered-all n f) refl

inside-all : (n : ℕ) → All (λ i. i < n) (range_with_len 0 n)
inside-all n k d h = let l : k < n = omega (arith, h, length-range_with_len 0 n) in omega (arith, l, get_or-range_with_len 0 n k d l)

-- one number more
pub range-more : (a n : ℕ) → range_with_len a (n + 1) ≡ range_with_len a n ++ (a + n) ∷ []
range-more a zero = let e : a + zero ≡ a = omega arith in rw e refl
range-more a (suc n) =
    let e : a + suc n ≡ a + 1 + n = omega arith in
    let q : n + 1 ≡ suc n = omega arith in
    let ih : range_with_len (a + 1) (suc n) ≡ range_with_len (a + 1) n ++ (a + 1 + n) ∷ [] = rw q at (range-more (a + 1) n) in
    let z : suc n + 1 ≡ suc (suc n) = omega arith in
    rw (z, e) (ap (λ x. a ∷ x) ih)

-- ---- the vector
-- 0 repeated n times is the vector of zeros
pub zeros-replicate : (n : ℕ) → replicate n 0 ≡ zeros n
zeros-replicate zero = refl
zeros-replicate (suc n) = ap (λ z. 0 ∷ z) (zeros-replicate n)

-- the first step of a listing has all terms and the vector of zeros
pub start-step : (f : Sparse) (n : ℕ) (vs kept p : List ℕ) → AreBelow n f → AreRising f → 0 < length f → AreFresh n vs
    → kept ≡ range_with_len 0 (length f) → p ≡ zeros n → IsStep f vs kept p
start-step f n vs kept p below rising some r ek ep =
    let e : length p ≡ n = ap length ep ∙ length-zeros n in
    record {
      below = rw e below;
      rising = rising;
      fresh = rw e r;
      inside = rw ek (inside-all (length f));
      some = omega (arith, some, ap length ek, length-range_with_len 0 (length f));
      covering = rw (e, ek, ep) (rows-all n f ∙ sym (covered-all n f));
      none_yet = λ v m. ap (λ z. get_or z v 0) ep ∙ zeros-get n v;
      small = rw (ep, ← zeros-replicate n) (All-replicate (λ x. x < 128) n 0 (omega arith));
    }

-- ---- a ranking has no more variables than there are
fresh-distinct : (n : ℕ) (vs : List ℕ) → AreFresh n vs → IsDistinct eqb vs
unfolding IsDistinct
fresh-distinct n [] f = tt
fresh-distinct n (v ∷ vs) f = (others vs f.1, fresh-distinct n vs f.2) where
  others : (ws : List ℕ) → (Member ws v → ⊥) → AllByRecursion (λ y. eqb v y ≡ false) ws
  others [] h = tt
  others (w ∷ ws) h = (differ (eqb v w) refl, others ws (λ m. h (inr m))) where
    differ : (b : Bool) → eqb v w ≡ b → b ≡ false
    differ true q = absurd (h (inl (eqb-true v w q)))
    differ false q = refl

fresh-below : (n : ℕ) (vs : List ℕ) → AreFresh n vs → (q : ℕ) → list_any (eqb q) vs ≡ true → q < n
fresh-below n [] f q h = cc
fresh-below n (v ∷ vs) f q h = by (eqb q v) refl (fresh-below n vs f.2 q) where
  by : (b : Bool) → eqb q v ≡ b → (list_any (eqb q) vs ≡ true → q < n) → q < n
  by true e ih = rw (eqb-true q v e) f.0
  by false e ih = ih (rw e at h)

-- there are at most n variables below n of which none occurs twice
pub fresh-few : (n : ℕ) (vs : List ℕ) → AreFresh n vs → length vs ≤ n
fresh-few n vs f = length-le_from_distinct_below vs n (fresh-distinct n vs f) (fresh-below n vs f)
