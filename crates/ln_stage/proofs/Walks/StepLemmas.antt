-- Steps of the listing: the remaining terms, and what is listed.
use Rattle.std.proofs.Common.{◌≡◌, inl, inr, ℕ, zero, suc, ◌+◌, ◌<◌, ◌≤◌, ℤ, Bool, true, false, take, cond, leb, List, [], ◌∷◌, ◌++◌}
use Rattle.std.proofs.Common.{length, get_or, set, refl, sym, ◌∙◌, ap, arith, if◌then◌else◌, ◌&&◌}
use Rattle.std.specs.List.{AllByRecursion}
use Rattle.std.specs.Prelude.{All, filter, nat_le, ◌==◌}
use Rattle.std.proofs.lemmas.Bool.Decides.{nat_tests}
use Rattle.std.proofs.lemmas.List.{append-nil, length-map, get_or-set_other, take_more}
use Rattle.std.proofs.Math.ListN.{length-set}
use Rattle.std.proofs.lemmas.List.Elements.{All-filter, All-head, All-tail, All-set, filter-append}
use Rattle.std.proofs.lemmas.List.Sums.{sum_by-cons}
use Rattle.ln_algebra.specs.Vector.{covers}
use Rattle.ln_algebra.specs.Walk.{Found, Member, all_same, at_least, unless_none, walk}
use Rattle.ln_tree.specs.Exps.{Pairs, exponent, vector}
use Rattle.ln_tree.proofs.Powers.{vector-get, vector-length}
use Rattle.ln_poly.specs.Sparse.{Sparse, AreBelow, AreRising}
use Rattle.ln_stage.specs.Kept.{IsStep, all_have, all_rows, high, listed, rows, term_at}
use Rattle.ln_stage.specs.Lists.{covering}
use Rattle.ln_stage.specs.Tally.{IsOver, Tallied, number_in, pairs_of, see, see_all}
use Rattle.ln_stage.proofs.Walks.PairsLemmas.{tests-same}

-- ---- the remaining terms
-- one place more is kept, or not
pub place-is : (f : Sparse) (k : ℕ) (t : Pairs × ℤ) → k < length f → t ≡ get_or f k t → t ≡ term_at f k
place-is [] k t h e = absurd (omega (arith, h))
place-is (x ∷ f) zero t h e = e
place-is (x ∷ f) (suc k) t h e = place-is f k t (omega (arith, h)) e

high-more : (f : Sparse) (v e i : ℕ) (kept : List ℕ) → i < length kept
    → high f v e (take (i + 1) kept) ≡ high f v e (take i kept) ++ high f v e (get_or kept i 0 ∷ [])
high-more f v e i kept h =
    ap (high f v e) (take_more kept i 0 h) ∙ filter-append (λ k. nat_le e (exponent v (term_at f k).0)) (take i kept) (get_or kept i 0 ∷ [])

-- the step of `with_exponent` at a term with an exponent of at least e: its place is kept
pub high-takes : (f : Sparse) (v e i : ℕ) (kept now after : List ℕ) → i < length kept → now ≡ high f v e (take i kept)
    → e ≤ exponent v (term_at f (get_or kept i 0)).0 → after ≡ now ++ (get_or kept i 0 ∷ []) → after ≡ high f v e (take (i + 1) kept)
high-takes f v e i kept now after h n l a =
    let s : nat_le e (exponent v (term_at f (get_or kept i 0)).0) ≡ true = grind (arith, nat_tests) in
    let one : high f v e (get_or kept i 0 ∷ []) ≡ get_or kept i 0 ∷ [] = rw s refl in
    a ∙ ap (λ z. z ++ (get_or kept i 0 ∷ [])) n ∙ ap (λ z. high f v e (take i kept) ++ z) (sym one) ∙ sym (high-more f v e i kept h)

-- the step of `with_exponent` at a term with a smaller exponent: its place isn't kept
pub high-leaves : (f : Sparse) (v e i : ℕ) (kept now : List ℕ) → i < length kept → now ≡ high f v e (take i kept)
    → exponent v (term_at f (get_or kept i 0)).0 < e → now ≡ high f v e (take (i + 1) kept)
high-leaves f v e i kept now h n l =
    let s : nat_le e (exponent v (term_at f (get_or kept i 0)).0) ≡ false = grind (arith, nat_tests) in
    let none : high f v e (get_or kept i 0 ∷ []) ≡ [] = rw s refl in
    n ∙ sym (append-nil (high f v e (take i kept))) ∙ ap (λ z. high f v e (take i kept) ++ z) (sym none) ∙ sym (high-more f v e i kept h)

-- those with a high exponent
pub rows-high : (n : ℕ) (f : Sparse) (v e : ℕ) (kept : List ℕ) → v < n → rows n f (high f v e kept) ≡ at_least v e (rows n f kept)
rows-high n f v e [] h = refl
rows-high n f v e (i ∷ kept) h = go (nat_le e (exponent v (term_at f i).0)) refl (rows-high n f v e kept h) where
  go : (t : Bool) → nat_le e (exponent v (term_at f i).0) ≡ t → rows n f (high f v e kept) ≡ at_least v e (rows n f kept)
      → rows n f (cond t (i ∷ high f v e kept) (high f v e kept))
      ≡ (if leb e (get_or (vector n (term_at f i).0) v 0) then vector n (term_at f i).0 ∷ at_least v e (rows n f kept) else at_least v e (rows n f kept))
  go t q ih =
      let s : leb e (get_or (vector n (term_at f i).0) v 0) ≡ t = ap (leb e) (vector-get n v (term_at f i).0 h) ∙ q in
      rw s (both t ih) where
        both : (t : Bool) → rows n f (high f v e kept) ≡ at_least v e (rows n f kept) → rows n f (cond t (i ∷ high f v e kept) (high f v e kept))
            ≡ (if t then vector n (term_at f i).0 ∷ at_least v e (rows n f kept) else at_least v e (rows n f kept))
        both true r = ap (λ z. vector n (term_at f i).0 ∷ z) r
        both false r = r

-- a vector with one exponent set, from 0, is covered where it was, by those that have the exponent
covers-set : (m p : List ℕ) (v e : ℕ) → length m ≡ length p → v < length p → get_or p v 0 ≡ 0 → covers m (set p v e) ≡ (covers m p && leb e (get_or m v 0))
covers-set [] [] v e s h z = absurd (omega arith)
covers-set [] (k ∷ p) v e s h z = absurd (omega arith)
covers-set (n ∷ m) [] v e s h z = absurd (omega arith)
covers-set (n ∷ m) (k ∷ p) zero e s h z = flip (leb e n) (covers m p) (leb k n) (let q : k ≡ 0 = z in grind (arith, nat_tests, q)) where
  flip : (x y w : Bool) → w ≡ true → (x && y) ≡ ((w && y) && x)
  flip true true w q = rw q refl
  flip true false w q = rw q refl
  flip false true w q = rw q refl
  flip false false w q = rw q refl
covers-set (n ∷ m) (k ∷ p) (suc v) e s h z =
    ap (λ x. leb k n && x) (covers-set m p v e (omega (arith, s)) (omega (arith, h)) z) ∙ assoc (leb k n) (covers m p) (leb e (get_or m v 0)) where
      assoc : (x y w : Bool) → (x && (y && w)) ≡ ((x && y) && w)
      assoc true y w = refl
      assoc false y w = refl

rows-size : (n : ℕ) (f : Sparse) → AllByRecursion (λ m. length m ≡ n) (all_rows n f)
rows-size n [] = tt
rows-size n (t ∷ f) = (vector-length n t.0, rows-size n f)

-- so are those that cover it
covering-set : (p : List ℕ) (v e : ℕ) (ms : List (List ℕ)) → AllByRecursion (λ m. length m ≡ length p) ms → v < length p → get_or p v 0 ≡ 0
    → at_least v e (filter (λ m. covers m p) ms) ≡ filter (λ m. covers m (set p v e)) ms
covering-set p v e [] s h z = refl
covering-set p v e (m ∷ ms) s h z = go (covers m p) refl (leb e (get_or m v 0)) refl (covers-set m p v e s.0 h z) (covering-set p v e ms s.1 h z) where
  go : (x : Bool) → covers m p ≡ x → (y : Bool) → leb e (get_or m v 0) ≡ y → covers m (set p v e) ≡ (covers m p && leb e (get_or m v 0))
      → at_least v e (filter (λ m. covers m p) ms) ≡ filter (λ m. covers m (set p v e)) ms
      → at_least v e (cond x (m ∷ filter (λ m. covers m p) ms) (filter (λ m. covers m p) ms))
      ≡ cond (covers m (set p v e)) (m ∷ filter (λ m. covers m (set p v e)) ms) (filter (λ m. covers m (set p v e)) ms)
  go true q true r c ih = let d : covers m (set p v e) ≡ true = rw (q, r) at c in rw (r, d) (ap (λ z. m ∷ z) ih)
  go true q false r c ih = let d : covers m (set p v e) ≡ false = rw (q, r) at c in rw (r, d) ih
  go false q y r c ih = let d : covers m (set p v e) ≡ false = rw q at c in rw d ih

fresh-more : (n : ℕ) (vs : List ℕ) (p : List ℕ) (v e : ℕ) → (Member vs v → ⊥) → ((w : ℕ) → Member vs w → get_or p w 0 ≡ 0) → (w : ℕ)
    → Member vs w → get_or (set p v e) w 0 ≡ 0
fresh-more n vs p v e h z w m = get_or-set_other p v w e 0 (λ q. h (rw q at m)) ∙ z w m

-- the next step of the listing, where v has the exponent e
pub step-down : (f : Sparse) (v : ℕ) (vs kept p : List ℕ) (e : ℕ) → IsStep f (v ∷ vs) kept p → e < 128 → 0 < length (high f v e kept)
    → IsStep f vs (high f v e kept) (set p v e)
step-down f v vs kept p e s small some =
    let n : length (set p v e) ≡ length p = length-set p v e in
    record {
      below = rw n s.below;
      rising = s.rising;
      fresh = rw n s.fresh.2;
      inside = All-filter (λ i. nat_le e (exponent v (term_at f i).0)) (λ i. i < length f) kept s.inside;
      some = some;
      covering = rw n (rows-high (length p) f v e kept s.fresh.0 ∙ ap (at_least v e) s.covering
          ∙ covering-set p v e (all_rows (length p) f) (rows-size (length p) f) s.fresh.0 (s.none_yet v (inl refl)));
      none_yet = λ w m. fresh-more (length p) vs p v e s.fresh.1 (λ u k. s.none_yet u (inr k)) w m;
      small = All-set (λ x. x < 128) p v e small s.small;
    }

-- ---- the end of a branch
-- all remaining terms are the vector itself
all-have : (f : Sparse) (p kept : List ℕ) → AreBelow (length p) f → AreRising f → All (λ i. i < length f) kept
    → all_have f (pairs_of p) kept ≡ all_same (rows (length p) f kept) p
all-have f p [] b r h = refl
all-have f p (i ∷ kept) b r h =
    let l : i < length f = All-head (λ i. i < length f) i kept h in
    let t = tests-same (length p) (term_at f i).0 p (r i _ l) (b i _ l) refl in
    rw (t, all-have f p kept b r (All-tail (λ i. i < length f) i kept h)) refl

rows-some : (n : ℕ) (f : Sparse) (kept : List ℕ) (r : Found) → 0 < length kept → unless_none (rows n f kept) r ≡ r
rows-some n f [] r h = absurd (omega arith)
rows-some n f (i ∷ kept) r h = refl

-- what one term counts for
abbrev pub ones : Bool → ℕ
ones x = cond x 1 0

covering-count : (n : ℕ) (f : Sparse) (p : List ℕ) → length (filter (λ m. covers m p) (all_rows n f)) ≡ covering n f p
covering-count n [] p = refl
covering-count n (t ∷ f) p = go (covers (vector n t.0) p) refl (covering-count n f p) where
  go : (x : Bool) → covers (vector n t.0) p ≡ x → length (filter (λ m. covers m p) (all_rows n f)) ≡ covering n f p
      → length (cond x (vector n t.0 ∷ filter (λ m. covers m p) (all_rows n f)) (filter (λ m. covers m p) (all_rows n f))) ≡ covering n (t ∷ f) p
  go true q ih = omega (arith, ih, sum_by-cons (λ t. cond (covers (vector n t.0) p) 1 0) t f, ap ones q)
  go false q ih = omega (arith, ih, sum_by-cons (λ t. cond (covers (vector n t.0) p) 1 0) t f, ap ones q)

-- as many terms remain as cover the vector
pub kept-count : (f : Sparse) (vs kept p : List ℕ) → IsStep f vs kept p → length kept ≡ covering (length p) f p
kept-count f vs kept p s = omega (arith, length-map kept (λ i. vector (length p) (term_at f i).0), ap length s.covering, covering-count (length p) f p)

-- what is listed there
pub leaf-walk : (f : Sparse) (kept p : List ℕ) → IsStep f [] kept p → walk 128 [] (rows (length p) f kept) p ≡ (p ∷ [], all_have f (pairs_of p) kept)
leaf-walk f kept p s = rows-some (length p) f kept (p ∷ [], all_same (rows (length p) f kept) p) s.some
    ∙ ap (λ z. (p ∷ [], z)) (sym (all-have f p kept s.below s.rising s.inside))

-- at the end of a branch the vector is the one stage that is seen
pub leaf-sees : (f : Sparse) (kept p : List ℕ) (t : Tallied) (a : Pairs) → IsStep f [] kept p → a ≡ pairs_of p
    → see (length kept) t a ≡ see_all (length p) f t (listed f [] kept p).0
unfolding listed
leaf-sees f kept p t a s e = rw (leaf-walk f kept p s, e, kept-count f [] kept p s) refl

-- at the end of a branch the cut is there where all remaining terms have the vector's exponents
pub leaf-cut : (f : Sparse) (kept p : List ℕ) (a : Pairs) → IsStep f [] kept p → a ≡ pairs_of p → all_have f a kept ≡ (listed f [] kept p).1
unfolding listed
leaf-cut f kept p a s e = rw (leaf-walk f kept p s, e) refl

-- ---- several stages more
-- the stages of two lists, one after the other, are seen as those of the first list, and then those of the second
pub see_all-append : (n : ℕ) (f : Sparse) (t : Tallied) (xs ys : List (List ℕ)) → see_all n f t (xs ++ ys) ≡ see_all n f (see_all n f t xs) ys
see_all-append n f t [] ys = refl
see_all-append n f t (x ∷ xs) ys = see_all-append n f (see (covering n f x) t (pairs_of x)) xs ys

see-limits : (cover : ℕ) (t : Tallied) (a : Pairs) → IsOver t → IsOver (see cover t a)
see-limits cover t a (inl l) = inl (omega (arith, l))
see-limits cover t a (inr l) = inr (more (number_in t.exps a == length t.exps)) where
  more : (b : Bool) → t.heavy < (if b then t.weight + cover else t.weight)
  more true = omega (arith, l)
  more false = l

-- over the limit, it stays so
pub over-more : (n : ℕ) (f : Sparse) (t : Tallied) (xs : List (List ℕ)) → IsOver t → IsOver (see_all n f t xs)
over-more n f t [] h = h
over-more n f t (x ∷ xs) h = over-more n f (see (covering n f x) t (pairs_of x)) xs (see-limits (covering n f x) t (pairs_of x) h)
