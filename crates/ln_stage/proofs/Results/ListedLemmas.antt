-- The segments of all prefixes, one after the other.
use Rattle.std.proofs.Common.{◌≡◌, ◌⊎◌, inl, inr, zero, suc, ℕ, ◌+◌, ◌-◌, ◌*◌, ◌<◌, ◌≤◌, Bool, List, [], ◌∷◌, ◌++◌, append_assoc, length}
use Rattle.std.proofs.Common.{length-append, map, get_or, drop, refl, sym, ◌∙◌, ap, subst, arith}
use Rattle.std.proofs.lemmas.List.{append-nil, drop-map, drop_more}
use Rattle.ln_order.specs.declared.front.Front.{Front}
use Rattle.ln_order.specs.Fronts.{front_places}
use Rattle.ln_order.specs.Orders.{orders_of}
use Rattle.ln_order.specs.Prefixes.{IsPrefixOf, prefixes_of}
use Rattle.ln_order.proofs.Listing.FrontLemmas.{front-is-prefix}
use Rattle.ln_order.proofs.Listing.PrefixLemmas.{fronts-follow}
use Rattle.ln_poly.specs.Sparse.{Sparse}
use Rattle.ln_stage.specs.FirstSight.{shared_count}
use Rattle.ln_stage.specs.Kept.{numbers_by, tallied_by}
use Rattle.ln_stage.specs.Lists.{covering}
use Rattle.ln_stage.specs.Tally.{IsOver, IsStoppedBy, Tallied, next_list, number_in, pairs_of, see, see_all}
use Rattle.ln_stage.specs.Visit.{AreCuts, AreCutsFor, AreListed}
use Rattle.ln_stage.specs.declared.stop.StageStop.{StageStop}
use Rattle.ln_stage.proofs.Results.FoldLemmas.{over-by}
use Rattle.ln_stage.proofs.Walks.TurnLemmas.{stopped-more}
use Rattle.ln_stage.proofs.Walks.VisitLemmas.{cuts-go}

-- ---- the list at hand
list-more : (n : ℕ) (f : Sparse) (t : Tallied) (xs : List (List ℕ)) → length (see_all n f t xs).list ≡ length t.list + length xs
list-more n f t [] = omega arith
list-more n f t (x ∷ xs) =
    let l : length (t.list ++ number_in t.exps (pairs_of x) ∷ []) ≡ length t.list + 1 = length-append t.list (number_in t.exps (pairs_of x) ∷ []) in
    let ih = list-more n f (see (covering n f x) t (pairs_of x)) xs in
    omega (arith, ih, l)

-- ---- steps of the loop
-- from a place in the list on, the prefixes are the one at the place, and then those after it
pub more-prefixes : (all : List Front) (i : ℕ) (p : Front) → i < length all → p ≡ get_or all i p
    → map front_places (drop i all) ≡ front_places p ∷ map front_places (drop (i + 1) all)
more-prefixes all i p h e = ap (map front_places) (drop_more all i p h) ∙ ap (λ z. front_places z ∷ map front_places (drop (i + 1) all)) (sym e)

-- what is at a place in the list of all prefixes is a prefix
pub at-prefix : (all : List Front) (k i : ℕ) (p : Front) → map front_places all ≡ prefixes_of k → i < length all → p ≡ get_or all i p
    → IsPrefixOf k (front_places p)
at-prefix all k i p e h q = subst (λ z. IsPrefixOf k (front_places z)) (sym q) (front-is-prefix all k e i p h)

-- where the loop over the prefixes is: the rest of them leads to the same numbers, count and tally as all do
pub record IsUpTo (L : List ℕ → List (List ℕ)) (k n : ℕ) (f : Sparse) (start : Tallied) (all rest : List (List ℕ)) (most : ℕ)
    (now : Tallied) (segs : List (List ℕ)) (c : ℕ) : Type 0 where
  pub tally : tallied_by L n f now rest ≡ tallied_by L n f start all
  pub segments : segs ++ numbers_by L n f now rest ≡ numbers_by L n f start all
  pub count : c + shared_count k L rest ≡ shared_count k L all
  pub within : c ≤ most
  pub empty : now.list ≡ []

-- its beginning
pub up-begins : {L : List ℕ → List (List ℕ)} {k n : ℕ} {f : Sparse} {start : Tallied} {all segs : List (List ℕ)} {most : ℕ} → start.list ≡ [] → segs ≡ []
    → IsUpTo L k n f start all all most start segs 0
up-begins e s = record { tally = refl; segments = rw s refl; count = omega arith; within = omega arith; empty = e }

module _ {L : List ℕ → List (List ℕ)} {k n : ℕ} {f : Sparse} {start now : Tallied} {all ps segs : List (List ℕ)} {most c : ℕ}
    (x : IsUpTo L k n f start all ps most now segs c) where
  -- its end
  pub up-ends : ps ≡ [] → all ≡ prefixes_of k → AreListed L k n f start most segs c now
  unfolding tallied_by numbers_by
  up-ends e a = record {
    segments = sym (append-nil segs) ∙ ap (λ z. segs ++ numbers_by L n f now z) (sym e) ∙ x.segments ∙ ap (numbers_by L n f start) a;
    count = omega (arith, x.count, ap (shared_count k L) e, ap (shared_count k L) a);
    within = x.within;
    tally = ap (tallied_by L n f now) (sym e) ∙ x.tally ∙ ap (tallied_by L n f start) a;
  }

  module _ {p : List ℕ} {rest : List (List ℕ)} (e : ps ≡ p ∷ rest) where
    tally-goes : tallied_by L n f (next_list (see_all n f now (L p))) rest ≡ tallied_by L n f start all
    unfolding tallied_by
    tally-goes = ap (tallied_by L n f now) (sym e) ∙ x.tally

    -- what is over a limit stays so
    pub up-over : (B : Type 0) (stop : StageStop) → IsStoppedBy stop (IsOver (see_all n f now (L p)))
        → IsStoppedBy stop (IsOver (tallied_by L n f start all) ⊎ B)
    up-over B stop h = stopped-more stop
        (λ o. inl (subst IsOver tally-goes (over-by L n f (next_list (see_all n f now (L p))) rest o))) h

    module _ {l : List ℕ} {share size : ℕ} (seen : l ≡ (see_all n f now (L p)).list) (sized : size ≡ length l)
        (shared : share ≡ length (orders_of (k - length p))) where
      -- a segment as often as it occurs in a list
      shares-here : (c + share * size) + shared_count k L rest ≡ shared_count k L all
      shares-here =
          let a : size ≡ length (L p) = omega (arith, sized, ap length seen, list-more n f now (L p), ap length x.empty) in
          let b : share * size ≡ length (orders_of (k - length p)) * length (L p) =
          ap (λ m. m * size) shared ∙ ap (λ m. length (orders_of (k - length p)) * m) a in
          omega (arith, x.count, b, ap (shared_count k L) e)

      -- a stop because the count so far exceeds the limit is one because the count of all lists does
      pub up-passes : (A : Type 0) (stop : StageStop) → IsStoppedBy stop (most < c + share * size)
          → IsStoppedBy stop (A ⊎ (most < shared_count k L all))
      up-passes A stop h = stopped-more stop (λ o. inr (omega (arith, shares-here, o))) h

      -- one prefix more
      pub up-goes : {u : Tallied} {new : List (List ℕ)} {m : ℕ} → u ≡ next_list (see_all n f now (L p)) → new ≡ segs ++ l ∷ []
          → m ≡ c + share * size → m ≤ most → IsUpTo L k n f start all rest most u new m
      unfolding numbers_by
      up-goes q w z y = record {
        tally = ap (λ v. tallied_by L n f v rest) q ∙ tally-goes;
        segments = rw (w, q, seen) (append_assoc segs ((see_all n f now (L p)).list ∷ []) (numbers_by L n f (next_list (see_all n f now (L p))) rest)
            ∙ ap (λ v. segs ++ numbers_by L n f now v) (sym e) ∙ x.segments);
        count = omega (arith, z, shares-here);
        within = y;
        empty = ap (λ (v : Tallied). v.list) q;
      }

-- nothing comes before the first prefix
cuts-first : (cut : List ℕ → Bool) (k : ℕ) (cuts : List Bool) → AreCutsFor cut (prefixes_of k) cuts
cuts-first cut zero cuts = λ j l. absurd (omega (arith, l))
cuts-first cut (suc k) cuts = λ j l. absurd (omega (arith, l))

-- the beginning of the loop over the prefixes: no prefix is before the first, so the cuts before it are known
pub cuts-begin : (cut : List ℕ → Bool) (ps : List (List ℕ)) (k : ℕ) (cuts : List Bool) → ps ≡ prefixes_of k → AreCutsFor cut ps cuts
cuts-begin cut ps k cuts e = subst (λ z. AreCutsFor cut z cuts) (sym e) (cuts-first cut k cuts)

-- the cuts of the prefix that follows
pub cuts-follow : (cut : List ℕ → Bool) (all : List Front) (k i : ℕ) (p : Front) (cuts : List Bool)
    → k ≤ 5 → map front_places all ≡ prefixes_of k → i < length all → p ≡ get_or all i p
    → AreCuts cut (length (front_places p) + 1) (front_places p) cuts → AreCutsFor cut (map front_places (drop (i + 1) all)) cuts
cuts-follow cut all k i p cuts few e h q a =
    cuts-go cut (prefixes_of k) i (front_places p) (map front_places (drop (i + 1) all)) cuts (λ j l. fronts-follow k j few l)
    (ap (drop i) (sym e) ∙ drop-map front_places i all ∙ more-prefixes all i p h q) a
