-- What is kept after several stages and several lists: numbers, count and weight.
use Rattle.std.proofs.Common.{◌≡◌, ℕ, zero, suc, ◌+◌, ◌<◌, ◌≤◌, Bool, true, false, cond, not, List, [], ◌∷◌, ◌++◌, length, map, get_or}
use Rattle.std.proofs.Common.{refl, sym, ◌∙◌, ap, arith, if◌then◌else◌, append_assoc}
use Rattle.std.specs.List.{AllByRecursion}
use Rattle.std.specs.Prelude.{All, ◌==◌}
use Rattle.std.proofs.lemmas.Bool.Decides.{nat_tests}
use Rattle.std.proofs.lemmas.List.{append-nil, length-map}
use Rattle.std.proofs.lemmas.List.Elements.{All-cons, All-nil}
use Rattle.ln_algebra.specs.Vector.{same_vector}
use Rattle.ln_algebra.proofs.Expanded.Normal.{same_vector-is}
use Rattle.ln_tree.specs.Exps.{same_pairs}
use Rattle.ln_poly.specs.Sparse.{Sparse}
use Rattle.ln_stage.specs.Kept.{numbers_by, tallied_by}
use Rattle.ln_stage.specs.Lists.{all_covering, all_seen_behind, covering, put_last, seen_behind, stage_count}
use Rattle.ln_stage.specs.Staged.{count_numbers}
use Rattle.ln_stage.specs.Tally.{IsOver, Tallied, next_list, number_in, pairs_of, put_exps, see, see_all}
use Rattle.ln_stage.proofs.Walks.PairsLemmas.{tests-of-vectors}
use Rattle.ln_stage.proofs.Walks.StepLemmas.{over-more}
use Rattle.ln_stage.proofs.Results.TallyLemmas.{number-more}
use Rattle.ln_stage.proofs.Sights.Members.{each-behind, each-put}

-- each vector has n exponents
abbrev pub Sized : ℕ → List (List ℕ) → Type 0
Sized n = AllByRecursion (λ a. length a ≡ n)

-- ---- one vector more
-- the place of a vector, or the next one
pub place : List (List ℕ) → List ℕ → ℕ
place [] a = 0
place (b ∷ bs) a = if same_vector a b then 0 else suc (place bs a)

place-cons : (b : List ℕ) (bs : List (List ℕ)) (a : List ℕ) → place (b ∷ bs) a ≡ (if same_vector a b then 0 else suc (place bs a))
unfolding place
place-cons b bs a = refl

place-nil : (a : List ℕ) → place [] a ≡ 0
unfolding place
place-nil a = refl

-- the same in pairs
put-pairs : (n : ℕ) (bs : List (List ℕ)) (a : List ℕ) → Sized n bs → length a ≡ n → put_exps (map pairs_of bs) (pairs_of a) ≡ map pairs_of (put_last bs a)
put-pairs n [] a s e = refl
put-pairs n (b ∷ bs) a s e = go (same_vector a b) (tests-of-vectors n a b e s.0) (put-pairs n bs a s.1 e) where
  go : (t : Bool) → same_pairs (pairs_of a) (pairs_of b) ≡ t → put_exps (map pairs_of bs) (pairs_of a) ≡ map pairs_of (put_last bs a)
      → (if same_pairs (pairs_of a) (pairs_of b) then pairs_of b ∷ map pairs_of bs else pairs_of b ∷ put_exps (map pairs_of bs) (pairs_of a))
      ≡ map pairs_of (if t then b ∷ bs else b ∷ put_last bs a)
  go true q h = rw q refl
  go false q h = rw q (ap (λ z. pairs_of b ∷ z) h)

number-pairs : (n : ℕ) (bs : List (List ℕ)) (a : List ℕ) → Sized n bs → length a ≡ n → number_in (map pairs_of bs) (pairs_of a) ≡ place bs a
number-pairs n [] a s e = sym (place-nil a)
number-pairs n (b ∷ bs) a s e = number-more (pairs_of b) (map pairs_of bs) (pairs_of a) (same_vector a b) (tests-of-vectors n a b e s.0)
    ∙ go (same_vector a b) (number-pairs n bs a s.1 e) ∙ sym (place-cons b bs a)
  where
    go : (t : Bool) → number_in (map pairs_of bs) (pairs_of a) ≡ place bs a
        → cond (not t) (1 + number_in (map pairs_of bs) (pairs_of a)) 0 ≡ (if t then 0 else suc (place bs a))
    go true h = refl
    go false h = omega (arith, h)

-- cs goes on with bs
pub record Extends (bs cs : List (List ℕ)) : Type 0 where
  pub longer : length bs ≤ length cs
  pub same : (k : ℕ) → k < length bs → get_or cs k [] ≡ get_or bs k []

-- a list goes on with itself
pub extends-refl : (bs : List (List ℕ)) → Extends bs bs
extends-refl bs = record { longer = omega arith; same = λ k h. refl }

extends-trans : (as' bs cs : List (List ℕ)) → Extends as' bs → Extends bs cs → Extends as' cs
extends-trans as' bs cs x y = record { longer = omega (arith, x.longer, y.longer); same = λ k h. y.same k (omega (arith, h, x.longer)) ∙ x.same k h }

extends-cons : (b : List ℕ) (bs cs : List (List ℕ)) → Extends bs cs → Extends (b ∷ bs) (b ∷ cs)
extends-cons b bs cs x = record { longer = omega (arith, x.longer); same = same } where
  same : (k : ℕ) → k < suc (length bs) → get_or (b ∷ cs) k [] ≡ get_or (b ∷ bs) k []
  same zero h = refl
  same (suc k) h = x.same k (omega (arith, h))

extends-put : (bs : List (List ℕ)) (a : List ℕ) → Extends bs (put_last bs a)
extends-put [] a = record { longer = omega arith; same = λ k h. absurd (omega arith) }
extends-put (b ∷ bs) a = go (same_vector a b) (extends-put bs a) where
  go : (t : Bool) → Extends bs (put_last bs a) → Extends (b ∷ bs) (if t then b ∷ bs else b ∷ put_last bs a)
  go true h = extends-refl (b ∷ bs)
  go false h = extends-cons b bs (put_last bs a) h

-- the vector is at its place
place-at : (bs : List (List ℕ)) (a : List ℕ) → (place bs a < length (put_last bs a)) × (get_or (put_last bs a) (place bs a) [] ≡ a)
unfolding place
place-at [] a = (omega arith, refl)
place-at (b ∷ bs) a = go (same_vector a b) refl (place-at bs a) where
  go : (t : Bool) → same_vector a b ≡ t → (place bs a < length (put_last bs a)) × (get_or (put_last bs a) (place bs a) [] ≡ a)
      → ((if t then 0 else suc (place bs a)) < length (if t then b ∷ bs else b ∷ put_last bs a))
      × (get_or (if t then b ∷ bs else b ∷ put_last bs a) (if t then 0 else suc (place bs a)) [] ≡ a)
  go true q h = (omega arith, sym (same_vector-is a b q))
  go false q h = (omega (arith, h.0), h.1)

-- its weight counts where it is new
put-weight : (n : ℕ) (f : Sparse) (bs : List (List ℕ)) (a : List ℕ)
    → all_covering n f (put_last bs a) ≡ all_covering n f bs + (if place bs a == length bs then covering n f a else 0)
unfolding place
put-weight n f [] a = omega arith
put-weight n f (b ∷ bs) a = go (same_vector a b) (put-weight n f bs a) where
  go : (t : Bool) → all_covering n f (put_last bs a) ≡ all_covering n f bs + (if place bs a == length bs then covering n f a else 0)
      → all_covering n f (if t then b ∷ bs else b ∷ put_last bs a)
      ≡ covering n f b + all_covering n f bs + (if (if t then 0 else suc (place bs a)) == suc (length bs) then covering n f a else 0)
  go true h = let e : (0 == suc (length bs)) ≡ false = grind (arith, nat_tests) in rw e (omega arith)
  go false h = let e : (suc (place bs a) == suc (length bs)) ≡ (place bs a == length bs) = grind (arith, nat_tests) in rw e (omega (arith, h))

-- ---- several vectors more
-- their places
pub numbers : List (List ℕ) → List (List ℕ) → List ℕ
numbers bs [] = []
numbers bs (a ∷ as') = place bs a ∷ numbers (put_last bs a) as'

extends-behind : (bs xs : List (List ℕ)) → Extends bs (seen_behind bs xs)
extends-behind bs [] = extends-refl bs
extends-behind bs (x ∷ xs) = extends-trans bs (put_last bs x) (seen_behind (put_last bs x) xs) (extends-put bs x) (extends-behind (put_last bs x) xs)

-- what is kept after them
pub record IsSeen (n : ℕ) (f : Sparse) (bs : List (List ℕ)) (t : Tallied) (xs : List (List ℕ)) (u : Tallied) : Type 0 where
  pub exps : u.exps ≡ map pairs_of (seen_behind bs xs)
  pub list : u.list ≡ t.list ++ numbers bs xs
  pub count : u.count ≡ t.count + length xs
  pub weight : u.weight + all_covering n f bs ≡ t.weight + all_covering n f (seen_behind bs xs)
  pub most : u.most ≡ t.most
  pub heavy : u.heavy ≡ t.heavy

weigh-more : (w c : ℕ) (b : Bool) → (if b then w + c else w) ≡ w + (if b then c else 0)
weigh-more w c true = refl
weigh-more w c false = omega arith

all-seen : (n : ℕ) (f : Sparse) (bs : List (List ℕ)) (t : Tallied) (xs : List (List ℕ)) → t.exps ≡ map pairs_of bs → Sized n bs → Sized n xs
    → IsSeen n f bs t xs (see_all n f t xs)
unfolding numbers
all-seen n f bs t [] e s z = record { exps = e; list = sym (append-nil t.list); count = omega arith; weight = refl; most = refl; heavy = refl }
all-seen n f bs t (x ∷ xs) e s z =
    let q : number_in t.exps (pairs_of x) ≡ place bs x = ap (λ es. number_in es (pairs_of x)) e ∙ number-pairs n bs x s z.0 in
    let l : length t.exps ≡ length bs = ap length e ∙ length-map bs pairs_of in
    let u : Tallied = see (covering n f x) t (pairs_of x) in
    let ih = all-seen n f (put_last bs x) u xs (ap (λ es. put_exps es (pairs_of x)) e ∙ put-pairs n bs x s z.0) (each-put (λ a. length a ≡ n) bs x s z.0) z.1 in
    let w : u.weight ≡ t.weight + (if place bs x == length bs then covering n f x else 0) =
    weigh-more t.weight (covering n f x) (number_in t.exps (pairs_of x) == length t.exps)
    ∙ ap (λ b. t.weight + (if b then covering n f x else 0)) (rw (q, l) refl) in
    record {
      exps = ih.exps;
      list = ih.list ∙ append_assoc t.list (number_in t.exps (pairs_of x) ∷ []) (numbers (put_last bs x) xs)
          ∙ ap (λ k. t.list ++ k ∷ numbers (put_last bs x) xs) q;
      count = omega (arith, ih.count);
      weight = omega (arith, ih.weight, w, put-weight n f bs x);
      most = ih.most;
      heavy = ih.heavy;
    }

-- the vectors at the places are the vectors
at-numbers : (bs xs cs : List (List ℕ)) → Extends (seen_behind bs xs) cs → map (λ i. get_or cs i []) (numbers bs xs) ≡ xs
unfolding numbers
at-numbers bs [] cs h = refl
at-numbers bs (x ∷ xs) cs h =
    let p = place-at bs x in
    let z = extends-trans (put_last bs x) (seen_behind (put_last bs x) xs) cs (extends-behind (put_last bs x) xs) h in
    let e : get_or cs (place bs x) [] ≡ x = z.same (place bs x) p.0 ∙ p.1 in
    rw (e, at-numbers (put_last bs x) xs cs h) refl

numbers-within : (bs xs cs : List (List ℕ)) → Extends (seen_behind bs xs) cs → All (λ i. i < length cs) (numbers bs xs)
unfolding numbers
numbers-within bs [] cs h = All-nil (λ i. i < length cs)
numbers-within bs (x ∷ xs) cs h =
    let p = place-at bs x in
    let z = extends-trans (put_last bs x) (seen_behind (put_last bs x) xs) cs (extends-behind (put_last bs x) xs) h in
    All-cons (λ i. i < length cs) (place bs x) (numbers (put_last bs x) xs) (omega (arith, p.0, z.longer)) (numbers-within (put_last bs x) xs cs h)

numbers-length : (bs xs : List (List ℕ)) → length (numbers bs xs) ≡ length xs
unfolding numbers
numbers-length bs [] = refl
numbers-length bs (x ∷ xs) = omega (arith, numbers-length (put_last bs x) xs)

-- ---- several lists
extends-all : (bs : List (List ℕ)) (ls : List (List (List ℕ))) → Extends bs (all_seen_behind bs ls)
extends-all bs [] = extends-refl bs
extends-all bs (l ∷ ls) = extends-trans bs (seen_behind bs l) (all_seen_behind (seen_behind bs l) ls) (extends-behind bs l) (extends-all (seen_behind bs l) ls)

-- ---- any lists, one at each of these
-- what is kept after the lists at several places: the blocks by first sight, their numbers, count and weight, and the limits as before
pub record IsAllSeenBy (L : List ℕ → List (List ℕ)) (n : ℕ) (f : Sparse) (bs : List (List ℕ)) (t : Tallied) (ps : List (List ℕ)) : Type 0 where
  pub exps : (tallied_by L n f t ps).exps ≡ map pairs_of (all_seen_behind bs (map L ps))
  pub lists : (cs : List (List ℕ)) → Extends (all_seen_behind bs (map L ps)) cs → map (λ l. map (λ i. get_or cs i []) l) (numbers_by L n f t ps) ≡ map L ps
  pub within : (cs : List (List ℕ)) → Extends (all_seen_behind bs (map L ps)) cs → All (λ l. All (λ i. i < length cs) l) (numbers_by L n f t ps)
  pub count : (tallied_by L n f t ps).count ≡ t.count + stage_count (map L ps)
  pub counted : count_numbers (numbers_by L n f t ps) ≡ stage_count (map L ps)
  pub weight : (tallied_by L n f t ps).weight + all_covering n f bs ≡ t.weight + all_covering n f (all_seen_behind bs (map L ps))
  pub most : (tallied_by L n f t ps).most ≡ t.most
  pub heavy : (tallied_by L n f t ps).heavy ≡ t.heavy

module _ (L : List ℕ → List (List ℕ)) (n : ℕ) (f : Sparse) where
  -- what is kept after the lists at several places is what their vectors in order of first sight make up
  pub seen-by : (bs : List (List ℕ)) (t : Tallied) (ps : List (List ℕ)) → t.exps ≡ map pairs_of bs → t.list ≡ [] → Sized n bs
      → AllByRecursion (Sized n) (map L ps) → IsAllSeenBy L n f bs t ps
  unfolding tallied_by numbers_by
  seen-by bs t [] e z s a = record {
    exps = e;
    lists = λ cs h. refl;
    within = λ cs h. All-nil (λ l. All (λ i. i < length cs) l);
    count = omega arith;
    counted = refl;
    weight = refl;
    most = refl;
    heavy = refl;
  }
  seen-by bs t (p ∷ ps) e z s a =
      let r : IsSeen n f bs t (L p) (see_all n f t (L p)) = all-seen n f bs t (L p) e s a.0 in
      let ih : IsAllSeenBy L n f (seen_behind bs (L p)) (next_list (see_all n f t (L p))) ps =
      seen-by (seen_behind bs (L p)) (next_list (see_all n f t (L p))) ps r.exps refl (each-behind (λ a. length a ≡ n) bs (L p) s a.0) a.1 in
      let list : (see_all n f t (L p)).list ≡ numbers bs (L p) = r.list ∙ ap (λ k. k ++ numbers bs (L p)) z in
      record {
        exps = ih.exps;
        lists = λ cs h.
            let k = extends-trans (seen_behind bs (L p)) (all_seen_behind (seen_behind bs (L p)) (map L ps)) cs
            (extends-all (seen_behind bs (L p)) (map L ps)) h in
            rw (list, at-numbers bs (L p) cs k, ih.lists cs h) refl;
        within = λ cs h.
            let k = extends-trans (seen_behind bs (L p)) (all_seen_behind (seen_behind bs (L p)) (map L ps)) cs
            (extends-all (seen_behind bs (L p)) (map L ps)) h in
            All-cons (λ l. All (λ i. i < length cs) l) (see_all n f t (L p)).list (numbers_by L n f (next_list (see_all n f t (L p))) ps)
            (rw list (numbers-within bs (L p) cs k)) (ih.within cs h);
        count = omega (arith, ih.count, r.count);
        counted = omega (arith, ih.counted, ap length list, numbers-length bs (L p));
        weight = omega (arith, ih.weight, r.weight);
        most = ih.most ∙ r.most;
        heavy = ih.heavy ∙ r.heavy;
      }

  -- over the limits, it stays so
  pub over-by : (t : Tallied) (ps : List (List ℕ)) → IsOver t → IsOver (tallied_by L n f t ps)
  unfolding tallied_by
  over-by t [] h = h
  over-by t (p ∷ ps) h = over-by (next_list (see_all n f t (L p))) ps (over-more n f t (L p) h)
