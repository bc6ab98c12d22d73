-- Numbers of blocks, and the blocks with one more.
use Rattle.std.proofs.Common.{◌≡◌, ℕ, suc, ◌+◌, ◌<◌, ◌≤◌, Bool, true, false, cond, not, eqb, eq-eqb, List, [], ◌∷◌, length, map, Some, None}
use Rattle.std.proofs.Common.{refl, ap, arith, if◌then◌else◌}
use Rattle.std.specs.Prelude.{position, nat_lt, ◌==◌}
use Rattle.std.proofs.lemmas.Bool.Decides.{nat_tests}
use Rattle.indexmap.specs.IndexMap.{insert_entry}
use Rattle.ln_tree.specs.Exps.{Pairs, same_pairs}
use Rattle.ln_stage.specs.Tally.{Tallied, number_in, put_exps}

-- ---- numbers
-- exponents that are the first of a list have the number 0 there, and any others have one more than in the rest of the list
pub number-more : (b : Pairs) (bs : List Pairs) (a : Pairs) (t : Bool) → same_pairs a b ≡ t → number_in (b ∷ bs) a ≡ cond (not t) (1 + number_in bs a) 0
number-more b bs a t e = ap (λ z. cond (not z) (1 + number_in bs a) 0) e

-- blocks with one that is there stay
put-known : (bs : List Pairs) (a : Pairs) → number_in bs a < length bs → put_exps bs a ≡ bs
put-known [] a h = absurd (omega arith)
put-known (b ∷ bs) a h = go (same_pairs a b) refl (put-known bs a) where
  go : (t : Bool) → same_pairs a b ≡ t → (number_in bs a < length bs → put_exps bs a ≡ bs) → (if t then b ∷ bs else b ∷ put_exps bs a) ≡ b ∷ bs
  go true e ih = refl
  go false e ih = ap (λ z. b ∷ z) (ih (omega (arith, h, number-more b bs a false e)))

-- a new one has the next number
pub number-within : (bs : List Pairs) (a : Pairs) → number_in bs a ≤ length bs
number-within [] a = omega arith
number-within (b ∷ bs) a = go (same_pairs a b) refl (number-within bs a) where
  go : (t : Bool) → same_pairs a b ≡ t → number_in bs a ≤ length bs → number_in (b ∷ bs) a ≤ suc (length bs)
  go true e ih = omega (arith, number-more b bs a true e)
  go false e ih = omega (arith, ih, number-more b bs a false e)

position-some : (bs : List Pairs) (a : Pairs) (i : ℕ) → position (same_pairs a) bs ≡ Some i → (number_in bs a ≡ i) × (number_in bs a < length bs)
position-some bs a i e = go (nat_lt (number_in bs a) (length bs)) refl e where
  go : (t : Bool) → nat_lt (number_in bs a) (length bs) ≡ t → cond t (Some (number_in bs a)) None ≡ Some i → (number_in bs a ≡ i) × (number_in bs a < length bs)
  go true q h = ((cc), grind (arith, nat_tests))
  go false q h = cc

-- a place that is taken up or not is at most one
pub at-most-one : (b : Bool) → (if b then 0 else 1) ≤ 1
at-most-one true = omega arith
at-most-one false = omega arith

-- exponents that are not found get the next number
pub position-none : (bs : List Pairs) (a : Pairs) → position (same_pairs a) bs ≡ None → number_in bs a ≡ length bs
position-none bs a e = go (nat_lt (number_in bs a) (length bs)) refl e where
  go : (t : Bool) → nat_lt (number_in bs a) (length bs) ≡ t → cond t (Some (number_in bs a)) None ≡ None → number_in bs a ≡ length bs
  go true q h = cc
  go false q h = let l = number-within bs a in grind (arith, nat_tests, l)

-- inserting exponents into a map appends them to its keys, unless they are there already
pub keys-insert : (es : List (Pairs × Unit {0})) (a : Pairs) (v : Unit {0}) → map (λ e. e.0) (insert_entry same_pairs es a v) ≡ put_exps (map (λ e. e.0) es) a
keys-insert [] a v = refl
keys-insert (e ∷ es) a v = go (same_pairs a e.0) (keys-insert es a v) where
  go : (t : Bool) → map (λ x. x.0) (insert_entry same_pairs es a v) ≡ put_exps (map (λ x. x.0) es) a
      → map (λ x. x.0) (if t then (e.0, v) ∷ es else e ∷ insert_entry same_pairs es a v)
      ≡ (if t then e.0 ∷ map (λ x. x.0) es else e.0 ∷ put_exps (map (λ x. x.0) es) a)
  go true ih = refl
  go false ih = ap (λ z. e.0 ∷ z) ih

eqb-less : (i n : ℕ) → i < n → eqb i n ≡ false
eqb-less i n h = grind (arith, nat_tests)

-- ---- the tally with one block more
-- what is kept where these exponents are numbered
abbrev pub numbered : ℕ → Tallied → Pairs → Tallied
numbered cover t a = record {
  exps = put_exps t.exps a;
  list = t.list;
  count = t.count;
  weight = if number_in t.exps a == length t.exps then t.weight + cover else t.weight;
  most = t.most;
  heavy = t.heavy;
}

-- numbering exponents that have a number changes nothing
pub numbered-known : (u t : Tallied) (cover : ℕ) (a : Pairs) (i : ℕ) → u ≡ t → position (same_pairs a) u.exps ≡ Some i → t ≡ numbered cover t a
numbered-known u t cover a i e h =
    let p : position (same_pairs a) t.exps ≡ Some i = rw e at h in
    let q = position-some t.exps a i p in
    rw (put-known t.exps a q.1, eqb-less (number_in t.exps a) (length t.exps) q.1) refl

-- numbering new exponents appends them and adds their weight
pub numbered-new : (u t : Tallied) (cover : ℕ) (a : Pairs) (exps : List Pairs) → u ≡ t → exps ≡ put_exps u.exps a → position (same_pairs a) u.exps ≡ None
    → record { exps = exps; list = u.list; count = u.count; weight = u.weight + cover; most = u.most; heavy = u.heavy } ≡ numbered cover t a
numbered-new u t cover a exps e k h =
    let n : number_in u.exps a ≡ length u.exps = position-none u.exps a h in
    rw (← e, k, eq-eqb (number_in u.exps a) (length u.exps) n) refl

-- where the weight with new exponents exceeds its limit, so does the weight after they are numbered
pub over-new : (u t : Tallied) (cover : ℕ) (a : Pairs) → u ≡ t → position (same_pairs a) u.exps ≡ None → u.heavy < u.weight + cover
    → t.heavy < (if number_in t.exps a == length t.exps then t.weight + cover else t.weight)
over-new u t cover a e h l =
    let n : number_in u.exps a ≡ length u.exps = position-none u.exps a h in
    rw (← e, eq-eqb (number_in u.exps a) (length u.exps) n) l
