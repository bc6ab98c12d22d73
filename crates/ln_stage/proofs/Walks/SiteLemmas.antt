-- One site: what needs one of its variables.
use Rattle.std.proofs.Common.{◌≡◌, inr, ℕ, zero, suc, ◌+◌, ◌-◌, ◌<◌, ◌≤◌, Bool, true, false, List, [], ◌∷◌, ◌++◌, length}
use Rattle.std.proofs.Common.{get_or, take, drop, drop-cons, refl, sym, ◌∙◌, ap, subst, arith}
use Rattle.std.proofs.lemmas.List.{drop-append-le, drop_all, length-take, take-append-drop}
use Rattle.ln_algebra.specs.Walk.{Found, Member, before, steps, walk}
use Rattle.ln_poly.specs.Sparse.{Sparse}
use Rattle.ln_stage.specs.declared.stop.StageStop.{StageStop}
use Rattle.ln_stage.specs.Kept.{AreFresh, IsStep, listed_at, listed_behind, listed_from, rows, tail}
use Rattle.ln_stage.specs.Tally.{EndsAs, IsOver, IsStoppedBy, Tallied, see_all}
use Rattle.ln_stage.proofs.Walks.TurnLemmas.{before-assoc, before-end, behind-listed, cut-listed, ends-left, ends-whole, stops-behind}

-- ---- fewer variables
-- without the first i of them, the variables are still below n, and none occurs twice
pub fresh-behind : (n : ℕ) (vs : List ℕ) (i : ℕ) → AreFresh n vs → AreFresh n (drop i vs)
fresh-behind n vs zero h = h
fresh-behind n [] (suc i) h = tt
fresh-behind n (v ∷ vs) (suc i) h = fresh-behind n vs i h.2

member-behind : (vs : List ℕ) (i v : ℕ) → Member (drop i vs) v → Member vs v
member-behind vs zero v m = m
member-behind [] (suc i) v m = m
member-behind (u ∷ vs) (suc i) v m = inr (member-behind vs i v m)

-- a step of the listing is one also with the later variables alone
pub step-behind : (f : Sparse) (vs kept p : List ℕ) (i : ℕ) (r : List ℕ) → r ≡ drop i vs → IsStep f vs kept p → IsStep f r kept p
step-behind f vs kept p i r e s = subst (λ z. IsStep f z kept p) (sym e) (record {
  below = s.below;
  rising = s.rising;
  fresh = fresh-behind (length p) vs i s.fresh;
  inside = s.inside;
  some = s.some;
  covering = s.covering;
  none_yet = λ v m. s.none_yet v (member-behind vs i v m);
  small = s.small;
})

-- ---- more variables of the site
tail-front : (b : ℕ) (front us rest : List ℕ) (ms : List (List ℕ)) (p : List ℕ)
    → (x : Found) × (tail b (front ++ us) rest ms p ≡ before (tail b us rest ms p) x)
tail-front b [] us rest ms p = (([], false), sym (before-end (tail b us rest ms p)))
tail-front b (v ∷ front) us rest ms p =
    let ih = tail-front b front us rest ms p in
    let here : Found = steps (walk (suc b) ((front ++ us) ++ rest)) v ms p b 1 in
    (before ih.0 here, ap (λ z. before z here) ih.1 ∙ before-assoc (tail b us rest ms p) ih.0 here)

-- ---- where the loop is
-- the last k of the first n variables
abbrev pub last_of : ℕ → ℕ → List ℕ → List ℕ
last_of k n vs = drop (n - k) (take n vs)

module _ (f : Sparse) (vs kept p : List ℕ) (n k : ℕ) (within : n ≤ length vs) (more : k < n) where
  size : length (take n vs) ≡ n
  size = omega (arith, length-take n vs, within)

  abbrev v : ℕ
  v = get_or (take n vs) (n - (k + 1)) 0

  last-more : last_of (k + 1) n vs ≡ v ∷ last_of k n vs
  last-more =
      let q : suc (n - (k + 1)) ≡ n - k = omega (arith, more) in
      drop-cons (take n vs) (n - (k + 1)) 0 (omega (arith, size, more)) ∙ ap (λ i. get_or (take n vs) (n - (k + 1)) 0 ∷ drop i (take n vs)) q

  rest-is : drop (n - (k + 1)) vs ≡ v ∷ (last_of k n vs ++ drop n vs)
  rest-is =
      ap (drop (n - (k + 1))) (sym (take-append-drop n vs)) ∙ drop-append-le (n - (k + 1)) (take n vs) (drop n vs) (omega (arith, size, more))
      ∙ ap (λ z. z ++ drop n vs) last-more

  -- what is listed from the exponent 1 of one variable more, after what is listed without it
  module _ {r : List ℕ} (er : r ≡ drop (n - (k + 1)) vs) where
    site-turn : listed_behind f (last_of (k + 1) n vs) (drop n vs) kept p
        ≡ before (listed_behind f (last_of k n vs) (drop n vs) kept p) (listed_at f r kept p 1)
    unfolding listed_behind listed_at listed_from
    site-turn = rw (er, rest-is, last-more) refl

    -- the rest of the site
    site-rest : (x : Found) × (listed_behind f (take n vs) (drop n vs) kept p
        ≡ before (before (listed_behind f (last_of k n vs) (drop n vs) kept p) (listed_at f r kept p 1)) x)
    unfolding listed_behind
    site-rest =
        let g = tail-front 127 (take (n - (k + 1)) (take n vs)) (last_of (k + 1) n vs) (drop n vs) (rows (length p) f kept) p in (
          g.0,
          ap (λ us. tail 127 us (drop n vs) (rows (length p) f kept) p) (sym (take-append-drop (n - (k + 1)) (take n vs))) ∙ g.1
              ∙ ap (λ z. before z g.0) site-turn,
        )

    module _ {u t : Tallied} (i : EndsAs (length p) f u ([], false) t (listed_behind f (last_of k n vs) (drop n vs) kept p)) where
      module _ {v : Tallied} {stop : Bool} (h : EndsAs (length p) f v ([], stop) u (listed_at f r kept p 1)) where
        -- the cut ends the site
        pub site-cut : stop ≡ true → EndsAs (length p) f v ([], true) t (listed_behind f (take n vs) (drop n vs) kept p)
        site-cut c = ends-whole (sym site-rest.1) (cut-listed _ (ends-left (ap (λ b. ([], b)) c) (behind-listed i h)))

        -- or it goes on
        pub site-goes : stop ≡ false → EndsAs (length p) f v ([], false) t (listed_behind f (last_of (k + 1) n vs) (drop n vs) kept p)
        site-goes c = ends-whole (sym site-turn) (ends-left (ap (λ b. ([], b)) c) (behind-listed i h))

      -- where one variable more stops the listing, it is stopped
      pub site-stops : (x : StageStop) → IsStoppedBy x (IsOver (see_all (length p) f u (listed_at f r kept p 1).0))
          → IsStoppedBy x (IsOver (see_all (length p) f t (listed_behind f (take n vs) (drop n vs) kept p).0))
      site-stops x o = rw site-rest.1 (stops-behind _ _ x i o)

-- nothing yet
pub site-first : (f : Sparse) (vs kept p : List ℕ) (n : ℕ) → n ≤ length vs → listed_behind f (last_of 0 n vs) (drop n vs) kept p ≡ ([], false)
unfolding listed_behind
site-first f vs kept p n h =
    let e : last_of 0 n vs ≡ [] = drop_all (n - 0) (take n vs) (omega (arith, length-take n vs, h)) in
    ap (λ us. tail 127 us (drop n vs) (rows (length p) f kept) p) e

-- all of them
pub site-all : (n k : ℕ) (vs : List ℕ) → n ≤ k → last_of k n vs ≡ take n vs
site-all n k vs h = let q : n - k ≡ 0 = omega (arith, h) in ap (λ i. drop i (take n vs)) q
