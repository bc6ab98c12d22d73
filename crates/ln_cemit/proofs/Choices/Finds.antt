-- Proves that the body by prefixes returns what the blocks return along the least indices.
use Rattle.std.proofs.Common.{◌≡◌, inl, inr, ℕ, zero, suc, ◌<◌, Bool, true, false, cond, ◌&&◌, List, [], ◌∷◌, ◌++◌, append-nil, refl, ap, ◌∙◌, arith, eqb}
use Rattle.std.specs.Prelude.{if◌then◌else◌, ℤ, pos, negsuc, int_lt, not}
use Rattle.std.proofs.lemmas.Bool.{cond_both}
use Rattle.std.proofs.lemmas.Bool.Decides.{nat_tests}
use Rattle.ln_algebra.specs.Walk.{Member}
use Rattle.ln_csyn.specs.Meaning.{Counts}
use Rattle.ln_csyn.specs.Tree.{Body}
use Rattle.ln_csyn.specs.Meaning.{Scene, Outcome, Went, Said, Wrong, runs, is_zero, entered, then_on, same_number}
use Rattle.ln_cemit.specs.Choose.{IndexGives, first_of_signs}
use Rattle.ln_cemit.specs.Checked.{ups}
use Rattle.ln_cemit.proofs.Conditions.Names.{name_self}
use Rattle.ln_cemit.specs.Walked.{guarded, picks, says_nothing, tries, walked, without}
use Rattle.ln_cemit.specs.Chosen.{Answers, AreNumbers, CallsAreCounted, decided}

zero_same : (x : ℤ) → same_number x (pos 0) ≡ is_zero x
zero_same (pos zero) = refl
zero_same (pos (suc n)) = grind (arith, nat_tests)
zero_same (negsuc n) = refl

then_went : (o : Outcome) → then_on o (λ j. Went j) ≡ o
then_went (Went k) = refl
then_went (Said z k) = refl
then_went (Wrong l) = refl

-- ---- along the least indices
-- is the index at place i below each of these?
abbrev pub below_all : (ℕ → ℤ) → ℕ → List ℕ → Bool
below_all at i [] = true
below_all at i (j ∷ js) = int_lt (at i) (at j) && below_all at i js

-- the place with the least index
abbrev pub least : (ℕ → ℤ) → ℕ → List ℕ → ℕ
least at i [] = i
least at i (j ∷ js) = if below_all at i (j ∷ js) then i else least at j js

-- the blocks from a prefix on
abbrev pub along_row : (List ℕ → List ℕ) → (ℕ → ℤ) → ℕ → List ℕ → List ℕ → List ℕ
along_row segment at zero p left = segment p
along_row segment at (suc d) p [] = segment p
along_row segment at (suc d) p (i ∷ js) = segment p ++ along_row segment at d (p ++ least at i js ∷ []) (without (least at i js) (i ∷ js))

-- what is in a list without x is in the list
pub in-without : (x : ℕ) (js : List ℕ) (j : ℕ) → Member (without x js) j → Member js j
in-without x [] j m = absurd m
in-without x (y ∷ js) j m = go (not (eqb y x)) m (in-without x js j) where
  go : (b : Bool) → Member (cond b (y ∷ without x js) (without x js)) j → (Member (without x js) j → Member js j) → Member (y ∷ js) j
  go true (inl e) ih = inl e
  go true (inr k) ih = inr (ih k)
  go false k ih = inr (ih k)

-- ---- what blocks return, before something else
abbrev first_then : (ℕ → ℤ) → (ℕ → Counts → Counts) → List ℕ → Counts → (Counts → Outcome) → Outcome
first_then sign after [] k go = go k
first_then sign after (b ∷ bs) k go = if is_zero (sign b) then first_then sign after bs (after b (entered k)) go else Said (sign b) (after b (entered k))

then-more : (sign : ℕ → ℤ) (after : ℕ → Counts → Counts) (bs cs : List ℕ) (k : Counts) (go : Counts → Outcome)
    → ((j : Counts) → go j ≡ first_of_signs sign after cs j) → first_then sign after bs k go ≡ first_of_signs sign after (bs ++ cs) k
then-more sign after [] cs k go h = h k
then-more sign after (b ∷ bs) cs k go h =
    ap (λ (o : Outcome). cond (is_zero (sign b)) o (Said (sign b) (after b (entered k)))) (then-more sign after bs cs (after b (entered k)) go h)

-- what they return ends the body
ended : (sign : ℕ → ℤ) (after : ℕ → Counts → Counts) (bs : List ℕ) (k : Counts) (go : Counts → Outcome)
    → then_on (first_of_signs sign after bs k) go ≡ first_of_signs sign after bs k
ended sign after [] k go = refl
ended sign after (b ∷ bs) k go =
    cond_both (is_zero (sign b)) (first_of_signs sign after bs (after b (entered k))) (Said (sign b) (after b (entered k)))
    (λ (o : Outcome). then_on o go ≡ o) (λ e. ended sign after bs (after b (entered k)) go) (λ e. refl)

module _ (block : ℕ → List ℕ) (own : List ℕ) (s : Scene) (m : ℕ) (at sign : ℕ → ℤ) (after : ℕ → Counts → Counts) (answers : Answers s block m sign after) where
  tries_step : (b : ℕ) (bs : List ℕ) (rest : Body) (k : Counts) (v : Bool) → b < m → is_zero (sign b) ≡ v
      → runs s [] (tries block own bs rest) (after b (entered k)) ≡ first_then sign after bs (after b (entered k)) (λ j. runs s [] rest j)
      → runs s [] (tries block own (b ∷ bs) rest) k ≡ first_then sign after (b ∷ bs) k (λ j. runs s [] rest j)
  tries_step b bs rest k true l e r = let a = answers b l in rw (a.0 (entered k), a.1, name_self own, a.1, zero_same (sign b), e) r
  tries_step b bs rest k false l e r = let a = answers b l in rw (a.0 (entered k), a.1, name_self own, a.1, zero_same (sign b), e) refl

  tries_is : (bs : List ℕ) (rest : Body) (k : Counts) → AreNumbers m bs
      → runs s [] (tries block own bs rest) k ≡ first_then sign after bs k (λ j. runs s [] rest j)
  tries_is [] rest k h = refl
  tries_is (b ∷ bs) rest k h = tries_step b bs rest k (is_zero (sign b)) (h b (inl refl)) refl (tries_is bs rest (after b (entered k)) (λ c i. h c (inr i)))

  -- blocks, and then what returns what further blocks do
  pub tries_then : (bs cs : List ℕ) (rest : Body) (k : Counts) → AreNumbers m bs → ((j : Counts) → runs s [] rest j ≡ first_of_signs sign after cs j)
      → runs s [] (tries block own bs rest) k ≡ first_of_signs sign after (bs ++ cs) k
  tries_then bs cs rest k h r = tries_is bs rest k h ∙ then-more sign after bs cs k (λ j. runs s [] rest j) r

  -- ---- comparisons
  guarded_is : (i : ℕ) (js : List ℕ) (inner : Body) (k : Counts) → IndexGives s i (at i) → ((j : ℕ) → Member js j → IndexGives s j (at j))
      → runs s [] (guarded i js inner) k ≡ (if below_all at i js then runs s [] inner k else Went k)
  guarded_is i [] inner k g h = refl
  guarded_is i (j ∷ js) inner k g h = one (int_lt (at i) (at j)) refl (guarded_is i js inner k g (λ x n. h x (inr n))) where
    one : (v : Bool) → int_lt (at i) (at j) ≡ v → runs s [] (guarded i js inner) k ≡ (if below_all at i js then runs s [] inner k else Went k)
        → runs s [] (guarded i (j ∷ js) inner) k ≡ (if below_all at i (j ∷ js) then runs s [] inner k else Went k)
    one true e r = let f = h j (inl refl) in rw (g.there, g.fits, f.there, f.fits, e, then_went (runs s [] (guarded i js inner) k)) r
    one false e r = let f = h j (inl refl) in rw (g.there, g.fits, f.there, f.fits, e) refl

  module _ (go : ℕ → Body) (list : ℕ → List ℕ) where
    -- the least one's statements are reached
    picks_is : (i : ℕ) (js : List ℕ) (k : Counts) → ((x : ℕ) → Member (i ∷ js) x → IndexGives s x (at x))
        → ((x : ℕ) → Member (i ∷ js) x → (j : Counts) → runs s [] (go x) j ≡ first_of_signs sign after (list x) j)
        → runs s [] (picks go (i ∷ js)) k ≡ first_of_signs sign after (list (least at i js)) k
    picks_is i [] k h r = r i (inl refl) k
    picks_is i (j ∷ js) k h r = one (int_lt (at i) (at j)) refl (below_all at i js) refl
        (guarded_is i js (go i) k (h i (inl refl)) (λ x n. h x (inr (inr n)))) (picks_is j js k (λ x n. h x (inr n)) (λ x n. r x (inr n)))
      where
        one : (v : Bool) → int_lt (at i) (at j) ≡ v → (u : Bool) → below_all at i js ≡ u
            → runs s [] (guarded i js (go i)) k ≡ (if below_all at i js then runs s [] (go i) k else Went k)
            → runs s [] (picks go (j ∷ js)) k ≡ first_of_signs sign after (list (least at j js)) k
            → runs s [] (picks go (i ∷ j ∷ js)) k ≡ first_of_signs sign after (list (least at i (j ∷ js))) k
        one true e true f q t =
            let g = h i (inl refl) in
            let n = h j (inr (inl refl)) in
            rw (g.there, g.fits, n.there, n.fits, e, q, f, r i (inl refl) k, ended sign after (list i) k (λ x. runs s [] (picks go (j ∷ js)) x)) refl
        one true e false f q t =
            let g = h i (inl refl) in
            let n = h j (inr (inl refl)) in
            rw (g.there, g.fits, n.there, n.fits, e, q, f) t
        one false e u f q t =
            let g = h i (inl refl) in
            let n = h j (inr (inl refl)) in
            rw (g.there, g.fits, n.there, n.fits, e) t

  module _ (segment : List ℕ → List ℕ) (numbers : (p : List ℕ) → AreNumbers m (segment p)) where
    -- the body from a prefix on returns what the blocks do
    pub walked_is : (d : ℕ) (p left : List ℕ) (k : Counts) → ((i : ℕ) → Member left i → IndexGives s i (at i))
        → runs s [] (walked block own segment d p left) k ≡ first_of_signs sign after (along_row segment at d p left) k
    walked_is zero p left k h =
        tries_then (segment p) [] says_nothing k (numbers p) (λ j. refl) ∙ ap (λ z. first_of_signs sign after z k) (append-nil (segment p))
    walked_is (suc d) p [] k h =
        tries_then (segment p) [] says_nothing k (numbers p) (λ j. refl) ∙ ap (λ z. first_of_signs sign after z k) (append-nil (segment p))
    walked_is (suc d) p (i ∷ js) k h =
        let ih : (x : ℕ) → Member (i ∷ js) x → (j : Counts) → runs s [] (walked block own segment d (p ++ x ∷ []) (without x (i ∷ js))) j
        ≡ first_of_signs sign after (along_row segment at d (p ++ x ∷ []) (without x (i ∷ js))) j =
        λ x n j. walked_is d (p ++ x ∷ []) (without x (i ∷ js)) j (λ y l. h y (in-without x (i ∷ js) y l)) in
        tries_then (segment p) (along_row segment at d (p ++ least at i js ∷ []) (without (least at i js) (i ∷ js)))
        (picks (λ x. walked block own segment d (p ++ x ∷ []) (without x (i ∷ js))) (i ∷ js)) k (numbers p)
        (λ j. picks_is (λ x. walked block own segment d (p ++ x ∷ []) (without x (i ∷ js)))
        (λ x. along_row segment at d (p ++ x ∷ []) (without x (i ∷ js))) i js j h ih)

-- ---- calls
-- where blocks keep the count of calls, the result is the first sign that isn't 0, and the calls up to it are counted
pub calls-are-counted : CallsAreCounted
calls-are-counted sign after [] k h = (k, refl, refl)
calls-are-counted sign after (b ∷ bs) k h = by_case (is_zero (sign b)) refl (calls-are-counted sign after bs (after b (entered k)) (λ c i. h c (inr i))) where
  ups-next : (n w : ℕ) → ups n (ups 1 w) ≡ ups (suc n) w
  ups-next zero w = refl
  ups-next (suc n) w = ap (ups 1) (ups-next n w)

  by_case : (v : Bool) → is_zero (sign b) ≡ v → (j : Counts) × (first_of_signs sign after bs (after b (entered k)) ≡ Said (decided sign bs).0 j)
      × (j.calls ≡ ups (decided sign bs).1 (after b (entered k)).calls)
      → (j : Counts) × (first_of_signs sign after (b ∷ bs) k ≡ Said (decided sign (b ∷ bs)).0 j) × (j.calls ≡ ups (decided sign (b ∷ bs)).1 k.calls)
  by_case true e r = rw e (r.0, r.1, r.2 ∙ ap (ups (decided sign bs).1) (h b (inl refl) (entered k)) ∙ ups-next (decided sign bs).1 k.calls)
  by_case false e r = rw e (after b (entered k), refl, h b (inl refl) (entered k))
