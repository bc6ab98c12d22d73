-- The body of the function with two parameters keeps the conditions of the subset: statements that call, compare and return.
use Rattle.std.proofs.Common.{◌≡◌, inl, inr, ℕ, zero, suc, ◌+◌, ◌*◌, ◌<◌, ◌≤◌, not, Bool, true, false, List, [], ◌∷◌, ◌++◌, length, refl, arith, eqb}
use Rattle.std.specs.List.{range_with_len}
use Rattle.std.proofs.lemmas.Bool.{and_from, cond_both, le-leb}
use Rattle.ln_algebra.specs.Walk.{Member}
use Rattle.ln_csyn.specs.Tree as c
use Rattle.ln_csyn.specs.Tree.{Body}
use Rattle.ln_csyn.specs.Words.{is_c_name, most_number}
use Rattle.ln_cemit.specs.Chosen.{AreNumbers}
use Rattle.ln_cemit.specs.Emit.{touching_index}
use Rattle.ln_cemit.specs.Walked.{attempt, body_for, guarded, less, picks, says_nothing, tries, walked, without}
use Rattle.ln_cemit.proofs.Choices.Finds.{in-without}
use Rattle.ln_cemit.proofs.Conditions.Numbered.{IsNumbered, back, decl, group, none, when}

-- this many more
abbrev raised : ℕ → ℕ → ℕ
raised zero n = n
raised (suc k) n = suc (raised k n)

-- how many braces are allowed for d remaining sites, of at most 5
abbrev pub room_for : ℕ → ℕ
room_for zero = 2
room_for (suc d) = raised 5 (room_for d)

-- for any number of remaining sites at least 2 braces are allowed
pub above_one : (d : ℕ) → (k : ℕ) × (room_for d ≡ suc (suc k))
above_one zero = (0, refl)
above_one (suc d) = (raised 3 (room_for d), refl)

-- 2 braces, and 5 more for each site, are allowed
pub room_few : (d : ℕ) → room_for d ≤ 2 + 5 * d
room_few zero = omega arith
room_few (suc d) = let h : suc (suc (suc (suc (suc (room_for d))))) ≤ 2 + 5 * suc d = omega (arith, room_few d) in h

module _ (own : List ℕ) (spelt : is_c_name own ≡ true) where
  -- statements with at most n braces round a place, in which nothing is declared but in braces of its own
  abbrev pub Steps : ℕ → Body → Type 0
  Steps n b = IsNumbered (λ i. own) 1 true 0 n b

  more : {i n : ℕ} {b : Body} → IsNumbered (λ i. own) 1 true i n b → IsNumbered (λ i. own) 1 true i (suc n) b
  more none = none
  more (back f) = back f
  more (decl l f s) = decl l f (more s)
  more (group s t) = group (more s) (more t)
  more (when f s t) = when f (more s) (more t)

  upto : (k n : ℕ) (b : Body) → Steps n b → Steps (raised k n) b
  upto zero n b s = s
  upto (suc k) n b s = more (upto k n b s)

  attempt_stands : (n : ℕ) (x : List ℕ) → is_c_name x ≡ true → Steps (suc n) (attempt own x)
  attempt_stands n x w =
      decl {n = 0} (omega arith) (and_from _ _ w refl) (when {i = 1} (and_from _ _ (and_from _ _ spelt refl) refl) (back (and_from _ _ spelt refl)) none)

  compare : (n i j : ℕ) (a b : Body) → i ≤ most_number → j ≤ most_number → Steps n a → Steps (suc n) b → Steps (suc n) (c.If 2 (less i j) a b)
  compare n i j a b p q s t = when (and_from _ _ (and_from _ _ (le-leb i most_number p) (le-leb j most_number q)) refl) s t

  module _ (block : ℕ → List ℕ) (m : ℕ) (named : (b : ℕ) → b < m → is_c_name (block b) ≡ true) where
    tries_steps : (n k : ℕ) (bs : List ℕ) (rest : Body) → n ≡ suc (suc k) → AreNumbers m bs → Steps n rest → Steps n (tries block own bs rest)
    tries_steps n k [] rest e h s = s
    tries_steps n k (b ∷ bs) rest e h s =
        let r : Steps (suc (suc k)) (tries block own bs rest) = rw (← e) (tries_steps n k bs rest e (λ x i. h x (inr i)) s) in
        rw e (group (attempt_stands k (block b) (named b (h b (inl refl)))) r)

    abbrev Few : List ℕ → Type 0
    Few js = (j : ℕ) → Member js j → j ≤ most_number

    guarded_steps : (n i : ℕ) (js : List ℕ) (inner : Body) → i ≤ most_number → Few js → Steps n inner
        → Steps (raised (length js) n) (guarded i js inner)
    guarded_steps n i [] inner p q s = s
    guarded_steps n i (j ∷ js) inner p q s = compare (raised (length js) n) i j (guarded i js inner) c.End p (q j (inl refl))
        (guarded_steps n i js inner p (λ x l. q x (inr l)) s) none

    picks_steps : (n : ℕ) (go : ℕ → Body) (left : List ℕ) → length left ≤ 5 → Few left → ((i : ℕ) → Member left i → Steps n (go i))
        → Steps (raised 5 n) (picks go left)
    picks_steps n go [] few small h = back refl
    picks_steps n go (i ∷ []) few small h = upto 5 n (go i) (h i (inl refl))
    picks_steps n go (i ∷ j ∷ js) few small h =
        let inner = guarded_steps n i js (go i) (small i (inl refl)) (λ x l. small x (inr (inr l))) (h i (inl refl)) in
        let most : Steps (raised 4 n) (guarded i js (go i)) = within (length js) (guarded i js (go i)) (omega (arith, few)) inner in
        compare (raised 4 n) i j (guarded i js (go i)) (picks go (j ∷ js)) (small i (inl refl)) (small j (inr (inl refl))) most
        (picks_steps n go (j ∷ js) (omega (arith, few)) (λ x l. small x (inr l)) (λ x l. h x (inr l)))
      where
        within : (k : ℕ) (b : Body) → k ≤ 3 → Steps (raised k n) b → Steps (raised 4 n) b
        within zero b l s = upto 4 n b s
        within (suc zero) b l s = upto 3 (suc n) b s
        within (suc (suc zero)) b l s = upto 2 (suc (suc n)) b s
        within (suc (suc (suc zero))) b l s = upto 1 (suc (suc (suc n))) b s
        within (suc (suc (suc (suc k)))) b l s = absurd (omega (arith, l))

    fewer : (x : ℕ) (js : List ℕ) → length (without x js) ≤ length js
    fewer x [] = omega arith
    fewer x (y ∷ js) = cond_both (not (eqb y x)) (y ∷ without x js) (without x js) (λ (zs : List ℕ). length zs ≤ suc (length js))
        (λ e. omega (arith, fewer x js)) (λ e. omega (arith, fewer x js))

    module _ (segment : List ℕ → List ℕ) (numbers : (p : List ℕ) → AreNumbers m (segment p)) where
      walked_steps : (d : ℕ) (p left : List ℕ) → length left ≤ 5 → Few left → Steps (room_for d) (walked block own segment d p left)
      walked_steps zero p left few small = tries_steps 2 0 (segment p) says_nothing refl (numbers p) (back refl)
      walked_steps (suc d) p left few small =
          let r = above_one (suc d) in
          tries_steps (room_for (suc d)) r.0 (segment p) (picks (λ i. walked block own segment d (p ++ i ∷ []) (without i left)) left) r.1 (numbers p)
          (picks_steps (room_for d) (λ i. walked block own segment d (p ++ i ∷ []) (without i left)) left few small
          (λ i l. walked_steps d (p ++ i ∷ []) (without i left) (omega (arith, few, fewer i left)) (λ j k. small j (in-without i left j k))))

      -- the whole body consists of such statements, with at most as many braces as k sites allow
      pub body_steps : (before : List ℕ) (k : ℕ) → AreNumbers m before → length (range_with_len 0 k) ≤ 5 → Few (range_with_len 0 k)
          → Steps (room_for k) (body_for block own segment before k)
      body_steps before k h few small =
          let r = above_one k in
          tries_steps (room_for k) r.0 before (walked block own segment k [] (range_with_len 0 k)) r.1 h (walked_steps k [] (range_with_len 0 k) few small)

  -- the statements stay such statements where one that names the indices, and is never reached, is put before them
  pub touch_steps : (n : ℕ) (t : Bool) (b : Body) → Steps (suc n) b → Steps (suc n) (touching_index t b)
  touch_steps n true b s = s
  touch_steps n false b s = when {i = 0} refl (back refl) s
