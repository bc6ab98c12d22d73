-- One operation: from what stack and locals in code do to what every state that they are for does, in a block and in a filter alike.
use Rattle.std.proofs.Common.{◌≡◌, ℕ, ◌<◌, ◌≤◌, suc, Bool, true, false, List, [], ◌∷◌, ◌++◌, length, reverse, get_or, refl, sym, ap, arith, subst, ◌∙◌}
use Rattle.std.specs.Prelude.{◌==◌, nat_le, Option, Some, None, slice_set, replicate}
use Rattle.std.proofs.lemmas.Bool.{eqb-true, leb-true, le-leb}
use Rattle.std.proofs.lemmas.Bool.Decides.{nat_tests}
use Rattle.std.proofs.lemmas.Grind.{get_or-set_at}
use Rattle.std.proofs.lemmas.List.{get_or-set_other, length-reverse, length-set, reverse-append, get_or-replicate, length-replicate}
use Rattle.std.proofs.lemmas.Option.{same_Some}
use Rattle.ln_algebra.specs.Tree.{Tree}
use Rattle.ln_bound.specs.declared.fitted.Two.{Two}
use Rattle.ln_bound.specs.declared.fitted.Two.TheVariants.{Plus, Minus, Times}
use Rattle.ln_bound.specs.declared.fitted.Width.{Width}
use Rattle.ln_code.specs.declared.op.Op.{Op}
use Rattle.ln_code.specs.declared.op.Op.TheVariants.{Add, Get, Mul, Set, Sub}
use Rattle.ln_code.specs.Engine.{Engine, State, next, pushed, step, op_of}
use Rattle.ln_code.specs.Kept.{stores}
use Rattle.ln_code.specs.Numbers.{with_local}
use Rattle.ln_code.proofs.Engines.Follow.{when_some}
use Rattle.ln_due.specs.Small.{IsSmall}
use Rattle.ln_verify.specs.Line.{PushedSmall, fresh}
use Rattle.ln_verify.specs.Values.{Paired, Came, IsLocal, IsMade, IsState, PushedOnto}

module _ {X K : Type 0} (R : X → K → Type 0) where
  -- a stack in code has as many values as the stack that it is for
  pub for-length : (xs : List X) (ks : List K) → Paired R xs ks → length xs ≡ length ks
  for-length [] [] h = refl
  for-length (x ∷ xs) (k ∷ ks) h = ap suc (for-length xs ks h.1)
  for-length xs ks h = absurd h

  -- what a value on top of the stack is for
  pub record OnTop (ys : List X) (x : X) (ks : List K) : Type 0 where
    pub top : K
    pub rest : List K
    pub is : ks ≡ top ∷ rest
    pub for_it : R x top
    pub below : Paired R (reverse ys) rest

  -- a value on top of a stack in code is for the top of the stack that this one is for, and the values below are for those below
  pub popped : (xs ys : List X) (x : X) (ks : List K) → xs ≡ ys ++ x ∷ [] → Paired R (reverse xs) ks → OnTop ys x ks
  popped xs ys x ks e h = go ks (subst (λ (z : List X). Paired R z ks) (ap reverse e ∙ reverse-append ys (x ∷ [])) h)
    where
      go : (ks : List K) → Paired R (x ∷ reverse ys) ks → OnTop ys x ks
      go [] h = absurd h
      go (k ∷ rest) h = record { top = k; rest = rest; is = refl; for_it = h.0; below = h.1 }

  -- where a local in code has a value, something is known of the local, and the value is for that
  pub local-there : (o : Option X) (x : X) (r : Option K) → o ≡ Some x → IsLocal R o r → (k : K) × (r ≡ Some k) × R x k
  local-there None x r e h = cc
  local-there (Some y) x None e h = absurd h
  local-there (Some y) x (Some k) e h = (k, refl, subst (λ (z : X). R z k) (same_Some y x e) h)

  -- where a local in code has no value, nothing is known of the local
  local-lacks : (o : Option X) (r : Option K) → o ≡ None → IsLocal R o r → r ≡ None
  local-lacks o None e h = refl
  local-lacks None (Some k) e h = absurd h
  local-lacks (Some x) (Some k) e h = cc

  -- where a value is put into a local in code, and what it is for into that of the state, each local is still for what is known of it
  pub local-set : (ls : List (Option X)) (l : ℕ → Option K) (j i : ℕ) (x : X) (k : K) (q : Bool) → (i == j) ≡ q → j < length ls → R x k
      → IsLocal R (get_or ls i None) (l i) → IsLocal R (get_or (slice_set ls j (Some x)) i None) (with_local l j k i)
  local-set ls l j i x k true e b f h =
      let s : get_or (slice_set ls j (Some x)) i None ≡ Some x = get_or-set_at ls j i (Some x) None (eqb-true i j e) b in
      subst (λ (o : Option X). IsLocal R o (with_local l j k i)) (sym s) (rw e f)
  local-set ls l j i x k false e b f h =
      let s : get_or (slice_set ls j (Some x)) i None ≡ get_or ls i None = get_or-set_other ls j i (Some x) None (λ h. grind (arith, nat_tests)) in
      subst (λ (o : Option X). IsLocal R o (with_local l j k i)) (sym s) (rw e h)

module _ {B X K : Type 0} (R : X → K → Type 0) (tree : K → Tree) (n : ℕ) (e : Engine B K (ℕ → Option K)) (room : (m : ℕ) → e.room m ≡ nat_le m 2048) where
  -- the result of a push
  abbrev Goes : (ℕ → Option K) → List K → Option K → Option (State K (ℕ → Option K))
  Goes l ks r = next r (pushed e l ks)

  -- nothing small leads on
  nothing : (l : ℕ → Option K) (ks : List K) (k : K) (t : State K (ℕ → Option K)) → (IsSmall n (tree k) → ⊥) → Goes l ks (Some k) ≡ Some t
      → PushedSmall tree n false t.stack → ⊥
  nothing l ks k t none q h = let w = (when_some _ _ _ q).1 in none (subst (λ (z : State K (ℕ → Option K)). PushedSmall tree n false z.stack) (sym w) h)

  -- there is no room
  full : (l : ℕ → Option K) (xs : List X) (ks : List K) (k : K) (t : State K (ℕ → Option K)) → 2048 ≤ length xs → Paired R (reverse xs) ks
      → Goes l ks (Some k) ≡ Some t → ⊥
  full l xs ks k t h f q =
      let w : nat_le (suc (length ks)) 2048 ≡ true = sym (room (suc (length ks))) ∙ (when_some _ _ _ q).0 in
      let a : suc (length ks) ≤ 2048 = leb-true _ _ w in
      omega (arith, a, h, for-length R (reverse xs) ks f, length-reverse xs)

  -- there is
  there-is : (l : ℕ → Option K) (xs : List X) (ks : List K) (k : K) → length xs < 2048 → Paired R (reverse xs) ks
      → Goes l ks (Some k) ≡ Some (record { stack = k ∷ ks; locals = l })
  there-is l xs ks k h f =
      let a : nat_le (suc (length ks)) 2048 ≡ true = le-leb _ _ (omega (arith, h, for-length R (reverse xs) ks f, length-reverse xs)) in
      let b : e.room (suc (length ks)) ≡ true = room (suc (length ks)) ∙ a in
      rw b refl

  module _ (s : State K (ℕ → Option K)) (op : Op) (b : B) (t : stores op ≡ false) (ks : List K) (mid : List X) (f : Paired R (reverse mid) ks)
      (ls : List (Option X)) (size : length ls ≡ 256) (locals : (j : ℕ) → j < 256 → IsLocal R (get_or ls j None) (s.locals j)) where
    -- what is made is pushed
    pub pushed-came : (o : Option X) (r : Option K) (xs : List X) (ok : Bool) → step e op b s.locals s.stack ≡ Goes s.locals ks r
        → IsMade R tree n o r → PushedOnto o mid ok xs → Came R tree n e s op b ok xs ls
    pushed-came None None xs false g m h = λ u q. let z : None ≡ Some u = sym g ∙ q.0 in cc
    pushed-came None (Some k) xs false g m h = λ u q. nothing s.locals ks k u m (sym g ∙ q.0) (subst (λ (z : Bool). PushedSmall tree n z u.stack) t q.1)
    pushed-came None r xs true g m h = absurd h
    pushed-came (Some x) None xs ok g m h = absurd m
    pushed-came (Some x) (Some k) xs true g m h = (
      record { stack = k ∷ ks; locals = s.locals },
      (g ∙ there-is s.locals mid ks k h.0 f, subst (λ (z : Bool). PushedSmall tree n z (k ∷ ks)) (sym t) m.1),
      record {
        stack = subst (λ (z : List X). Paired R z (k ∷ ks)) (sym (ap reverse h.1 ∙ reverse-append mid (x ∷ []))) (m.0, f);
        size = size;
        locals = locals;
      },
    )
    pushed-came (Some x) (Some k) xs false g m h = λ u q. full s.locals mid ks k u h f (sym g ∙ q.0)

  -- ---- the steps of operations on a known stack
  -- a sum, a difference or a product takes the two top values off the stack and pushes its result
  pub two-step : (t : Two) (w : Width) (b : B) (l : ℕ → Option K) (xs rest more : List K) (k j : K) → xs ≡ k ∷ rest → rest ≡ j ∷ more
      → step e (op_of t w) b l xs ≡ Goes l more (e.two t w b j k)
  two-step Plus w b l xs rest more k j q r = ap (λ (z : List K). step e (Add w) b l z) (q ∙ ap (λ (z : List K). k ∷ z) r)
  two-step Minus w b l xs rest more k j q r = ap (λ (z : List K). step e (Sub w) b l z) (q ∙ ap (λ (z : List K). k ∷ z) r)
  two-step Times w b l xs rest more k j q r = ap (λ (z : List K). step e (Mul w) b l z) (q ∙ ap (λ (z : List K). k ∷ z) r)

  -- a sum, a difference or a product stores into no local
  pub op-pushes : (t : Two) (w : Width) → stores (op_of t w) ≡ false
  op-pushes Plus w = refl
  op-pushes Minus w = refl
  op-pushes Times w = refl

  -- ---- locals
  module _ (got : (l : ℕ → Option K) (j : ℕ) → e.got l j ≡ l j) (put : (l : ℕ → Option K) (j : ℕ) (k : K) → e.put l j k ≡ with_local l j k) where
    -- reading a local that has a value pushes what the rules make of that value
    pub get-step : (j : ℕ) (b : B) (l : ℕ → Option K) (xs : List K) (k : K) → l j ≡ Some k → step e (Get j) b l xs ≡ Goes l xs (e.again k b)
    get-step j b l xs k q = ap (λ (o : Option K). next (next o (λ x. e.again x b)) (pushed e l xs)) (got l j ∙ q)

    -- reading a local that has no value leads nowhere
    pub get-lacks : (j : ℕ) (b : B) (l : ℕ → Option K) (xs : List K) (o : Option X) (t : State K (ℕ → Option K)) → o ≡ None → IsLocal R o (l j)
        → step e (Get j) b l xs ≡ Some t → ⊥
    get-lacks j b l xs o t h i q =
        let w = local-lacks R o (l j) h i in
        let z : None ≡ Some t = sym (ap (λ (r : Option K). next (next r (λ x. e.again x b)) (pushed e l xs)) (got l j ∙ w)) ∙ q in cc

    -- writing a local takes the top value off the stack and puts it into the local
    pub set-came : (s : State K (ℕ → Option K)) (old mid : List X) (before ls : List (Option X)) (j : ℕ) (b : B) (x : X) → old ≡ mid ++ x ∷ []
        → ls ≡ slice_set before j (Some x) → j < length before → IsState R old before s → Came R tree n e s (Set j) b true mid ls
    set-came s old mid before ls j b x q l k i =
        let o = popped R old mid x s.stack q i.stack in (
          record { stack = o.rest; locals = with_local s.locals j o.top },
          (
            ap (λ (z : List K). step e (Set j) b s.locals z) o.is
                ∙ ap (λ (m : ℕ → Option K). Some (record { stack = o.rest; locals = m })) (put s.locals j o.top),
            tt,
          ),
          record {
            stack = o.below;
            size = ap length l ∙ length-set before j (Some x) ∙ i.size;
            locals = λ y w. subst (λ (z : List (Option X)). IsLocal R (get_or z y None) (with_local s.locals j o.top y)) (sym l)
                (local-set R before s.locals j y x o.top (y == j) refl k o.for_it (i.locals y w));
          },
        )

-- an empty stack, with 256 locals that aren't set, is for the state before the first line
pub empty-state : {X K : Type 0} (R : X → K → Type 0) (xs : List X) (ls : List (Option X)) → xs ≡ [] → ls ≡ replicate 256 None → IsState R xs ls fresh
empty-state {X} R xs ls e l = record {
  stack = rw e tt;
  size = ap length l ∙ length-replicate {A = Option X} 256 None;
  locals = λ j k. subst (λ (o : Option X). IsLocal R o None) (sym (ap (λ zs. get_or zs j None) l ∙ get_or-replicate 256 j None None k)) tt;
}
