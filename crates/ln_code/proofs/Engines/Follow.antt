-- Where one engine has a result, an engine that follows it has one too.
use Rattle.std.proofs.Common.{◌≡◌, ℕ, ℤ, Bool, true, false, List, [], ◌∷◌, length, refl, suc, ap}
use Rattle.std.specs.Prelude.{Option, Some, None, if◌then◌else◌, ◌==◌}
use Rattle.ln_code.specs.Numbers.{with_local}
use Rattle.ln_code.specs.declared.op.Op.{Op}
use Rattle.ln_code.specs.declared.op.Op.TheVariants.{Push, Input, Get, Set, Add, Sub, Mul, Neg, Cut}
use Rattle.ln_bound.specs.declared.fitted.Width.{Width}
use Rattle.ln_bound.specs.declared.fitted.Two.{Two}
use Rattle.ln_bound.specs.declared.fitted.Two.TheVariants.{Plus, Minus, Times}
use Rattle.ln_code.specs.Engine.{Engine, State, Line, when, next, pushed, with_one, with_two, stored, step, run}

-- o has a value that stands for v
abbrev pub Reaches : {V W : Type 0} → (V → W → Type 0) → V → Option W → Type 0
Reaches R v o = Sigma_of R v o
  where
    Sigma_of : {V W : Type 0} → (V → W → Type 0) → V → Option W → Type 0
    Sigma_of R v None = ⊥
    Sigma_of R v (Some w) = R v w

-- what is in a local of the first is in that of the second as something that stands for it
abbrev pub LocalsStand : {V M : Type 0} → (V → M → Type 0) → (ℕ → Option V) → (ℕ → M) → Type 0
LocalsStand {V = V} R l m = (j : ℕ) (v : V) → l j ≡ Some v → R v (m j)

-- so is what is put into a local of both
pub local_stands : {V M : Type 0} (R : V → M → Type 0) (l : ℕ → Option V) (m : ℕ → M) (j : ℕ) (v : V) (z : M) → LocalsStand R l m → R v z
    → LocalsStand R (with_local l j v) (λ k. if k == j then z else m k)
local_stands R l m j v z h f i k = by_case (i == j)
  where
    by_case : (b : Bool) → (if b then Some v else l i) ≡ Some k → R k (if b then z else m i)
    by_case true q = let r : v ≡ k = cc in rw (← r) f
    by_case false q = h i k q

-- the values of two stacks stand for each other, one by one
abbrev pub Stacked : {V W : Type 0} → (V → W → Type 0) → List V → List W → Type 0
Stacked R [] [] = Unit {0}
Stacked R [] (y ∷ ys) = ⊥
Stacked R (x ∷ xs) [] = ⊥
Stacked R (x ∷ xs) (y ∷ ys) = R x y × Stacked R xs ys

-- two states stand for each other, in their stacks and in their locals
pub record Agree {V L W M : Type 0} (R : V → W → Type 0) (K : L → M → Type 0) (s : State V L) (t : State W M) : Type 0 where
  pub stack : Stacked R s.stack t.stack
  pub locals : K s.locals t.locals

-- f follows e: where e has a result, f has one that stands for it
pub record Follows {A V L B W M : Type 0} (e : Engine A V L) (f : Engine B W M) (as_bound : A → B) (R : V → W → Type 0) (K : L → M → Type 0) : Type 0 where
  pub push : (c : ℤ) (a : A) (v : V) → e.push c a ≡ Some v → Reaches R v (f.push c (as_bound a))
  pub input : (i : ℕ) (a : A) (v : V) → e.input i a ≡ Some v → Reaches R v (f.input i (as_bound a))
  pub again : (x : V) (y : W) (a : A) (v : V) → R x y → e.again x a ≡ Some v → Reaches R v (f.again y (as_bound a))
  pub two : (t : Two) (w : Width) (a : A) (x x' : V) (y y' : W) (v : V) → R x y → R x' y' → e.two t w a x x' ≡ Some v
      → Reaches R v (f.two t w (as_bound a) y y')
  pub minus : (w : Width) (a : A) (x : V) (y : W) (v : V) → R x y → e.minus w a x ≡ Some v → Reaches R v (f.minus w (as_bound a) y)
  pub cut : (n : ℕ) (a : A) (x : V) (y : W) (v : V) → R x y → e.cut n a x ≡ Some v → Reaches R v (f.cut n (as_bound a) y)
  pub got : (l : L) (m : M) (j : ℕ) (v : V) → K l m → e.got l j ≡ Some v → Reaches R v (f.got m j)
  pub put : (l : L) (m : M) (j : ℕ) (x : V) (y : W) → K l m → R x y → K (e.put l j x) (f.put m j y)
  pub room : (n : ℕ) → e.room n ≡ true → f.room n ≡ true

-- where `when` has a result, its test holds and the result is its value
pub when_some : {A : Type 0} (b : Bool) (a c : A) → when b a ≡ Some c → (b ≡ true) × (a ≡ c)
when_some true a c h = (refl, cc)
when_some false a c h = cc

same_length : {V W : Type 0} (R : V → W → Type 0) (xs : List V) (ys : List W) → Stacked R xs ys → length xs ≡ length ys
same_length R [] [] s = refl
same_length R [] (y ∷ ys) s = absurd s
same_length R (x ∷ xs) [] s = absurd s
same_length R (x ∷ xs) (y ∷ ys) s = ap suc (same_length R xs ys s.1)

-- the same lines with other bounds
abbrev pub relined : {A B : Type 0} → (A → B) → List (Line A) → List (Line B)
relined g [] = []
relined g (x ∷ xs) = record { op = x.op; bound = g x.bound } ∷ relined g xs

-- what is done with two results that stand for each other
next_reaches : {S T U V : Type 0} (R : S → T → Type 0) (Q : U → V → Type 0) (o : Option S) (p : Option T) (g : S → Option U) (k : T → Option V) (u : U) →
    ((s : S) → o ≡ Some s → Reaches R s p) → ((s : S) (t : T) → R s t → g s ≡ Some u → Reaches Q u (k t)) → next o g ≡ Some u → Reaches Q u (next p k)
next_reaches R Q None p g k u a b q = cc
next_reaches R Q (Some s) None g k u a b q = absurd (a s refl)
next_reaches R Q (Some s) (Some t) g k u a b q = b s t (a s refl) q

-- ---- an engine f that follows e
module _ {A V L B W M : Type 0} (e : Engine A V L) (f : Engine B W M) (as_bound : A → B) (R : V → W → Type 0) (K : L → M → Type 0)
    (h : Follows e f as_bound R K) where
  -- a value is pushed
  pushed_follows : (l : L) (m : M) (xs : List V) (ys : List W) (o : Option V) (p : Option W) (t : State V L) → K l m → Stacked R xs ys
      → ((v : V) → o ≡ Some v → Reaches R v p) → next o (pushed e l xs) ≡ Some t → Reaches (Agree R K) t (next p (pushed f m ys))
  pushed_follows l m xs ys None p t k s g q = cc
  pushed_follows l m xs ys (Some v) None t k s g q = absurd (g v refl)
  pushed_follows l m xs ys (Some v) (Some w) t k s g q =
      let r = when_some _ _ _ q in
      let n : f.room (suc (length ys)) ≡ true = rw (← same_length R xs ys s) (h.room (suc (length xs)) r.0) in
      rw (n, ← r.1) (record { stack = (g v refl, s); locals = k })

  -- an operation on one value
  with_one_follows : (u : V → Option V) (z : W → Option W) (l : L) (m : M) (xs : List V) (ys : List W) (t : State V L)
      → ((x : V) (y : W) (v : V) → R x y → u x ≡ Some v → Reaches R v (z y)) → K l m → Stacked R xs ys → with_one e u l xs ≡ Some t
      → Reaches (Agree R K) t (with_one f z m ys)
  with_one_follows u z l m [] ys t g k s q = cc
  with_one_follows u z l m (x ∷ xs) [] t g k s q = absurd s
  with_one_follows u z l m (x ∷ xs) (y ∷ ys) t g k s q = pushed_follows l m xs ys (u x) (z y) t k s.1 (λ v r. g x y v s.0 r) q

  -- an operation on two
  with_two_follows : (u : V → V → Option V) (z : W → W → Option W) (l : L) (m : M) (xs : List V) (ys : List W) (t : State V L)
      → ((x x' : V) (y y' : W) (v : V) → R x y → R x' y' → u x x' ≡ Some v → Reaches R v (z y y')) → K l m → Stacked R xs ys
      → with_two e u l xs ≡ Some t → Reaches (Agree R K) t (with_two f z m ys)
  with_two_follows u z l m [] ys t g k s q = cc
  with_two_follows u z l m (x ∷ []) ys t g k s q = cc
  with_two_follows u z l m (x ∷ (x' ∷ xs)) [] t g k s q = absurd s
  with_two_follows u z l m (x ∷ (x' ∷ xs)) (y ∷ []) t g k s q = absurd s.1
  with_two_follows u z l m (x ∷ (x' ∷ xs)) (y ∷ (y' ∷ ys)) t g k s q =
      pushed_follows l m xs ys (u x' x) (z y' y) t k s.1.1 (λ v r. g x' x y' y v s.1.0 s.0 r) q

  -- a value is taken off into a local
  stored_follows : (j : ℕ) (l : L) (m : M) (xs : List V) (ys : List W) (t : State V L) → K l m → Stacked R xs ys → stored e j l xs ≡ Some t
      → Reaches (Agree R K) t (stored f j m ys)
  stored_follows j l m [] ys t k s q = cc
  stored_follows j l m (x ∷ xs) [] t k s q = absurd s
  stored_follows j l m (x ∷ xs) (y ∷ ys) t k s q =
      let r : record { stack = xs; locals = e.put l j x } ≡ t = cc in
      rw (← r) (record { stack = s.1; locals = h.put l m j x y k s.0 })

  -- a local's value is used again
  got_follows : (a : A) (o : Option V) (p : Option W) (v : V) → ((x : V) → o ≡ Some x → Reaches R x p)
      → next o (λ x. e.again x a) ≡ Some v → Reaches R v (next p (λ y. f.again y (as_bound a)))
  got_follows a None p v g q = cc
  got_follows a (Some x) None v g q = absurd (g x refl)
  got_follows a (Some x) (Some y) v g q = h.again x y a v (g x refl) q

  -- one operation
  step_follows : (op : Op) (a : A) (l : L) (m : M) (xs : List V) (ys : List W) (t : State V L) → K l m → Stacked R xs ys
      → step e op a l xs ≡ Some t → Reaches (Agree R K) t (step f op (as_bound a) m ys)
  step_follows (Push c) a l m xs ys t k s q = pushed_follows l m xs ys (e.push c a) (f.push c (as_bound a)) t k s (h.push c a) q
  step_follows (Input i) a l m xs ys t k s q = pushed_follows l m xs ys (e.input i a) (f.input i (as_bound a)) t k s (h.input i a) q
  step_follows (Get j) a l m xs ys t k s q =
      pushed_follows l m xs ys (next (e.got l j) (λ x. e.again x a)) (next (f.got m j) (λ x. f.again x (as_bound a))) t k s
      (λ v r. got_follows a (e.got l j) (f.got m j) v (λ x. h.got l m j x k) r) q
  step_follows (Set j) a l m xs ys t k s q = stored_follows j l m xs ys t k s q
  step_follows (Add w) a l m xs ys t k s q = with_two_follows (e.two Plus w a) (f.two Plus w (as_bound a)) l m xs ys t (h.two Plus w a) k s q
  step_follows (Sub w) a l m xs ys t k s q = with_two_follows (e.two Minus w a) (f.two Minus w (as_bound a)) l m xs ys t (h.two Minus w a) k s q
  step_follows (Mul w) a l m xs ys t k s q = with_two_follows (e.two Times w a) (f.two Times w (as_bound a)) l m xs ys t (h.two Times w a) k s q
  step_follows (Neg w) a l m xs ys t k s q = with_one_follows (e.minus w a) (f.minus w (as_bound a)) l m xs ys t (h.minus w a) k s q
  step_follows (Cut n) a l m xs ys t k s q = with_one_follows (e.cut n a) (f.cut n (as_bound a)) l m xs ys t (h.cut n a) k s q

  -- the machine: where the run of e ends, the run of f ends, in a state that stands for it
  pub run_follows : (lines : List (Line A)) (s : State V L) (t : State W M) (u : State V L) → Agree R K s t → run e lines s ≡ Some u
      → Reaches (Agree R K) u (run f (relined as_bound lines) t)
  run_follows [] s t u a q = let r : s ≡ u = cc in rw (← r) a
  run_follows (x ∷ xs) s t u a q =
      next_reaches (Agree R K) (Agree R K) _ _ _ _ u (λ v r. step_follows x.op x.bound s.locals t.locals s.stack t.stack v a.locals a.stack r)
      (λ v w r z. run_follows xs v w u r z) q
