-- A run on a stack with more room is the same run.
use Rattle.std.proofs.Common.{◌≡◌, ℕ, ◌≤◌, suc, Bool, true, false, List, [], ◌∷◌, ◌++◌, length, refl, ap, arith}
use Rattle.std.specs.Prelude.{nat_le, Option, Some, None}
use Rattle.std.proofs.lemmas.Bool.Decides.{nat_tests}
use Rattle.ln_code.specs.declared.op.Op.{Op}
use Rattle.ln_code.specs.declared.op.Op.TheVariants.{Push, Input, Get, Set, Add, Sub, Mul, Neg, Cut}
use Rattle.ln_bound.specs.declared.fitted.Two.TheVariants.{Plus, Minus, Times}
use Rattle.ln_code.specs.Engine.{Engine, Line, State, next, only, pushed, run, step, stored, when, with_one, with_two}
use Rattle.ln_code.specs.Kept.{stores}
use Rattle.ln_code.specs.Pushes.{Pushed, after, newest, pushes}

-- the same machine with other room
abbrev pub roomy : {B V L : Type 0} → Engine B V L → (ℕ → Bool) → Engine B V L
roomy e r = record {
  push = e.push;
  input = e.input;
  again = e.again;
  two = e.two;
  minus = e.minus;
  cut = e.cut;
  got = e.got;
  put = e.put;
  room = r;
}

module _ {B V L : Type 0} (e : Engine B V L) (r : ℕ → Bool) (more : (n : ℕ) → e.room n ≡ true → r n ≡ true) where
  pushed-more : (l : L) (rest : List V) (v : V) (t : State V L) → pushed e l rest v ≡ Some t → pushed (roomy e r) l rest v ≡ Some t
  pushed-more l rest v t h = go (e.room (suc (length rest))) refl h
    where
      go : (b : Bool) → e.room (suc (length rest)) ≡ b → when b (record { stack = v ∷ rest; locals = l }) ≡ Some t
          → when (r (suc (length rest))) (record { stack = v ∷ rest; locals = l }) ≡ Some t
      go true q k = let z = more (suc (length rest)) q in rw z k
      go false q k = cc

  next-more : (o : Option V) (l : L) (rest : List V) (t : State V L) → next o (pushed e l rest) ≡ Some t
      → next o (pushed (roomy e r) l rest) ≡ Some t
  next-more None l rest t h = cc
  next-more (Some v) l rest t h = pushed-more l rest v t h

  one-more : (f : V → Option V) (l : L) (s : List V) (t : State V L) → with_one e f l s ≡ Some t
      → with_one (roomy e r) f l s ≡ Some t
  one-more f l [] t h = cc
  one-more f l (x ∷ rest) t h = next-more (f x) l rest t h

  two-more : (f : V → V → Option V) (l : L) (s : List V) (t : State V L) → with_two e f l s ≡ Some t
      → with_two (roomy e r) f l s ≡ Some t
  two-more f l [] t h = cc
  two-more f l (y ∷ []) t h = cc
  two-more f l (y ∷ (x ∷ rest)) t h = next-more (f x y) l rest t h

  stored-more : (j : ℕ) (l : L) (s : List V) (t : State V L) → stored e j l s ≡ Some t → stored (roomy e r) j l s ≡ Some t
  stored-more j l [] t h = cc
  stored-more j l (x ∷ rest) t h = h

  step-more : (op : Op) (b : B) (l : L) (s : List V) (t : State V L) → step e op b l s ≡ Some t → step (roomy e r) op b l s ≡ Some t
  step-more (Push c) b l s t h = next-more (e.push c b) l s t h
  step-more (Input v) b l s t h = next-more (e.input v b) l s t h
  step-more (Get j) b l s t h = next-more (next (e.got l j) (λ x. e.again x b)) l s t h
  step-more (Set j) b l s t h = stored-more j l s t h
  step-more (Add w) b l s t h = two-more (e.two Plus w b) l s t h
  step-more (Sub w) b l s t h = two-more (e.two Minus w b) l s t h
  step-more (Mul w) b l s t h = two-more (e.two Times w b) l s t h
  step-more (Neg w) b l s t h = one-more (e.minus w b) l s t h
  step-more (Cut n) b l s t h = one-more (e.cut n b) l s t h

  -- a run that comes to an end comes to the same one where the stack has more room
  pub run-more : (lines : List (Line B)) (s t : State V L) → run e lines s ≡ Some t → run (roomy e r) lines s ≡ Some t
  run-more [] s t h = h
  run-more (x ∷ xs) s t h = go (step e x.op x.bound s.locals s.stack) refl h (λ u. run-more xs u t)
    where
      go : (o : Option (State V L)) → step e x.op x.bound s.locals s.stack ≡ o → next o (λ u. run e xs u) ≡ Some t
          → ((u : State V L) → run e xs u ≡ Some t → run (roomy e r) xs u ≡ Some t)
          → next (step (roomy e r) x.op x.bound s.locals s.stack) (λ u. run (roomy e r) xs u) ≡ Some t
      go None q k f = cc
      go (Some u) q k f = let z = step-more x.op x.bound s.locals s.stack u q in rw z (f u k)

  -- and pushes the same
  pub pushes-more : (lines : List (Line B)) (s t : State V L) → run e lines s ≡ Some t
      → pushes (roomy e r) lines s ≡ pushes e lines s
  pushes-more [] s t h = refl
  pushes-more (x ∷ xs) s t h = go (step e x.op x.bound s.locals s.stack) refl h (λ u. pushes-more xs u t)
    where
      go : (o : Option (State V L)) → step e x.op x.bound s.locals s.stack ≡ o → next o (λ u. run e xs u) ≡ Some t
          → ((u : State V L) → run e xs u ≡ Some t → pushes (roomy e r) xs u ≡ pushes e xs u) →
          after x.op (step (roomy e r) x.op x.bound s.locals s.stack) (λ u. pushes (roomy e r) xs u) ≡ after x.op
          (step e x.op x.bound s.locals s.stack) (λ u. pushes e xs u)
      go None q k f = cc
      go (Some u) q k f =
          let z = step-more x.op x.bound s.locals s.stack u q in rw (z, q)
          (ap (λ (ps : List (Pushed V)). newest x.op (stores x.op) u.stack ++ ps) (f u k))

-- a stack of n places fits where one of m does
pub room-more : (m n k : ℕ) → m ≤ n → nat_le k m ≡ true → nat_le k n ≡ true
room-more m n k h q = grind (arith, nat_tests)

-- what a run leaves one value on
pub record Leaves {B V L : Type 0} (e : Engine B V L) (lines : List (Line B)) (l : L) (v : V) : Type 0 where
  pub end : State V L
  pub runs : run e lines (record { stack = []; locals = l }) ≡ Some end
  pub one : end.stack ≡ v ∷ []

only-one : {V : Type 0} (s : List V) (v : V) → only s ≡ Some v → s ≡ v ∷ []
only-one [] v h = cc
only-one (x ∷ []) v h = cc
only-one (x ∷ (y ∷ rest)) v h = cc

-- a run whose result is a value ends with that value alone on the stack
pub leaves : {B V L : Type 0} (e : Engine B V L) (lines : List (Line B)) (l : L) (v : V)
    → next (run e lines (record { stack = []; locals = l })) (λ s. only s.stack) ≡ Some v → Leaves e lines l v
leaves {V = V} {L = L} e lines l v h = go (run e lines (record { stack = []; locals = l })) refl h
  where
    go : (o : Option (State V L)) → run e lines (record { stack = []; locals = l }) ≡ o
        → next o (λ s. only s.stack) ≡ Some v → Leaves e lines l v
    go None q k = cc
    go (Some t) q k = record { end = t; runs = q; one = only-one t.stack v k }
