-- Runs of one part of the operations after the other, and what they push.
use Rattle.std.proofs.Common.{◌≡◌, List, [], ◌∷◌, ◌++◌, refl, ap, ◌∙◌, sym, append_assoc}
use Rattle.std.specs.Prelude.{Option, Some, None}
use Rattle.ln_code.specs.declared.op.Op.{Op}
use Rattle.ln_code.specs.Engine.{Engine, State, Line, next, run, step}
use Rattle.ln_code.specs.Kept.{stores}
use Rattle.ln_code.specs.Pushes.{Pushed, newest, after, pushes}

-- one part of the operations after the other
pub run_append : {B V L : Type 0} (e : Engine B V L) (a b : List (Line B)) (s : State V L) → run e (a ++ b) s ≡ next (run e a s) (λ t. run e b t)
run_append e [] b s = refl
run_append {B = B} {V = V} {L = L} e (x ∷ xs) b s = by_step (step e x.op x.bound s.locals s.stack) (λ t. run_append e xs b t)
  where
    by_step : (o : Option (State V L)) → ((t : State V L) → run e (xs ++ b) t ≡ next (run e xs t) (λ t. run e b t))
        → next o (λ t. run e (xs ++ b) t) ≡ next (next o (λ t. run e xs t)) (λ t. run e b t)
    by_step None h = refl
    by_step (Some t) h = h t

-- the second part begins where the first ends
pub then_run : {B V L : Type 0} (e : Engine B V L) (a b : List (Line B)) (s t : State V L) (o : Option (State V L)) → run e a s ≡ Some t
    → run e b t ≡ o → run e (a ++ b) s ≡ o
then_run e a b s t o h k = rw (run_append e a b s, h) k

-- ---- what is pushed

after_more : {V L : Type 0} (op : Op) (o : Option (State V L)) (g : State V L → Option (State V L)) (f h : State V L → List (Pushed V))
    (more : List (Pushed V)) (t : State V L) →
    ((u : State V L) → g u ≡ Some t → f u ≡ h u ++ more) → next o g ≡ Some t → after op o f ≡ after op o h ++ more
after_more op None g f h more t k q = cc
after_more op (Some u) g f h more t k q = ap (λ l. newest op (stores op) u.stack ++ l) (k u q) ∙ sym (append_assoc (newest op (stores op) u.stack) (h u) more)

-- of two parts, the second begins where the first ends
pub pushes_append : {B V L : Type 0} (e : Engine B V L) (a b : List (Line B)) (s t : State V L) → run e a s ≡ Some t
    → pushes e (a ++ b) s ≡ pushes e a s ++ pushes e b t
pushes_append e [] b s t q = let r : s ≡ t = cc in ap (λ u. pushes e b u) r
pushes_append e (x ∷ xs) b s t q = after_more x.op (step e x.op x.bound s.locals s.stack) (λ u. run e xs u) (λ u. pushes e (xs ++ b) u)
    (λ u. pushes e xs u) (pushes e b t) t (λ u r. pushes_append e xs b u t r) q

-- one operation before
pub pushes_front : {B V L : Type 0} (e : Engine B V L) (x : Line B) (xs : List (Line B)) (s t : State V L)
    → step e x.op x.bound s.locals s.stack ≡ Some t → pushes e (x ∷ xs) s ≡ newest x.op (stores x.op) t.stack ++ pushes e xs t
pushes_front e x xs s t q = rw q refl
