-- What follows from one engine's result for another's, and what the lines of code are.
use Rattle.std.proofs.Common.{◌≡◌, ℕ, ℤ, ◌≤◌, List, [], ◌∷◌, length, refl, ap, arith}
use Rattle.std.specs.Prelude.{Option, Some, None, IsSome}
use Rattle.ln_interval.specs.Range.{Range}
use Rattle.ln_tree.specs.declared.shape.VarInfo.{VarInfo}
use Rattle.ln_tree.specs.Row.{AreWithin}
use Rattle.ln_bound.specs.Value.{value, values}
use Rattle.ln_code.specs.declared.op.Op.{Op}
use Rattle.ln_code.specs.declared.op.Triple.{Triple}
use Rattle.ln_code.specs.Engine.{Engine, State, Line, next, run, only, answer}
use Rattle.ln_code.specs.Numbers.{no_locals}
use Rattle.ln_code.specs.Exact.{Held, exact, exact_filter}
use Rattle.ln_code.specs.Rules.{Known, rules}
use Rattle.ln_code.specs.FilterRules.{FilterKnown, filter_rules}
use Rattle.ln_code.specs.Bare.{bare}
use Rattle.ln_code.specs.Part.{Code, FilterCode, lines_of, block_value, filter_value, known_of, filter_known_of}
use Rattle.ln_code.specs.Kept.{FollowsRules, FollowsFilterRules}
use Rattle.ln_code.specs.Memory.{plain, shifted}
use Rattle.ln_code.proofs.Engines.Follow.{Reaches, Stacked, Agree, Follows, LocalsStand, relined, run_follows}
use Rattle.ln_code.proofs.Following.Known.{Fits, exact_follows, bare_follows}
use Rattle.ln_code.proofs.Filters.FilterKnown.{HoldsHeld, IsNumber, roomy, roomy_follows, exact_follows_roomy, bare_follows_roomy}
use Rattle.ln_code.specs.Errors.{left_error}
use Rattle.ln_code.proofs.Filters.ErrorLaws.{left_has}

only_follows : {V W : Type 0} (R : V → W → Type 0) (xs : List V) (ys : List W) (v : V) → Stacked R xs ys → only xs ≡ Some v → Reaches R v (only ys)
only_follows R [] ys v s h = cc
only_follows R (x ∷ []) [] v s h = absurd s
only_follows R (x ∷ []) (y ∷ []) v s h = let e : x ≡ v = cc in rw (← e) s.0
only_follows R (x ∷ []) (y ∷ (z ∷ ys)) v s h = absurd s.1
only_follows R (x ∷ (x' ∷ xs)) ys v s h = cc

-- where one engine has a result, an engine that follows it has one that stands for it
pub answer_follows : {A V L B W M : Type 0} (e : Engine A V L) (f : Engine B W M) (as_bound : A → B) (R : V → W → Type 0)
    (K : L → M → Type 0) (h : Follows e f as_bound R K)
    (l : L) (m : M) (lines : List (Line A)) (v : V) → K l m → answer e l lines ≡ Some v → Reaches R v (answer f m (relined as_bound lines))
answer_follows {V = V} {L = L} {W = W} {M = M} e f as_bound R K h l m lines v k q =
    by_run (run e lines (record { stack = []; locals = l })) (run f (relined as_bound lines) (record { stack = []; locals = m })) (λ u r.
    run_follows e f as_bound R K h lines (record { stack = []; locals = l }) (record { stack = []; locals = m }) u (record { stack = tt; locals = k }) r) q
  where
    by_run : (o : Option (State V L)) (p : Option (State W M)) → ((u : State V L) → o ≡ Some u → Reaches (Agree R K) u p)
        → next o (λ s. only s.stack) ≡ Some v → Reaches R v (next p (λ s. only s.stack))
    by_run None p g q = cc
    by_run (Some u) None g q = absurd (g u refl)
    by_run (Some u) (Some w) g q = only_follows R u.stack w.stack v (g u refl).stack q

-- lines with the bounds that they have are the same lines
pub same_lines : {A : Type 0} (lines : List (Line A)) → relined (λ (b : A). b) lines ≡ lines
same_lines [] = refl
same_lines (x ∷ xs) = ap (λ t. x ∷ t) (same_lines xs)

-- the lines of a block, for the processor
pub plain_lines : (ops : List Op) (pairs : List Range) → length ops ≡ length pairs → relined (λ (p : Range). 0) (lines_of ops pairs) ≡ plain ops
plain_lines [] pairs h = refl
plain_lines (o ∷ os) [] h = absurd (omega arith)
plain_lines (o ∷ os) (p ∷ ps) h =
    let e : length os ≡ length ps = omega arith in
    ap (λ t. record { op = o; bound = 0 } ∷ t) (plain_lines os ps e)

-- the lines of a filter, for the processor
pub shifted_lines : (ops : List Op) (ts : List Triple) → relined (λ (a : Triple). a.k) (lines_of ops ts) ≡ shifted ops ts
shifted_lines [] ts = refl
shifted_lines (o ∷ os) [] = refl
shifted_lines (o ∷ os) (a ∷ ts) = ap (λ t. record { op = o; bound = a.k } ∷ t) (shifted_lines os ts)

-- a result that stands for a value is there
pub reached_some : {V W : Type 0} (R : V → W → Type 0) (v : V) (o : Option W) → Reaches R v o → (w : W) × (o ≡ Some w) × R v w
reached_some R v None h = absurd h
reached_some R v (Some w) h = (w, refl, h)

-- an option that holds a value is that of some value
pub some_is : {V : Type 0} (o : Option V) → IsSome o → (v : V) × (o ≡ Some v)
some_is None h = cc
some_is (Some v) h = (v, refl)

-- a block on a row: the value of what is known, by the machine and by the processor
pub record Runs (vars : List VarInfo) (zs : List ℤ) (c : Code) (places : ℕ) (locals : ℕ → ℤ) : Type 0 where
  pub what : Known
  pub known : known_of vars c ≡ Some what
  pub exactly : block_value zs c ≡ Some (value (values zs) [] what.tree)
  pub barely : answer (bare zs places) locals (plain c.ops) ≡ Some (value (values zs) [] what.tree)
  pub fits : Fits zs what (value (values zs) [] what.tree)

-- a block that follows the rules runs on each row in range, where the stack is deep enough
pub block_runs : (vars : List VarInfo) (zs : List ℤ) (c : Code) (places : ℕ) (locals : ℕ → ℤ) → FollowsRules vars c → AreWithin vars zs
    → c.depth ≤ places → Runs vars zs c places locals
block_runs vars zs c places locals r range d =
    let k = some_is (known_of vars c) r.answers in
    let lines = lines_of c.ops c.pairs in
    let a = answer_follows (rules vars c.depth) (exact zs) (λ (p : Range). p) (Fits zs) (LocalsStand (Reaches (Fits zs)))
    (exact_follows vars c.depth zs range) no_locals no_locals lines k.0 (λ j v e. cc) k.1 in
    let b = answer_follows (rules vars c.depth) (bare zs places) (λ (p : Range). 0) (Fits zs) (LocalsStand (Fits zs))
    (bare_follows vars c.depth places zs range d) no_locals locals lines k.0 (λ j v e. cc) k.1 in
    let p = reached_some (Fits zs) k.0 _ (rw same_lines at a) in
    let q = reached_some (Fits zs) k.0 _ (rw (plain_lines c.ops c.pairs r.bounded) at b) in
    let e : p.0 ≡ value (values zs) [] k.0.tree = p.2.same in
    let f : q.0 ≡ value (values zs) [] k.0.tree = q.2.same in
    record { what = k.0; known = k.1; exactly = rw (← e) p.1; barely = rw (← f) q.1; fits = rw (← e) p.2 }

-- a filter on a row: a number that stands for the value of what is known, by the machine and by the processor alike
pub record FilterRuns (vars : List VarInfo) (zs : List ℤ) (f : FilterCode) (places : ℕ) (locals : ℕ → ℤ) : Type 0 where
  pub what : FilterKnown
  pub known : filter_known_of vars f ≡ Some what
  pub left : Held
  pub exactly : filter_value zs f ≡ Some left
  pub barely : answer (bare zs places) locals (shifted f.ops f.triples) ≡ Some left.number
  pub holds : HoldsHeld zs what left
  pub error : left.error ≡ left_error f.ops f.triples 0 0

-- a filter that follows the rules runs on each row in range, where the stack is deep enough
pub filter_runs : (vars : List VarInfo) (zs : List ℤ) (f : FilterCode) (places : ℕ) (locals : ℕ → ℤ) → FollowsFilterRules vars f
    → AreWithin vars zs → f.depth ≤ places → FilterRuns vars zs f places locals
filter_runs vars zs f places locals r range d =
    let lines = lines_of f.ops f.triples in
    let a = answer_follows (filter_rules vars f.depth) (roomy zs f.depth) (λ (a : Triple). a) (HoldsHeld zs) (LocalsStand (Reaches (HoldsHeld zs)))
    (roomy_follows vars f.depth zs range) no_locals no_locals lines r.what (λ j v e. cc) r.known in
    let p = reached_some (HoldsHeld zs) r.what _ (rw same_lines at a) in
    let b = answer_follows (roomy zs f.depth) (exact_filter zs) (λ (a : Triple). a) (λ (x y : Held). x ≡ y)
    (λ (l m : ℕ → Option Held). l ≡ m) (exact_follows_roomy f.depth zs) no_locals no_locals lines p.0 refl p.1 in
    let q = reached_some (λ (x y : Held). x ≡ y) p.0 _ (rw same_lines at b) in
    let c = answer_follows (roomy zs f.depth) (bare zs places) (λ (a : Triple). a.k) IsNumber (LocalsStand IsNumber)
    (bare_follows_roomy f.depth places zs d) no_locals locals lines p.0 (λ j v e. cc) p.1 in
    let s = reached_some IsNumber p.0 _ (rw (shifted_lines f.ops f.triples) at c) in
    let x : filter_value zs f ≡ Some p.0 = rw (← q.2) at q.1 in
    record { what = r.what; known = r.known; left = p.0; exactly = x; barely = rw (← s.2.same) at s.1; holds = p.2; error = left_has zs f.ops f.triples p.0 x }
