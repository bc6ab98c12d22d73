-- Proves what the rules mean for each operation of a block or a filter.
use Rattle.std.proofs.Common.{◌≡◌, ℕ, ◌≤◌, unsigned_abs, true, List, [], ◌∷◌, length, Option, Some, None, refl, arith}
use Rattle.std.specs.Prelude.{if◌then◌else◌, slice_get, IsSome}
use Rattle.std.proofs.lemmas.Option.{slice_get_within}
use Rattle.ln_algebra.specs.Tree as tree
use Rattle.ln_interval.specs.Range.{Range, magnitude, point}
use Rattle.ln_tree.specs.declared.shape.VarInfo.{VarInfo}
use Rattle.ln_bound.specs.declared.fitted.Two.{Two}
use Rattle.ln_bound.specs.declared.fitted.Two.TheVariants.{Plus, Minus, Times}
use Rattle.ln_bound.specs.declared.fitted.Width.{Width}
use Rattle.ln_bound.specs.declared.fitted.Width.TheVariants.{W64, W128}
use Rattle.ln_bound.specs.Value.{size_of}
use Rattle.ln_bound.specs.Widths.{least, no_wider}
use Rattle.ln_code.specs.declared.op.Op.{Op}
use Rattle.ln_code.specs.declared.op.Op.TheVariants as op
use Rattle.ln_code.specs.declared.op.Triple.{Triple}
use Rattle.ln_code.specs.Engine.{Engine, Line, State, answer, next, only, pushed, run, step, with_two}
use Rattle.ln_code.specs.FilterRules.{FilterKnown, filter_known, filter_rules, push_error, two_known}
use Rattle.ln_code.specs.Kept.{FollowsFilterRules, FollowsRules, StoresHave, no_triple, nothing, stores}
use Rattle.ln_code.specs.Numbers.{no_locals}
use Rattle.ln_code.specs.Part.{Code, FilterCode, lines_of}
use Rattle.ln_code.specs.Rules.{Known, declared, known, rules}
use Rattle.ln_code.proofs.Filters.FilterKnown.{known_says}
use Rattle.ln_code.proofs.Engines.Runs.{some_is}
use Rattle.ln_code.proofs.Following.Known.{if_some, known_some, next_some}
use Rattle.ln_cert.specs.Text.{Each, is_narrow, of_block, of_filter, takes_off, verb_of}
use Rattle.ln_cert.specs.Written.{InBlock, InFilter, IsWithin}

each_step : {B V L : Type 0} (e : Engine B V L) (P : Line B → Type 0)
    → ((o : Op) (b : B) (l : L) (s : List V) (t : State V L) → step e o b l s ≡ Some t → P (record { op = o; bound = b }))
    → (lines : List (Line B)) (s t : State V L) → run e lines s ≡ Some t → Each P lines
each_step e P f [] s t h = tt
each_step e P f (x ∷ xs) s t h =
    let n = next_some (step e x.op x.bound s.locals s.stack) (λ u. run e xs u) t h in
    (f x.op x.bound s.locals s.stack n.0 n.1, each_step e P f xs n.0 t n.2)

-- ---- blocks
record BlockSays (x : Line Range) : Type 0 where
  within : IsWithin x.op
  uncut : of_block (verb_of x.op) ≡ true

block_step : (vars : List VarInfo) (depth : ℕ) → length vars ≤ 168 → (o : Op) (b : Range) (l : ℕ → Option Known) (s : List Known)
    (t : State Known (ℕ → Option Known)) → step (rules vars depth) o b l s ≡ Some t → BlockSays (record { op = o; bound = b })
block_step vars depth few (op.Push c) b l s t h =
    let n = next_some (known (point c) b (least (magnitude b)) (unsigned_abs c) (tree.Num c)) (pushed (rules vars depth) l s) t h in
    let k = known_some (point c) b (least (magnitude b)) (unsigned_abs c) (tree.Num c) n.0 n.1 in
    record { within = omega (arith, k.2); uncut = refl }
block_step vars depth few (op.Input v) b l s t h =
    let n = next_some (next (slice_get vars v) (λ i. known (declared i) b (least (magnitude b)) 1 (tree.Input v))) (pushed (rules vars depth) l s) t h in
    let m = next_some (slice_get vars v) (λ i. known (declared i) b (least (magnitude b)) 1 (tree.Input v)) n.0 n.1 in
    let w = slice_get_within vars v m.0 m.1 in
    record { within = omega arith; uncut = refl }
block_step vars depth few (op.Get j) b l s t h = record { within = tt; uncut = refl }
block_step vars depth few (op.Set j) b l s t h = record { within = tt; uncut = refl }
block_step vars depth few (op.Add w) b l s t h = record { within = tt; uncut = refl }
block_step vars depth few (op.Sub w) b l s t h = record { within = tt; uncut = refl }
block_step vars depth few (op.Mul w) b l s t h = record { within = tt; uncut = refl }
block_step vars depth few (op.Neg w) b l s t h = record { within = tt; uncut = refl }
block_step vars depth few (op.Cut n) b l [] t h = absurd (cc)
block_step vars depth few (op.Cut n) b l (x ∷ s) t h = absurd (cc)

does_store : (o : Op) → takes_off (verb_of o) ≡ true → stores o ≡ true
does_store (op.Set j) e = refl
does_store (op.Push c) e = absurd (cc)
does_store (op.Input v) e = absurd (cc)
does_store (op.Get j) e = absurd (cc)
does_store (op.Add w) e = absurd (cc)
does_store (op.Sub w) e = absurd (cc)
does_store (op.Mul w) e = absurd (cc)
does_store (op.Neg w) e = absurd (cc)
does_store (op.Cut n) e = absurd (cc)

in_block : (lines : List (Line Range)) → Each BlockSays lines → StoresHave nothing lines → Each InBlock lines
in_block [] p q = tt
in_block (x ∷ xs) p q = (record { within = p.0.within; uncut = p.0.uncut; stores = λ e. q.0 (does_store x.op e) }, in_block xs p.1 q.1)

answered : {B V L : Type 0} (e : Engine B V L) (l : L) (lines : List (Line B)) (v : V) → answer e l lines ≡ Some v
    → (t : State V L) × (run e lines (record { stack = []; locals = l }) ≡ Some t)
answered e l lines v h = let n = next_some (run e lines (record { stack = []; locals = l })) (λ s. only s.stack) v h in (n.0, n.1)

-- each operation of a block that follows the rules is within the limits, no cut, and has no range where it stores
pub obeys_block : (vars : List VarInfo) (c : Code) → length vars ≤ 168 → FollowsRules vars c → StoresHave nothing (lines_of c.ops c.pairs)
    → Each InBlock (lines_of c.ops c.pairs)
obeys_block vars c few f q =
    let k = some_is (answer (rules vars c.depth) no_locals (lines_of c.ops c.pairs)) f.answers in
    let r = answered (rules vars c.depth) no_locals (lines_of c.ops c.pairs) k.0 k.1 in
    in_block (lines_of c.ops c.pairs) (each_step (rules vars c.depth) BlockSays (block_step vars c.depth few) (lines_of c.ops c.pairs)
    (record { stack = []; locals = no_locals }) r.0 r.1) q

-- ---- filters
record FilterSays (x : Line Triple) : Type 0 where
  within : IsWithin x.op
  narrow : of_filter (verb_of x.op) ≡ true

narrow_is : (w : Width) → no_wider w W64 ≡ true → is_narrow w ≡ true
narrow_is W64 e = refl
narrow_is W128 e = absurd (cc)

two_narrow : (vars : List VarInfo) (depth : ℕ) (u : Two) (w : Width) (a : Triple) (l : ℕ → Option FilterKnown) (s : List FilterKnown)
    (t : State FilterKnown (ℕ → Option FilterKnown)) →
    with_two (filter_rules vars depth) ((filter_rules vars depth).two u w a) l s ≡ Some t → is_narrow w ≡ true
two_narrow vars depth u w a l [] t h = absurd (cc)
two_narrow vars depth u w a l (y ∷ []) t h = absurd (cc)
two_narrow vars depth u w a l (y ∷ (x ∷ s)) t h =
    let n = next_some (if no_wider w W64 then two_known u a x y else None) (pushed (filter_rules vars depth) l s) t h in
    narrow_is w (if_some (no_wider w W64) (two_known u a x y) n.0 n.1).0

filter_step : (vars : List VarInfo) (depth : ℕ) → length vars ≤ 168 → (o : Op) (a : Triple) (l : ℕ → Option FilterKnown) (s : List FilterKnown)
    (t : State FilterKnown (ℕ → Option FilterKnown)) → step (filter_rules vars depth) o a l s ≡ Some t → FilterSays (record { op = o; bound = a })
filter_step vars depth few (op.Push c) a l s t h =
    let n = next_some ((filter_rules vars depth).push c a) (pushed (filter_rules vars depth) l s) t h in
    let k = known_says a.k _ (push_error a.k) (unsigned_abs c) (tree.Num c) a n.0 n.1 in
    record { within = omega (arith, k.size_fits); narrow = refl }
filter_step vars depth few (op.Input v) a l s t h =
    let n = next_some (next (slice_get vars v) (λ i. filter_known 0 (size_of i) 0 1 (tree.Input v) a)) (pushed (filter_rules vars depth) l s) t h in
    let m = next_some (slice_get vars v) (λ i. filter_known 0 (size_of i) 0 1 (tree.Input v) a) n.0 n.1 in
    let w = slice_get_within vars v m.0 m.1 in
    record { within = omega arith; narrow = refl }
filter_step vars depth few (op.Get j) a l s t h = record { within = tt; narrow = refl }
filter_step vars depth few (op.Set j) a l s t h = record { within = tt; narrow = refl }
filter_step vars depth few (op.Add w) a l s t h = record { within = tt; narrow = two_narrow vars depth Plus w a l s t h }
filter_step vars depth few (op.Sub w) a l s t h = record { within = tt; narrow = two_narrow vars depth Minus w a l s t h }
filter_step vars depth few (op.Mul w) a l s t h = record { within = tt; narrow = two_narrow vars depth Times w a l s t h }
filter_step vars depth few (op.Neg w) a l [] t h = absurd (cc)
filter_step vars depth few (op.Neg w) a l (x ∷ s) t h =
    let n = next_some ((filter_rules vars depth).minus w a x) (pushed (filter_rules vars depth) l s) t h in
    record { within = tt; narrow = narrow_is w (if_some (no_wider w W64) (filter_known x.triple.k x.triple.h x.triple.e x.size (tree.Neg x.tree) a) n.0 n.1).0 }
filter_step vars depth few (op.Cut n) a l s t h = record { within = tt; narrow = refl }

in_filter : (lines : List (Line Triple)) → Each FilterSays lines → StoresHave no_triple lines → Each InFilter lines
in_filter [] p q = tt
in_filter (x ∷ xs) p q = (record { within = p.0.within; narrow = p.0.narrow; stores = λ e. q.0 (does_store x.op e) }, in_filter xs p.1 q.1)

-- each operation of a filter that follows the rules is within the limits, 64 bits wide, and has no triple where it stores
pub obeys_filter : (vars : List VarInfo) (f : FilterCode) → length vars ≤ 168 → FollowsFilterRules vars f
    → StoresHave no_triple (lines_of f.ops f.triples) → Each InFilter (lines_of f.ops f.triples)
obeys_filter vars f few g q =
    let r = answered (filter_rules vars f.depth) no_locals (lines_of f.ops f.triples) g.what g.known in
    in_filter (lines_of f.ops f.triples) (each_step (filter_rules vars f.depth) FilterSays (filter_step vars f.depth few)
    (lines_of f.ops f.triples) (record { stack = []; locals = no_locals }) r.0 r.1) q
