-- The expression of a block, or of a filter, that follows the rules has no other variables than its predicate.
use Rattle.std.proofs.Common.{◌≡◌, ℕ, ◌+◌, ◌*◌, ◌/◌, ◌^◌, Bool, true, false, List, length, refl, subst, unsigned_abs}
use Rattle.std.specs.Prelude.{Option, Some, if◌then◌else◌, ◌==◌, slice_get}
use Rattle.std.proofs.lemmas.Option.{slice_get_within}
use Rattle.ln_algebra.specs.Tree.{InputsBelow, Tree}
use Rattle.ln_algebra.specs.Tree as tree
use Rattle.ln_interval.specs.Range.{Range, magnitude, opposite, point}
use Rattle.ln_tree.specs.declared.shape.VarInfo.{VarInfo}
use Rattle.ln_bound.specs.Typed.{range_of, bound_of, two_of}
use Rattle.ln_bound.specs.Value.{size_of}
use Rattle.ln_bound.specs.Widths.{least, wider}
use Rattle.ln_bound.specs.declared.fitted.Two.{Two}
use Rattle.ln_bound.specs.declared.fitted.Two.TheVariants.{Minus, Plus, Times}
use Rattle.ln_bound.specs.declared.fitted.Width.{Width}
use Rattle.ln_code.proofs.Filters.FilterKnown.{known_says}
use Rattle.ln_code.proofs.Engines.Follow.{Follows}
use Rattle.ln_code.proofs.Following.Known.{if_some, known_some, next_some}
use Rattle.ln_code.proofs.Engines.Runs.{answer_follows, reached_some}
use Rattle.ln_code.specs.Engine.{Engine, next}
use Rattle.ln_code.specs.FilterRules.{FilterKnown, error_after, filter_known, filter_rules, push_error, two_known}
use Rattle.ln_code.specs.Numbers.{no_locals, with_local}
use Rattle.ln_code.specs.Part.{Code, FilterCode, filter_known_of, known_of, lines_of}
use Rattle.ln_code.specs.Rules.{Known, declared, known, rules}
use Rattle.ln_code.specs.declared.op.Triple.{Triple}

-- the engine whose values say nothing
abbrev idle : (B : Type 0) → Engine B (Unit {0}) (Unit {0})
idle B = record {
  push = λ c b. Some tt;
  input = λ v b. Some tt;
  again = λ x b. Some tt;
  two = λ t w b x y. Some tt;
  minus = λ w b x. Some tt;
  cut = λ n b x. Some tt;
  got = λ l j. Some tt;
  put = λ l j x. tt;
  room = λ n. true;
}

-- the variables of what is known are among these
abbrev Inputs : List VarInfo → Known → Unit {0} → Type 0
Inputs vars k u = InputsBelow (length vars) k.tree

-- so are those of each local
abbrev Locals : List VarInfo → (ℕ → Option Known) → Unit {0} → Type 0
Locals vars l u = (j : ℕ) (k : Known) → l j ≡ Some k → InputsBelow (length vars) k.tree

-- an operation adds none
two_inputs : (n : ℕ) (t : Two) (d e : Tree) → InputsBelow n d → InputsBelow n e → InputsBelow n (two_of t d e)
two_inputs n Plus d e h k = (h, k)
two_inputs n Minus d e h k = (h, k)
two_inputs n Times d e h k = (h, k)

-- what holds of each local holds with one more of which it holds
put : {A : Type 0} (P : A → Type 0) (l : ℕ → Option A) (j : ℕ) (v : A) → ((i : ℕ) (k : A) → l i ≡ Some k → P k) → P v → (i : ℕ) (k : A)
    → with_local l j v i ≡ Some k → P k
put P l j v h f i k = by_case (i == j) where
  by_case : (b : Bool) → (if b then Some v else l i) ≡ Some k → P k
  by_case true q = let r : v ≡ k = cc in rw (← r) f
  by_case false q = h i k q

module _ (vars : List VarInfo) where
  kept : (enough p : Range) (w : Width) (s : ℕ) (t : Tree) (k : Known) → InputsBelow (length vars) t → known enough p w s t ≡ Some k
      → InputsBelow (length vars) k.tree
  kept enough p w s t k h q = subst (λ (z : Known). InputsBelow (length vars) z.tree) (known_some enough p w s t k q).3 h

  input : (v : ℕ) (p : Range) (k : Known) → next (slice_get vars v) (λ i. known (declared i) p (least (magnitude p)) 1 (tree.Input v)) ≡ Some k
      → InputsBelow (length vars) k.tree
  input v p k q =
      let r = next_some (slice_get vars v) (λ (i : VarInfo). known (declared i) p (least (magnitude p)) 1 (tree.Input v)) k q in
      kept (declared r.0) p (least (magnitude p)) 1 (tree.Input v) k (slice_get_within vars v r.0 r.1) r.2

  -- each step keeps that
  follow : (depth : ℕ) → Follows (rules vars depth) (idle Range) (λ (p : Range). p) (Inputs vars) (Locals vars)
  follow depth = record {
    push = λ c p k q. kept (point c) p (least (magnitude p)) (unsigned_abs c) (tree.Num c) k tt q;
    input = input;
    again = λ x y p k f q. kept x.range p (wider x.width (least (magnitude p))) x.size x.tree k f q;
    two = λ t w p x x' y y' k f g q. kept (range_of t x.range x'.range) p w (bound_of t x.size x'.size) (two_of t x.tree x'.tree) k
        (two_inputs (length vars) t x.tree x'.tree f g) (if_some _ _ _ q).1;
    minus = λ w p x y k f q. kept (opposite x.range) p w x.size (tree.Neg x.tree) k f (if_some _ _ _ q).1;
    cut = λ n p x y k f q. cc;
    got = λ l m j k f q. f j k q;
    put = λ l m j x y f g. put (λ (k : Known). InputsBelow (length vars) k.tree) l j x f g;
    room = λ n q. refl;
  }

-- the expression that a block carries has no other variables than these
pub known_inputs : (vars : List VarInfo) (c : Code) (k : Known) → known_of vars c ≡ Some k → InputsBelow (length vars) k.tree
known_inputs vars c k q =
    let a = answer_follows (rules vars c.depth) (idle Range) (λ (p : Range). p) (Inputs vars) (Locals vars)
    (follow vars c.depth) no_locals tt (lines_of c.ops c.pairs) k (λ j v e. cc) q in
    (reached_some (Inputs vars) k _ a).2

-- ---- filters
abbrev FilterInputs : List VarInfo → FilterKnown → Unit {0} → Type 0
FilterInputs vars k u = InputsBelow (length vars) k.tree

abbrev FilterLocals : List VarInfo → (ℕ → Option FilterKnown) → Unit {0} → Type 0
FilterLocals vars l u = (j : ℕ) (k : FilterKnown) → l j ≡ Some k → InputsBelow (length vars) k.tree

module _ (vars : List VarInfo) where
  filter-kept : (k h e size : ℕ) (t : Tree) (a : Triple) (r : FilterKnown) → InputsBelow (length vars) t
      → filter_known k h e size t a ≡ Some r → InputsBelow (length vars) r.tree
  filter-kept k h e size t a r i q = subst (λ (z : FilterKnown). InputsBelow (length vars) z.tree) (known_says k h e size t a r q).is i

  filter-input : (v : ℕ) (a : Triple) (r : FilterKnown)
      → next (slice_get vars v) (λ i. filter_known 0 (size_of i) 0 1 (tree.Input v) a) ≡ Some r → InputsBelow (length vars) r.tree
  filter-input v a r q =
      let s = next_some (slice_get vars v) (λ (i : VarInfo). filter_known 0 (size_of i) 0 1 (tree.Input v) a) r q in
      filter-kept 0 (size_of s.0) 0 1 (tree.Input v) a r (slice_get_within vars v s.0 s.1) s.2

  filter-two : (t : Two) (a : Triple) (x y r : FilterKnown) → InputsBelow (length vars) x.tree → InputsBelow (length vars) y.tree
      → two_known t a x y ≡ Some r → InputsBelow (length vars) r.tree
  filter-two Plus a x y r h k q = filter-kept x.triple.k (x.triple.h + y.triple.h) (x.triple.e + y.triple.e) (x.size + y.size)
      (two_of Plus x.tree y.tree) a r (h, k) (if_some _ _ _ q).1
  filter-two Minus a x y r h k q = filter-kept x.triple.k (x.triple.h + y.triple.h) (x.triple.e + y.triple.e) (x.size + y.size)
      (two_of Minus x.tree y.tree) a r (h, k) (if_some _ _ _ q).1
  filter-two Times a x y r h k q = filter-kept (x.triple.k + y.triple.k) (x.triple.h * y.triple.h)
      (x.triple.h * y.triple.e + y.triple.h * x.triple.e + x.triple.e * y.triple.e) (x.size * y.size) (two_of Times x.tree y.tree) a r (h, k) q

  filter-follow : (depth : ℕ) → Follows (filter_rules vars depth) (idle Triple) (λ (a : Triple). a) (FilterInputs vars) (FilterLocals vars)
  filter-follow depth = record {
    push = λ c a k q. filter-kept a.k (unsigned_abs c / 2 ^ a.k) (push_error a.k) (unsigned_abs c) (tree.Num c) a k tt q;
    input = filter-input;
    again = λ x y a k f q. filter-kept x.triple.k x.triple.h x.triple.e x.size x.tree a k f q;
    two = λ t w a x x' y y' k f g q. filter-two t a x x' k f g (if_some _ _ _ q).1;
    minus = λ w a x y k f q. filter-kept x.triple.k x.triple.h x.triple.e x.size (tree.Neg x.tree) a k f (if_some _ _ _ q).1;
    cut = λ n a x y k f q. filter-kept (x.triple.k + n) (x.triple.h / 2 ^ n) (error_after n x.triple.e) x.size x.tree a k f q;
    got = λ l m j k f q. f j k q;
    put = λ l m j x y f g. put (λ (k : FilterKnown). InputsBelow (length vars) k.tree) l j x f g;
    room = λ n q. refl;
  }

-- the expression that a filter carries has no other variables than these
pub filter_known-inputs : (vars : List VarInfo) (c : FilterCode) (k : FilterKnown) → filter_known_of vars c ≡ Some k → InputsBelow (length vars) k.tree
filter_known-inputs vars c k q =
    let a = answer_follows (filter_rules vars c.depth) (idle Triple) (λ (t : Triple). t) (FilterInputs vars) (FilterLocals vars)
    (filter-follow vars c.depth) no_locals tt (lines_of c.ops c.triples) k (λ j v e. cc) q in
    (reached_some (FilterInputs vars) k _ a).2
