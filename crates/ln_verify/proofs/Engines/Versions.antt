-- Proves that what follows the rules of version 1 follows those of version 2: an input's range covers what version 2 asks for,
-- and running sizes are no larger.
use Rattle.std.proofs.Common.{◌≡◌, ℕ, ◌+◌, ◌*◌, ◌/◌, ◌^◌, ◌≤◌, true, List, refl, arith, unsigned_abs, ◌&&◌, [], ◌∷◌, ◌∙◌, ap, ℤ, sym, pos, neg_ℤ}
use Rattle.std.proofs.Common.{◌*ℤ◌, subst}
use Rattle.std.specs.Prelude.{Option, Some, None, if◌then◌else◌, ◌==◌, nat_le, slice_get, ◌≤ℤ◌}
use Rattle.std.proofs.Math.Nat.{mul-le-mul}
use Rattle.std.proofs.lemmas.Bool.{and_parts, leb-true, le-leb}
use Rattle.std.proofs.lemmas.Int.{ints, int_max_is, int_min_is}
use Rattle.ln_algebra.specs.Tree as tree
use Rattle.ln_algebra.specs.Tree.{Tree}
use Rattle.ln_interval.specs.Range.{Covers, Range, magnitude, opposite, point}
use Rattle.ln_tree.specs.declared.shape.VarInfo.{VarInfo}
use Rattle.ln_bound.specs.declared.fitted.Two.{Two}
use Rattle.ln_bound.specs.declared.fitted.Two.TheVariants.{Plus, Minus, Times}
use Rattle.ln_bound.specs.declared.fitted.Width.{Width}
use Rattle.ln_bound.specs.declared.fitted.Width.TheVariants.{W64, W128}
use Rattle.ln_bound.specs.Typed.{range_of, bound_of, two_of}
use Rattle.ln_bound.specs.Value.{size_of}
use Rattle.ln_bound.specs.Widths.{least, limit, no_wider, wider}
use Rattle.ln_code.specs.declared.op.Triple.{Triple}
use Rattle.ln_code.specs.Engine.{Line, answer, next, Engine, State, only, run, step}
use Rattle.ln_code.specs.FilterRules.{FilterKnown, covers, error_after, filter_known, push_error, two_known}
use Rattle.ln_code.specs.Numbers.{no_locals}
use Rattle.ln_code.specs.Rules.{Known, declared, known}
use Rattle.ln_code.proofs.Engines.Follow.{Follows, LocalsStand, Reaches, local_stands, when_some, relined}
use Rattle.ln_code.proofs.Following.Known.{both, if_some, known_some, next_some}
use Rattle.ln_code.proofs.Engines.Runs.{answer_follows, reached_some, same_lines}
use Rattle.ln_verify.specs.BlockRules.{balanced, block_rules, triple_rules, version_1, version_2}
use Rattle.ln_verify.specs.Law.{IsNoLarger, IsNoLargerCut, Version1Follows}
use Rattle.ln_verify.proofs.Values.Ranges.{known-is, balanced-within, least-balanced}
use Rattle.ln_code.specs.declared.op.Op.{Op}
use Rattle.ln_code.specs.declared.op.Op.TheVariants.{Set, Add, Sub, Mul, Neg, Cut}
use Rattle.std.specs.Int.{int_max, int_min}
use Rattle.ln_algebra.proofs.Expanded.Ring.{mul_comm, mul_neg}
use Rattle.ln_bound.proofs.Soundness.WidthLaws.{limit_most}
use Rattle.ln_verify.specs.Bounds.{Bounded, IsOnBounds, IsSame, bound_rules, bounded, on_ranges}

-- ---- blocks
-- a range that covers more covers less, and a smaller size fits too
covers-less : (more less p : Range) (w : Width) (m n : ℕ) (t : Tree) (x : Known) → (Covers p more → Covers p less) → n ≤ m
    → known more p w m t ≡ Some x → Reaches IsNoLarger x (known less p w n t)
covers-less more less p w m n t x h s q =
    let r = known_some more p w m t x q in
    let e = known-is less p w n t (h r.0) r.1 (omega (arith, s, r.2)) in
    rw (e, ← r.3) (record { range = refl; width = refl; tree = refl; size = s })

same-less : (enough p : Range) (w : Width) (m n : ℕ) (t : Tree) (x : Known) → n ≤ m → known enough p w m t ≡ Some x
    → Reaches IsNoLarger x (known enough p w n t)
same-less enough p w m n t x s q = covers-less enough enough p w m n t x (λ h. h) s q

-- the running size of a result is no larger where those of its operands are no larger
pub sizes-mono : (t : Two) (m n k l : ℕ) → m ≤ k → n ≤ l → bound_of t m n ≤ bound_of t k l
sizes-mono Plus m n k l h g = omega arith
sizes-mono Minus m n k l h g = omega arith
sizes-mono Times m n k l h g = mul-le-mul h g

own-size : (i : VarInfo) → 1 ≤ size_of i
own-size i = omega arith

input-covers : (i : VarInfo) (p : Range) → Covers p (balanced (size_of i)) → Covers p (declared i)
input-covers i p h = (omega (arith, ints, h.0), omega (arith, ints, h.1))

input-less : (vars : List VarInfo) (v : ℕ) (p : Range) (x : Known)
    → next (slice_get vars v) (λ i. known (balanced (size_of i)) p (least (magnitude p)) (size_of i) (tree.Input v)) ≡ Some x
    → Reaches IsNoLarger x (next (slice_get vars v) (λ i. known (declared i) p (least (magnitude p)) 1 (tree.Input v)))
input-less vars v p x q =
    let r = next_some (slice_get vars v) (λ (i : VarInfo). known (balanced (size_of i)) p (least (magnitude p)) (size_of i) (tree.Input v)) x q in
    let e = r.1 in
    rw e (covers-less (balanced (size_of r.0)) (declared r.0) p (least (magnitude p)) (size_of r.0) 1 (tree.Input v) x (input-covers r.0 p) (own-size r.0) r.2)

two-less : (t : Two) (w : Width) (p : Range) (x y : Known) (k m : Known) (z : Known) → IsNoLarger x k → IsNoLarger y m →
    (if no_wider x.width w && no_wider y.width w then known (range_of t x.range y.range) p w (bound_of t x.size y.size) (two_of t x.tree y.tree) else None)
    ≡ Some z →
    Reaches IsNoLarger z (if no_wider k.width w && no_wider m.width w
    then known (range_of t k.range m.range) p w (bound_of t k.size m.size) (two_of t k.tree m.tree) else None)
two-less t w p x y k m z s u q =
    let r = if_some _ _ _ q in
    let h : (no_wider k.width w && no_wider m.width w) ≡ true = rw (← s.width, ← u.width) r.0 in
    let a = same-less (range_of t x.range y.range) p w (bound_of t x.size y.size) (bound_of t k.size m.size) (two_of t x.tree y.tree) z
    (sizes-mono t k.size m.size x.size y.size s.size u.size) r.1 in
    rw (h, ← s.tree, ← u.tree, ← s.range, ← u.range) a

minus-less : (w : Width) (p : Range) (x k : Known) (z : Known) → IsNoLarger x k →
    (if no_wider x.width w then known (opposite x.range) p w x.size (tree.Neg x.tree) else None) ≡ Some z →
    Reaches IsNoLarger z (if no_wider k.width w then known (opposite k.range) p w k.size (tree.Neg k.tree) else None)
minus-less w p x k z s q =
    let r = if_some _ _ _ q in
    let h : no_wider k.width w ≡ true = rw (← s.width) r.0 in
    let a = same-less (opposite x.range) p w x.size k.size (tree.Neg x.tree) z s.size r.1 in
    rw (h, ← s.tree, ← s.range) a

again-less : (x k : Known) (p : Range) (z : Known) → IsNoLarger x k → known x.range p (wider x.width (least (magnitude p))) x.size x.tree ≡ Some z
    → Reaches IsNoLarger z (known k.range p (wider k.width (least (magnitude p))) k.size k.tree)
again-less x k p z s q =
    let a = same-less x.range p (wider x.width (least (magnitude p))) x.size k.size x.tree z s.size q in
    rw (← s.tree, ← s.range, ← s.width) a

blocks-follow : (vars : List VarInfo)
    → Follows (block_rules version_1 vars) (block_rules version_2 vars) (λ (p : Range). p) IsNoLarger (LocalsStand (Reaches IsNoLarger))
blocks-follow vars = record {
  push = λ c p x q. same-less (point c) p (least (magnitude p)) (unsigned_abs c) (unsigned_abs c) (tree.Num c) x (omega arith) q;
  input = input-less vars;
  again = again-less;
  two = two-less;
  minus = minus-less;
  cut = λ n p x k z s q. cc;
  got = λ l m j x h q. h j x q;
  put = λ l m j x k h f. local_stands (Reaches IsNoLarger) l m j x (Some k) h f;
  room = λ n q. q;
}

-- ---- filters
cut-less : (k h e m n : ℕ) (t : Tree) (a : Triple) (x : FilterKnown) → n ≤ m → filter_known k h e m t a ≡ Some x
    → Reaches IsNoLargerCut x (filter_known k h e n t a)
cut-less k h e m n t a x s q =
    let r = when_some _ _ _ q in
    let c = and_parts (covers k h e a) _ r.0 in
    let l : m ≤ limit W128 = leb-true m (limit W128) c.1 in
    let i : nat_le n (limit W128) ≡ true = le-leb n (limit W128) (omega (arith, s, l)) in
    let w = c.0 in
    rw (w, i, ← r.1) (record { triple = refl; tree = refl; size = s })

cut-input : (vars : List VarInfo) (v : ℕ) (a : Triple) (x : FilterKnown)
    → next (slice_get vars v) (λ i. filter_known 0 (size_of i) 0 (size_of i) (tree.Input v) a) ≡ Some x
    → Reaches IsNoLargerCut x (next (slice_get vars v) (λ i. filter_known 0 (size_of i) 0 1 (tree.Input v) a))
cut-input vars v a x q =
    let r = next_some (slice_get vars v) (λ (i : VarInfo). filter_known 0 (size_of i) 0 (size_of i) (tree.Input v) a) x q in
    let e = r.1 in
    rw e (cut-less 0 (size_of r.0) 0 (size_of r.0) 1 (tree.Input v) a x (own-size r.0) r.2)

cut-sum : (t : Two) (a : Triple) (x y k m z : FilterKnown) → IsNoLargerCut x k → IsNoLargerCut y m →
    (if x.triple.k == y.triple.k
    then filter_known x.triple.k (x.triple.h + y.triple.h) (x.triple.e + y.triple.e) (bound_of t x.size y.size) (two_of t x.tree y.tree) a else None) ≡ Some z →
    Reaches IsNoLargerCut z (if k.triple.k == m.triple.k
    then filter_known k.triple.k (k.triple.h + m.triple.h) (k.triple.e + m.triple.e) (bound_of t k.size m.size) (two_of t k.tree m.tree) a else None)
cut-sum t a x y k m z s u q =
    let r = if_some _ _ _ q in
    let h : (k.triple.k == m.triple.k) ≡ true = rw (← s.triple, ← u.triple) r.0 in
    let c = cut-less x.triple.k (x.triple.h + y.triple.h) (x.triple.e + y.triple.e) (bound_of t x.size y.size) (bound_of t k.size m.size)
    (two_of t x.tree y.tree) a z (sizes-mono t k.size m.size x.size y.size s.size u.size) r.1 in
    rw (h, ← s.triple, ← u.triple, ← s.tree, ← u.tree) c

cut-known : (t : Two) (a : Triple) (x y k m z : FilterKnown) → IsNoLargerCut x k → IsNoLargerCut y m → two_known t a x y ≡ Some z
    → Reaches IsNoLargerCut z (two_known t a k m)
cut-known Plus a x y k m z s u q = cut-sum Plus a x y k m z s u q
cut-known Minus a x y k m z s u q = cut-sum Minus a x y k m z s u q
cut-known Times a x y k m z s u q =
    let c = cut-less (x.triple.k + y.triple.k) (x.triple.h * y.triple.h) (x.triple.h * y.triple.e + y.triple.h * x.triple.e + x.triple.e * y.triple.e)
    (x.size * y.size) (k.size * m.size) (two_of Times x.tree y.tree) a z (sizes-mono Times k.size m.size x.size y.size s.size u.size) q in
    rw (← s.triple, ← u.triple, ← s.tree, ← u.tree) c

cut-two : (t : Two) (w : Width) (a : Triple) (x y k m z : FilterKnown) → IsNoLargerCut x k → IsNoLargerCut y m
    → (if no_wider w W64 then two_known t a x y else None) ≡ Some z → Reaches IsNoLargerCut z (if no_wider w W64 then two_known t a k m else None)
cut-two t W64 a x y k m z s u q = cut-known t a x y k m z s u q
cut-two t W128 a x y k m z s u q = cc

cut-minus : (w : Width) (a : Triple) (x k z : FilterKnown) → IsNoLargerCut x k →
    (if no_wider w W64 then filter_known x.triple.k x.triple.h x.triple.e x.size (tree.Neg x.tree) a else None) ≡ Some z →
    Reaches IsNoLargerCut z (if no_wider w W64 then filter_known k.triple.k k.triple.h k.triple.e k.size (tree.Neg k.tree) a else None)
cut-minus W64 a x k z s q =
    let c = cut-less x.triple.k x.triple.h x.triple.e x.size k.size (tree.Neg x.tree) a z s.size q in
    rw (← s.triple, ← s.tree) c
cut-minus W128 a x k z s q = cc

cut-again : (x k : FilterKnown) (a : Triple) (z : FilterKnown) → IsNoLargerCut x k → filter_known x.triple.k x.triple.h x.triple.e x.size x.tree a ≡ Some z
    → Reaches IsNoLargerCut z (filter_known k.triple.k k.triple.h k.triple.e k.size k.tree a)
cut-again x k a z s q =
    let c = cut-less x.triple.k x.triple.h x.triple.e x.size k.size x.tree a z s.size q in
    rw (← s.triple, ← s.tree) c

cut-cut : (n : ℕ) (a : Triple) (x k z : FilterKnown) → IsNoLargerCut x k
    → filter_known (x.triple.k + n) (x.triple.h / 2 ^ n) (error_after n x.triple.e) x.size x.tree a ≡ Some z
    → Reaches IsNoLargerCut z (filter_known (k.triple.k + n) (k.triple.h / 2 ^ n) (error_after n k.triple.e) k.size k.tree a)
cut-cut n a x k z s q =
    let c = cut-less (x.triple.k + n) (x.triple.h / 2 ^ n) (error_after n x.triple.e) x.size k.size x.tree a z s.size q in
    rw (← s.triple, ← s.tree) c

filters-follow : (vars : List VarInfo)
    → Follows (triple_rules version_1 vars) (triple_rules version_2 vars) (λ (a : Triple). a) IsNoLargerCut (LocalsStand (Reaches IsNoLargerCut))
filters-follow vars = record {
  push = λ c a x q. cut-less a.k (unsigned_abs c / 2 ^ a.k) (push_error a.k) (unsigned_abs c) (unsigned_abs c) (tree.Num c) a x (omega arith) q;
  input = λ v a x q. cut-input vars v a x q;
  again = λ x k a z s q. cut-again x k a z s q;
  two = λ t w a x y k m z s u q. cut-two t w a x y k m z s u q;
  minus = λ w a x k z s q. cut-minus w a x k z s q;
  cut = λ n a x k z s q. cut-cut n a x k z s q;
  got = λ l m j x h q. h j x q;
  put = λ l m j x k h f. local_stands (Reaches IsNoLargerCut) l m j x (Some k) h f;
  room = λ n q. q;
}

-- ---- the law
-- what follows the rules of version 1 follows those of version 2
pub version_1_follows : Version1Follows
version_1_follows = record { block = block; filter = filter }
  where
    block : (vars : List VarInfo) (lines : List (Line Range)) (x : Known) → answer (block_rules version_1 vars) no_locals lines ≡ Some x
        → (y : Known) × (answer (block_rules version_2 vars) no_locals lines ≡ Some y) × IsNoLarger x y
    block vars lines x q =
        let a = answer_follows (block_rules version_1 vars) (block_rules version_2 vars) (λ (p : Range). p) IsNoLarger (LocalsStand (Reaches IsNoLarger))
        (blocks-follow vars) no_locals no_locals lines x (λ j y r. cc) q in
        reached_some IsNoLarger x _ (rw same_lines at a)

    filter : (vars : List VarInfo) (lines : List (Line Triple)) (x : FilterKnown) → answer (triple_rules version_1 vars) no_locals lines ≡ Some x
        → (y : FilterKnown) × (answer (triple_rules version_2 vars) no_locals lines ≡ Some y) × IsNoLargerCut x y
    filter vars lines x q =
        let a = answer_follows (triple_rules version_1 vars) (triple_rules version_2 vars) (λ (p : Triple). p) IsNoLargerCut
        (LocalsStand (Reaches IsNoLargerCut))
        (filters-follow vars) no_locals no_locals lines x (λ j y r. cc) q in
        reached_some IsNoLargerCut x _ (rw same_lines at a)

-- the engine that does what e does, with the image of each bound
abbrev pub behind_bounds : {A B V L : Type 0} → (A → B) → Engine B V L → Engine A V L
behind_bounds g e = record {
  push = λ c a. e.push c (g a);
  input = λ v a. e.input v (g a);
  again = λ x a. e.again x (g a);
  two = λ t w a x y. e.two t w (g a) x y;
  minus = λ w a x. e.minus w (g a) x;
  cut = λ n a x. e.cut n (g a) x;
  got = e.got;
  put = e.put;
  room = e.room;
}

step-behind : {A B V L : Type 0} (g : A → B) (e : Engine B V L) (op : Op) (a : A) (l : L) (s : List V) → step (behind_bounds g e) op a l s ≡ step e op (g a) l s
step-behind g e (Set j) a l (x ∷ s) = refl
step-behind g e (Add w) a l (x ∷ (y ∷ s)) = refl
step-behind g e (Sub w) a l (x ∷ (y ∷ s)) = refl
step-behind g e (Mul w) a l (x ∷ (y ∷ s)) = refl
step-behind g e (Neg w) a l (x ∷ s) = refl
step-behind g e (Cut n) a l (x ∷ s) = refl
step-behind g e op a l s = refl

next-same : {A B : Type 0} (o : Option A) (f g : A → Option B) → ((a : A) → f a ≡ g a) → next o f ≡ next o g
next-same None f g h = refl
next-same (Some a) f g h = h a

run-behind : {A B V L : Type 0} (g : A → B) (e : Engine B V L) (lines : List (Line A)) (s : State V L)
    → run (behind_bounds g e) lines s ≡ run e (relined g lines) s
run-behind g e [] s = refl
run-behind g e (x ∷ xs) s = ap (λ o. next o (λ t. run (behind_bounds g e) xs t)) (step-behind g e x.op x.bound s.locals s.stack)
    ∙ next-same (step e x.op (g x.bound) s.locals s.stack) (λ t. run (behind_bounds g e) xs t) (λ t. run e (relined g xs) t) (λ t. run-behind g e xs t)

-- its result on lines is that of e on the lines with the images of their bounds
pub answer-behind : {A B V L : Type 0} (g : A → B) (e : Engine B V L) (l : L) (lines : List (Line A))
    → answer (behind_bounds g e) l lines ≡ answer e l (relined g lines)
answer-behind g e l lines = ap (λ o. next o (λ s. only s.stack)) (run-behind g e lines (record { stack = []; locals = l }))

-- ---- from ranges to bounds
abbrev Same : Known → Bounded → Type 0
Same x k = IsSame k x

-- the bound covers what the range covers
passes : (a b : ℕ) (enough : Range) (w : Width) (size : ℕ) (t : Tree) (x : Known) → (enough.high ≤ℤ pos b → neg_ℤ (pos b) ≤ℤ enough.low → a ≤ b)
    → known enough (balanced b) w size t ≡ Some x → Reaches Same x (bounded a b w t)
passes a b enough w size t x h q =
    let s = known_some enough (balanced b) w size t x q in
    let m : nat_le a b ≡ true = le-leb _ _ (h s.0.1 s.0.0) in
    let l : b ≤ limit w = omega (arith, ints, s.1.1) in
    let n : nat_le b (limit w) ≡ true = le-leb _ _ l in
    rw (both _ _ m n, ← s.3) (record { range = refl; width = refl; tree = refl })

at-high : (m b : ℕ) → pos m ≤ℤ pos b → m ≤ b
at-high m b h = omega (arith, ints, h)

push-passes : (c : ℤ) (b : ℕ) (x : Known) → known (point c) (balanced b) (least (magnitude (balanced b))) (unsigned_abs c) (tree.Num c) ≡ Some x
    → Reaches Same x (bounded (unsigned_abs c) b (least b) (tree.Num c))
push-passes c b x q = passes (unsigned_abs c) b (point c) (least b) (unsigned_abs c) (tree.Num c) x (λ h l. omega (arith, ints, h, l))
    (subst (λ (w : Width). known (point c) (balanced b) w (unsigned_abs c) (tree.Num c) ≡ Some x) (least-balanced b) q)

input-passes : (vars : List VarInfo) (v b : ℕ) (x : Known)
    → next (slice_get vars v) (λ i. known (balanced (size_of i)) (balanced b) (least (magnitude (balanced b))) (size_of i) (tree.Input v)) ≡ Some x
    → Reaches Same x (next (slice_get vars v) (λ i. bounded (size_of i) b (least b) (tree.Input v)))
input-passes vars v b x q =
    let r =
    next_some (slice_get vars v) (λ (i : VarInfo). known (balanced (size_of i)) (balanced b) (least (magnitude (balanced b))) (size_of i) (tree.Input v)) x q in
    let e = r.1 in
    rw e (passes (size_of r.0) b (balanced (size_of r.0)) (least b) (size_of r.0) (tree.Input v) x (λ h l. at-high (size_of r.0) b h)
    (subst (λ (w : Width). known (balanced (size_of r.0)) (balanced b) w (size_of r.0) (tree.Input v) ≡ Some x) (least-balanced b) r.2))

again-passes : (x : Known) (k : Bounded) (b : ℕ) (y : Known) → Same x k
    → known x.range (balanced b) (wider x.width (least (magnitude (balanced b)))) x.size x.tree ≡ Some y
    → Reaches Same y (bounded k.bound b (wider k.width (least b)) k.tree)
again-passes x k b y s q =
    rw (← s.tree) (passes k.bound b (balanced k.bound) (wider k.width (least b)) x.size x.tree y (λ h l. at-high k.bound b h)
    (rw (s.range, s.width, least-balanced b) at q))

max-right : (a b c : ℤ) → int_max a b ≤ℤ c → b ≤ℤ c
max-right a b c h = omega (arith, ints, h, int_max_is a b)

high-bound : (t : Two) (m n b : ℕ) → (range_of t (balanced m) (balanced n)).high ≤ℤ pos b → bound_of t m n ≤ b
high-bound Plus m n b h = omega (arith, ints, h)
high-bound Minus m n b h = omega (arith, ints, h)
high-bound Times m n b h =
    let r = max-right (pos m *ℤ neg_ℤ (pos n)) (pos m *ℤ pos n) (pos b)
    (max-right (int_max (neg_ℤ (pos m) *ℤ neg_ℤ (pos n)) (neg_ℤ (pos m) *ℤ pos n)) (int_max (pos m *ℤ neg_ℤ (pos n)) (pos m *ℤ pos n)) (pos b) h) in
    at-high (m * n) b r

two-passes : (t : Two) (w : Width) (b : ℕ) (x y : Known) (k m : Bounded) (z : Known) → Same x k → Same y m →
    (if no_wider x.width w && no_wider y.width w
    then known (range_of t x.range y.range) (balanced b) w (bound_of t x.size y.size) (two_of t x.tree y.tree) else None) ≡ Some z →
    Reaches Same z (if no_wider k.width w && no_wider m.width w then bounded (bound_of t k.bound m.bound) b w (two_of t k.tree m.tree) else None)
two-passes t w b x y k m z s u q =
    let r = if_some _ _ _ q in
    let h : (no_wider k.width w && no_wider m.width w) ≡ true = rw (← s.width, ← u.width) r.0 in
    let p = passes (bound_of t k.bound m.bound) b (range_of t (balanced k.bound) (balanced m.bound)) w (bound_of t x.size y.size)
    (two_of t x.tree y.tree) z (λ i l. high-bound t k.bound m.bound b i) (rw (s.range, u.range) at r.1) in
    rw (h, ← s.tree, ← u.tree) p

minus-passes : (w : Width) (b : ℕ) (x : Known) (k : Bounded) (z : Known) → Same x k →
    (if no_wider x.width w then known (opposite x.range) (balanced b) w x.size (tree.Neg x.tree) else None) ≡ Some z →
    Reaches Same z (if no_wider k.width w then bounded k.bound b w (tree.Neg k.tree) else None)
minus-passes w b x k z s q =
    let r = if_some _ _ _ q in
    let h : no_wider k.width w ≡ true = rw (← s.width) r.0 in
    rw (h, ← s.tree) (passes k.bound b (opposite (balanced k.bound)) w x.size (tree.Neg x.tree) z (λ i l. omega (arith, ints, i, l))
    (rw s.range at r.1))

bounds-follow : (vars : List VarInfo)
    → Follows (behind_bounds balanced (block_rules version_1 vars)) (bound_rules vars) (λ (b : ℕ). b) Same (LocalsStand (Reaches Same))
bounds-follow vars = record {
  push = push-passes;
  input = input-passes vars;
  again = λ x k b y s q. again-passes x k b y s q;
  two = λ t w b x y k m z s u q. two-passes t w b x y k m z s u q;
  minus = λ w b x k z s q. minus-passes w b x k z s q;
  cut = λ n b x k z s q. cc;
  got = λ l m j x h q. h j x q;
  put = λ l m j x k h f. local_stands (Reaches Same) l m j x (Some k) h f;
  room = λ n q. q;
}

-- ---- from bounds to ranges
-- the range of a bound, and a size within it
pub record Within (k : Bounded) (x : Known) : Type 0 where
  pub range : x.range ≡ balanced k.bound
  pub width : x.width ≡ k.width
  pub tree : x.tree ≡ k.tree
  pub size : x.size ≤ k.bound

-- facts that hold where the rule of a bound held
pub record BoundedSays (a b : ℕ) (w : Width) (t : Tree) (k : Bounded) : Type 0 where
  pub covers : a ≤ b
  pub fits : b ≤ limit w
  pub is : record { bound = b; width = w; tree = t } ≡ k

bounded-says : (a b : ℕ) (w : Width) (t : Tree) (k : Bounded) → bounded a b w t ≡ Some k → BoundedSays a b w t k
bounded-says a b w t k q =
    let r = when_some _ _ _ q in
    let c = and_parts (nat_le a b) _ r.0 in
    record { covers = leb-true _ _ c.0; fits = leb-true _ _ c.1; is = r.1 }

taken : (a b n : ℕ) (enough : Range) (w : Width) (t : Tree) (k : Bounded) → (a ≤ b → Covers (balanced b) enough) → n ≤ a
    → bounded a b w t ≡ Some k → Reaches Within k (known enough (balanced b) w n t)
taken a b n enough w t k h s q =
    let r = bounded-says a b w t k q in
    let l = limit_most w in
    let e = known-is enough (balanced b) w n t (h r.covers) (balanced-within b w r.fits) (omega (arith, s, r.covers, r.fits, l)) in
    rw (e, ← r.is) (record { range = refl; width = refl; tree = refl; size = omega (arith, s, r.covers) })

push-taken : (c : ℤ) (b : ℕ) (k : Bounded) → bounded (unsigned_abs c) b (least b) (tree.Num c) ≡ Some k
    → Reaches Within k (known (point c) (balanced b) (least (magnitude (balanced b))) (unsigned_abs c) (tree.Num c))
push-taken c b k q =
    let p = taken (unsigned_abs c) b (unsigned_abs c) (point c) (least b) (tree.Num c) k
    (λ h. (omega (arith, ints, h), omega (arith, ints, h))) (omega arith) q in
    subst (λ (w : Width). Reaches Within k (known (point c) (balanced b) w (unsigned_abs c) (tree.Num c))) (sym (least-balanced b)) p

input-taken : (vars : List VarInfo) (v b : ℕ) (k : Bounded) → next (slice_get vars v) (λ i. bounded (size_of i) b (least b) (tree.Input v)) ≡ Some k
    → Reaches Within k (next (slice_get vars v) (λ i. known (balanced (size_of i)) (balanced b) (least (magnitude (balanced b))) (size_of i) (tree.Input v)))
input-taken vars v b k q =
    let r = next_some (slice_get vars v) (λ (i : VarInfo). bounded (size_of i) b (least b) (tree.Input v)) k q in
    let e = r.1 in
    let p = taken (size_of r.0) b (size_of r.0) (balanced (size_of r.0)) (least b) (tree.Input v) k
    (λ h. (omega (arith, ints, h), omega (arith, ints, h))) (omega arith) r.2 in
    rw e (subst (λ (w : Width). Reaches Within k (known (balanced (size_of r.0)) (balanced b) w (size_of r.0) (tree.Input v))) (sym (least-balanced b)) p)

again-taken : (k : Bounded) (x : Known) (b : ℕ) (m : Bounded) → Within k x → bounded k.bound b (wider k.width (least b)) k.tree ≡ Some m
    → Reaches Within m (known x.range (balanced b) (wider x.width (least (magnitude (balanced b)))) x.size x.tree)
again-taken k x b m s q =
    let p = taken k.bound b x.size (balanced k.bound) (wider k.width (least b)) k.tree m (λ h. (omega (arith, ints, h), omega (arith, ints, h))) s.size q in
    let e = least-balanced b in
    rw (s.range, s.width, s.tree, e) p

-- the four products of ends
four-ends : (m n : ℕ) (b : ℕ) → m * n ≤ b → Covers (balanced b) (range_of Times (balanced m) (balanced n))
four-ends m n b h =
    let p : pos m *ℤ pos n ≡ pos (m * n) = refl in
    let q : pos m *ℤ neg_ℤ (pos n) ≡ neg_ℤ (pos m *ℤ pos n) = mul_neg (pos m) (pos n) in
    let r : neg_ℤ (pos m) *ℤ pos n ≡ neg_ℤ (pos m *ℤ pos n) =
    mul_comm (neg_ℤ (pos m)) (pos n) ∙ mul_neg (pos n) (pos m) ∙ ap neg_ℤ (mul_comm (pos n) (pos m)) in
    let s : neg_ℤ (pos m) *ℤ neg_ℤ (pos n) ≡ neg_ℤ (neg_ℤ (pos m) *ℤ pos n) = mul_neg (neg_ℤ (pos m)) (pos n) in
    let w : ℤ = neg_ℤ (pos m) *ℤ neg_ℤ (pos n) in
    let x : ℤ = neg_ℤ (pos m) *ℤ pos n in
    let y : ℤ = pos m *ℤ neg_ℤ (pos n) in
    let z : ℤ = pos m *ℤ pos n in (
      omega (arith, ints, h, p, q, r, s, int_min_is w x, int_min_is y z, int_min_is (int_min w x) (int_min y z)),
      omega (arith, ints, h, p, q, r, s, int_max_is w x, int_max_is y z, int_max_is (int_max w x) (int_max y z)),
    )

two-covers : (t : Two) (m n b : ℕ) → bound_of t m n ≤ b → Covers (balanced b) (range_of t (balanced m) (balanced n))
two-covers Plus m n b h = (omega (arith, ints, h), omega (arith, ints, h))
two-covers Minus m n b h = (omega (arith, ints, h), omega (arith, ints, h))
two-covers Times m n b h = four-ends m n b h

two-taken : (t : Two) (w : Width) (b : ℕ) (k m : Bounded) (x y : Known) (z : Bounded) → Within k x → Within m y →
    (if no_wider k.width w && no_wider m.width w then bounded (bound_of t k.bound m.bound) b w (two_of t k.tree m.tree) else None) ≡ Some z →
    Reaches Within z (if no_wider x.width w && no_wider y.width w
    then known (range_of t x.range y.range) (balanced b) w (bound_of t x.size y.size) (two_of t x.tree y.tree) else None)
two-taken t w b k m x y z s u q =
    let r = if_some _ _ _ q in
    let h : (no_wider x.width w && no_wider y.width w) ≡ true = rw (s.width, u.width) r.0 in
    let p = taken (bound_of t k.bound m.bound) b (bound_of t x.size y.size) (range_of t (balanced k.bound) (balanced m.bound)) w
    (two_of t k.tree m.tree) z (two-covers t k.bound m.bound b) (sizes-mono t x.size y.size k.bound m.bound s.size u.size) r.1 in
    rw (h, s.range, u.range, s.tree, u.tree) p

minus-taken : (w : Width) (b : ℕ) (k : Bounded) (x : Known) (z : Bounded) → Within k x →
    (if no_wider k.width w then bounded k.bound b w (tree.Neg k.tree) else None) ≡ Some z →
    Reaches Within z (if no_wider x.width w then known (opposite x.range) (balanced b) w x.size (tree.Neg x.tree) else None)
minus-taken w b k x z s q =
    let r = if_some _ _ _ q in
    let h : no_wider x.width w ≡ true = rw s.width r.0 in
    let p = taken k.bound b x.size (opposite (balanced k.bound)) w (tree.Neg k.tree) z (λ l. (omega (arith, ints, l), omega (arith, ints, l))) s.size r.1 in
    rw (h, s.range, s.tree) p

ranges-follow : (vars : List VarInfo)
    → Follows (bound_rules vars) (behind_bounds balanced (block_rules version_1 vars)) (λ (b : ℕ). b) Within (LocalsStand (Reaches Within))
ranges-follow vars = record {
  push = push-taken;
  input = input-taken vars;
  again = λ k x b m s q. again-taken k x b m s q;
  two = λ t w b k m x y z s u q. two-taken t w b k m x y z s u q;
  minus = λ w b k x z s q. minus-taken w b k x z s q;
  cut = λ n b k x z s q. cc;
  got = λ l m j k h q. h j k q;
  put = λ l m j x k h f. local_stands (Reaches Within) l m j x (Some k) h f;
  room = λ n q. q;
}

-- ---- the law
on-ranges-is : (lines : List (Line ℕ)) → relined balanced lines ≡ on_ranges lines
on-ranges-is [] = refl
on-ranges-is (x ∷ xs) = ap (λ z. record { op = x.op; bound = balanced x.bound } ∷ z) (on-ranges-is xs)

-- on ranges from -b to b the rules of version 1 know a value exactly where those on bounds do, and the same one
pub is_on_bounds : (vars : List VarInfo) (lines : List (Line ℕ)) → IsOnBounds vars lines
is_on_bounds vars lines = record { there = there; back = back }
  where
    behind : answer (behind_bounds balanced (block_rules version_1 vars)) no_locals lines ≡ answer (block_rules version_1 vars) no_locals (on_ranges lines)
    behind = answer-behind balanced (block_rules version_1 vars) no_locals lines ∙ ap (answer (block_rules version_1 vars) no_locals) (on-ranges-is lines)

    there : (k : Bounded) → answer (bound_rules vars) no_locals lines ≡ Some k
        → (x : Known) × (answer (block_rules version_1 vars) no_locals (on_ranges lines) ≡ Some x) × IsSame k x
    there k q =
        let a = answer_follows (bound_rules vars) (behind_bounds balanced (block_rules version_1 vars)) (λ (b : ℕ). b) Within (LocalsStand (Reaches Within))
        (ranges-follow vars) no_locals no_locals lines k (λ j y r. cc) q in
        let r = reached_some Within k _ (rw same_lines at a) in
        (r.0, sym behind ∙ r.1, record { range = r.2.range; width = r.2.width; tree = r.2.tree })

    back : (x : Known) → answer (block_rules version_1 vars) no_locals (on_ranges lines) ≡ Some x
        → (k : Bounded) × (answer (bound_rules vars) no_locals lines ≡ Some k) × IsSame k x
    back x q =
        let a = answer_follows (behind_bounds balanced (block_rules version_1 vars)) (bound_rules vars) (λ (b : ℕ). b) Same (LocalsStand (Reaches Same))
        (bounds-follow vars) no_locals no_locals lines x (λ j y r. cc) (behind ∙ q) in
        let r = reached_some Same x _ (rw same_lines at a) in
        (r.0, r.1, r.2)
