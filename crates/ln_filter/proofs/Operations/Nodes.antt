-- By the rules, each node of a tree that may be written has its triple and an expression with its polynomial, from those of its operands.
use Rattle.std.proofs.Common.{◌≡◌, ℕ, ◌+◌, ◌-◌, ◌*◌, ◌/◌, ◌^◌, ◌≤◌, ◌<◌, max, true, ℤ, List, [], ◌∷◌, ◌++◌, length, refl, zero, suc}
use Rattle.std.proofs.Common.{ap, arith, pos, ◌∙◌, sym, subst, inl, inr, unsigned_abs, if◌then◌else◌}
use Rattle.std.specs.Prelude.{Option, Some, None, slice_get, ◌==◌}
use Rattle.std.specs.Int.{div_ceil}
use Rattle.std.proofs.lemmas.Bool.{le-leb, eq-eqb}
use Rattle.std.proofs.lemmas.Nat.{mul-le}
use Rattle.std.proofs.Math.Nat.{pow-suc, pow-zero, div-le_self, le_refl}
use Rattle.ln_algebra.specs.Coefficient.{Series}
use Rattle.ln_algebra.specs.Tree as tree
use Rattle.ln_algebra.specs.Tree.{Tree}
use Rattle.ln_tree.specs.declared.shape.VarInfo.{VarInfo}
use Rattle.ln_interval.specs.Range.{Range}
use Rattle.ln_bound.specs.declared.fitted.Width.{Width}
use Rattle.ln_bound.specs.declared.fitted.Width.TheVariants.{W64, W128}
use Rattle.ln_bound.specs.declared.fitted.Two.{Two}
use Rattle.ln_bound.specs.declared.fitted.Two.TheVariants.{Plus, Minus, Times}
use Rattle.ln_bound.specs.Sound.{CoversLet, running}
use Rattle.ln_bound.specs.Typed.{Typed, TNum, TInput, TLet, TNeg, TTwo, TPow, bound_of, pair, two_of, untyped, width}
use Rattle.ln_bound.specs.Value.{sizes, size_of}
use Rattle.ln_bound.specs.Widths.{limit}
use Rattle.ln_bound.proofs.Measures.Fitting as fitting
use Rattle.ln_code.specs.declared.op.Op.{Op}
use Rattle.ln_code.specs.declared.op.Op.TheVariants.{Cut, Get, Input, Mul, Neg, Push}
use Rattle.ln_code.specs.declared.op.Triple.{Triple}
use Rattle.ln_code.specs.Engine.{next, op_of}
use Rattle.ln_code.specs.FilterRules.{FilterKnown, error_after, push_error, filter_known, filter_rules, two_known}
use Rattle.ln_code.specs.StackCode.{raised_to}
use Rattle.ln_code.proofs.Following.NodeLists.{root_node}
use Rattle.ln_code.proofs.Following.Same.{Same, same_first, same_neg, same_next, same_self, same_then, same_two, same_zeroth}
use Rattle.ln_code.proofs.Building.Names.{NamesBelow, closed, size_front, size_in, size_last, sound_names, tree_front, tree_in, tree_last}
use Rattle.ln_code.proofs.Building.Operands.{root_room, sound_base, sound_left, sound_opposite, sound_right, two_tree}
use Rattle.ln_code.proofs.Building.Runs.{Cuts, Is, Trims}
use Rattle.ln_code.proofs.Building.Lands.{Beside, Facts, IsNamed}
use Rattle.ln_filter.specs.Tried.{IsSmall}
use Rattle.ln_filter.specs.Triples.{align, aligned, both, excess, leaf, powered, product_of, raw_of, sum_of, triple, trimmed, whole}
use Rattle.ln_filter.specs.Style.{cut_nothing, operands_steady}
use Rattle.ln_filter.proofs.Truncation.Steady.{powered_small, triple_small}
use Rattle.ln_filter.proofs.Operations.Lets.{triple_front, triple_last}
use Rattle.ln_filter.proofs.Operations.Style.{style_in, triple_in, triples_of}
use Rattle.ln_filter.proofs.Operations.Meaning.{Fits, IsGood, MayPush, Setting, StandsFor, at, cut_known, meaning, neg_known, number_known}
use Rattle.ln_filter.proofs.Operations.Meaning.{raw_known, variable_known}

-- ---- known values

-- a triple that covers what it has to
known_at : (k h e : ℕ) (x : FilterKnown) → x.triple.k ≡ k → h ≤ x.triple.h → e ≤ x.triple.e → Fits x
    → filter_known k h e x.size x.tree x.triple ≡ Some x
known_at k h e x y z p f =
    let b : (x.triple.k == k) ≡ true = eq-eqb x.triple.k k y in
    rw (b, le-leb h x.triple.h z, le-leb e x.triple.e p, le-leb x.triple.h (limit W64) f.number, le-leb x.size (limit W128) f.size) refl

-- a value covers itself
self_known : (k : FilterKnown) → Fits k → filter_known k.triple.k k.triple.h k.triple.e k.size k.tree k.triple ≡ Some k
self_known k f = known_at k.triple.k k.triple.h k.triple.e k refl (le_refl k.triple.h) (le_refl k.triple.e) f

cut_fits : (n : ℕ) (k : FilterKnown) → Fits k → Fits (cut_known n k)
cut_fits n k f =
    let h : k.triple.h ≤ limit W64 = f.number in
    let g : k.triple.h / 2 ^ n ≤ k.triple.h = div-le_self k.triple.h (2 ^ n) in
    record { number = omega (arith, g, h); size = f.size }

push_covers : (n : ℕ) → push_error n ≤ error_after n 0
push_covers zero = omega arith
push_covers (suc n) = at_least (div_ceil 0 (2 ^ suc n))
  where
    at_least : (c : ℕ) → 1 ≤ c + 1
    at_least c = omega arith

-- a number, whose triple covers it
number_is_known : (r : Setting) (c : ℤ) → Fits (number_known c)
    → (filter_rules r.vars r.depth).push c (leaf (unsigned_abs c)) ≡ Some (number_known c)
number_is_known r c f =
    let m : ℕ = unsigned_abs c in
    let n : ℕ = excess (unsigned_abs c) in
    let z : 0 + n ≡ n = omega arith in
    known_at (0 + n) (m / 2 ^ (0 + n)) (push_error (0 + n)) (number_known c) refl
    (subst (λ j. m / 2 ^ j ≤ m / 2 ^ n) (sym z) (le_refl (m / 2 ^ n))) (subst (λ j. push_error j ≤ error_after n 0) (sym z) (push_covers n)) f

aligned_power : (a b : ℕ) → a + (b - a) ≡ b + (a - b)
aligned_power a b = omega arith

largest_power : (a b : ℕ) → max a b ≡ a + (b - a)
largest_power a b = omega arith

at_one_power : (a b : ℕ) (o p : Option FilterKnown) → a ≡ b → o ≡ p → (if a == b then o else None) ≡ p
at_one_power a b o p e h = rw (eq-eqb a b e) h

sum_is_known : (x y : FilterKnown) (t : Tree) → Fits (at (sum_of x.triple y.triple) t (x.size + y.size))
    → (if (aligned x.triple y.triple).k == (aligned y.triple x.triple).k then filter_known (aligned x.triple y.triple).k
    ((aligned x.triple y.triple).h + (aligned y.triple x.triple).h) ((aligned x.triple y.triple).e + (aligned y.triple x.triple).e) (x.size + y.size) t
    (sum_of x.triple y.triple) else None) ≡ Some (at (sum_of x.triple y.triple) t (x.size + y.size))
sum_is_known x y t f =
    let a : Triple = aligned x.triple y.triple in
    let b : Triple = aligned y.triple x.triple in
    at_one_power a.k b.k _ _ (aligned_power x.triple.k y.triple.k) (known_at a.k (a.h + b.h) (a.e + b.e) (at (sum_of x.triple y.triple) t (x.size + y.size))
    (largest_power x.triple.k y.triple.k) (le_refl (a.h + b.h)) (le_refl (a.e + b.e)) f)

-- a sum, a difference or a product of two operands as the operation wants them
two_is_known : (k : Two) (x y : FilterKnown) → Fits (raw_known k x y) → two_known k (raw_of k x.triple y.triple)
    (cut_known (align k x.triple y.triple) x) (cut_known (align k y.triple x.triple) y) ≡ Some (raw_known k x y)
two_is_known Plus x y f = sum_is_known x y (two_of Plus x.tree y.tree) f
two_is_known Minus x y f = sum_is_known x y (two_of Minus x.tree y.tree) f
two_is_known Times x y f =
    let a : Triple = product_of x.triple y.triple in
    let first = subst (λ b. two_known Times a (at b x.tree x.size) y ≡ Some (raw_known Times x y)) (cut_nothing x.triple)
    (self_known (raw_known Times x y) f) in
    subst (λ b. two_known Times a (cut_known 0 x) (at b y.tree y.size) ≡ Some (raw_known Times x y)) (cut_nothing y.triple) first

-- a value may be pushed by any operation, where it is what the operation has
is_known : (r : Setting) (op : Op) (o : Option FilterKnown) (k : FilterKnown) (P : FilterKnown → Type 0) → MayPush r k → o ≡ Some k → P k
    → Is (meaning r) op o P
is_known r op o k P m e h = record {
  value = k;
  there = e;
  may = record { node = m.node.node; width = m.node.width; there = m.node.there; same = λ i. ap (λ (g : Series). g i) m.node.same.series };
  stands = h;
}

-- a value after its division
cut_is : (r : Setting) (lets : List Typed) (n : ℕ) (k : FilterKnown) (P : FilterKnown → Type 0) → MayPush r k → P (cut_known n k)
    → Cuts (meaning r) (style_in r.vars lets) n k.triple P k
cut_is r lets zero k P m h = subst P (ap (λ (a : Triple). at a k.tree k.size) (sym (cut_nothing k.triple))) h
cut_is r lets (suc n) k P m h =
    let f = cut_fits (suc n) k m.fits in
    is_known r (Cut (suc n)) _ (cut_known (suc n) k) P (record { fits = f; node = m.node }) (self_known (cut_known (suc n) k) f) h

-- an operation and the division that leaves 31 binary digits
trim_is : (r : Setting) (lets : List Typed) (op : Op) (o : Option FilterKnown) (k : FilterKnown) (P : FilterKnown → Type 0) → MayPush r k → o ≡ Some k
    → P (at (trimmed k.triple) k.tree k.size) → Trims (meaning r) (style_in r.vars lets) op k.triple P o
trim_is r lets op o k P m e h = is_known r op o k _ m e (cut_is r lets (excess k.triple.h) k P m h)

-- ---- sizes

small_narrow : (a : Triple) → IsSmall a → a.h ≤ limit W64
small_narrow a s = let h = s.size in omega arith

sum_narrow : (a b : Triple) → IsSmall a → IsSmall b → (sum_of a b).h ≤ limit W64
sum_narrow a b s t =
    let h = s.size in
    let k = t.size in
    let p : a.h / 2 ^ (b.k - a.k) ≤ a.h = div-le_self a.h (2 ^ (b.k - a.k)) in
    let q : b.h / 2 ^ (a.k - b.k) ≤ b.h = div-le_self b.h (2 ^ (a.k - b.k)) in
    plain (a.h / 2 ^ (b.k - a.k)) (b.h / 2 ^ (a.k - b.k)) a.h b.h p q h k
  where
    plain : (x y m n : ℕ) → x ≤ m → y ≤ n → m < 2 ^ 31 → n < 2 ^ 31 → x + y ≤ limit W64
    plain x y m n p q h k = omega arith

product_narrow : (a b : Triple) → IsSmall a → IsSmall b → (product_of a b).h ≤ limit W64
product_narrow a b s t = plain a.h b.h s.size t.size
  where
    plain : (x y : ℕ) → x < 2 ^ 31 → y < 2 ^ 31 → x * y ≤ limit W64
    plain x y h k =
        let m : x * y ≤ 2147483648 * 2147483648 = mul-le x y 2147483648 2147483648 (omega arith) (omega arith) in
        let n : 2147483648 * 2147483648 ≡ 4611686018427387904 = refl in
        omega arith

-- the result of an operation on two small triples fits 64 bits before it is cut
raw_narrow : (k : Two) (a b : Triple) → IsSmall a → IsSmall b → (raw_of k a b).h ≤ limit W64
raw_narrow Plus a b s t = sum_narrow a b s t
raw_narrow Minus a b s t = sum_narrow a b s t
raw_narrow Times a b s t = product_narrow a b s t

bound_le : (k : Two) (m n p q : ℕ) → m ≤ p → n ≤ q → bound_of k m n ≤ bound_of k p q
bound_le Plus m n p q h i = omega arith
bound_le Minus m n p q h i = omega arith
bound_le Times m n p q h i = mul-le m n p q h i

-- ---- trees

-- the triple of a tree that may be written is small
pub good_small : (r : Setting) (lets : List Typed) (t : Typed) → IsGood r lets t → IsSmall (triple_in r.vars lets t)
good_small r lets t g = triple_small r.vars (triples_of r.vars lets) (untyped t) g.small g.steady

-- a value that stands for a tree that may be written may be pushed
may_push : (r : Setting) (lets : List Typed) (t : Typed) (v : FilterKnown) → IsGood r lets t → StandsFor r lets t v → MayPush r v
may_push r lets t v g x =
    let s = g.sound in
    let f = x.fits in
    let h = root_room (running lets) (untyped t) s.sizes in
    record {
      fits = record { number = rw x.triple (small_narrow (triple_in r.vars lets t) (good_small r lets t g)); size = omega (arith, f, h) };
      node = record { node = tree_in lets t; width = width t; there = g.nodes (tree_in lets t) (width t) (root_node (closed lets) t); same = x.same };
    }

-- an operation that leaves such a value
stands_is : (r : Setting) (lets : List Typed) (t : Typed) (op : Op) (o : Option FilterKnown) (v : FilterKnown) → IsGood r lets t → StandsFor r lets t v
    → (Fits v → o ≡ Some v) → Is (meaning r) op o (StandsFor r lets t)
stands_is r lets t op o v g x e = let m = may_push r lets t v g x in is_known r op o v (StandsFor r lets t) m (e m.fits) x

-- a number is pushed
push_is : (r : Setting) (lets : List Typed) (t : Typed) (c : ℤ) → leaf (unsigned_abs c) ≡ triple_in r.vars lets t → IsGood r lets t
    → unsigned_abs c ≤ size_in lets t → Same (tree.Num c) (tree_in lets t)
    → Is (meaning r) (Push c) ((filter_rules r.vars r.depth).push c (triple_in r.vars lets t)) (StandsFor r lets t)
push_is r lets t c e g f q = subst (λ a. Is (meaning r) (Push c) ((filter_rules r.vars r.depth).push c a) (StandsFor r lets t)) e
    (stands_is r lets t (Push c) _ (number_known c) g (record { triple = e; fits = f; same = q }) (number_is_known r c))

size_there : (vars : List VarInfo) (v : ℕ) → v < length vars → (i : VarInfo) × (slice_get vars v ≡ Some i) × (sizes vars v ≡ size_of i)
size_there [] v h = absurd (omega arith)
size_there (i ∷ is) zero h = (i, refl, refl)
size_there (i ∷ is) (suc v) h = size_there is v (omega arith)

-- a variable
input_is : (r : Setting) (lets : List Typed) (v : ℕ) (p : Range) (w : Width) → sizes r.vars v < 2 ^ 63 → IsGood r lets (TInput v p w)
    → Trims (meaning r) (style_in r.vars lets) (Input v) (whole (sizes r.vars v)) (StandsFor r lets (TInput v p w))
    ((filter_rules r.vars r.depth).input v (whole (sizes r.vars v)))
input_is r lets v p w n g =
    let i = g.sound.nodes in
    let m : MayPush r (variable_known r.vars v) = record {
      fits = record { number = omega (arith, n); size = omega arith };
      node = record { node = tree.Input v; width = w; there = g.nodes (tree.Input v) w (refl, refl); same = same_self (tree.Input v) };
    } in
    let x = size_there r.vars v i.0 in
    let e : size_of x.0 ≡ sizes r.vars v = sym x.2 in
    let k : filter_known 0 (sizes r.vars v) 0 1 (tree.Input v) (whole (sizes r.vars v)) ≡ Some (variable_known r.vars v) = self_known
    (variable_known r.vars v) m.fits in
    let q : next (slice_get r.vars v) (λ i. filter_known 0 (size_of i) 0 1 (tree.Input v) (whole (sizes r.vars v)))
    ≡ Some (variable_known r.vars v) = rw (x.1, e) k in
    trim_is r lets (Input v) _ (variable_known r.vars v) (StandsFor r lets (TInput v p w)) m q
    (record { triple = refl; fits = le_refl 1; same = same_self (tree.Input v) })

-- a value from a local
get_is : (r : Setting) (lets : List Typed) (t : Typed) (j : ℕ) (v : FilterKnown) → IsGood r lets t → StandsFor r lets t v
    → Is (meaning r) (Get j) ((filter_rules r.vars r.depth).again v (triple_in r.vars lets t)) (StandsFor r lets t)
get_is r lets t j v g x = subst (λ a. Is (meaning r) (Get j) ((filter_rules r.vars r.depth).again v a) (StandsFor r lets t)) x.triple
    (stands_is r lets t (Get j) _ v g x (self_known v))

-- where its range is covered there is such a let
pub let_there : (o : Option Typed) (p : Range) (w : Width) → CoversLet o p w → (u : Typed) × (o ≡ Some u)
let_there None p w h = absurd h
let_there (Some u) p w h = (u, refl)

-- a let, from its local
name_is : (r : Setting) (lets : List Typed) (j : ℕ) (p : Range) (w : Width) → IsGood r lets (TLet j p w) → IsNamed (meaning r) lets j p w
name_is r lets j p w g =
    let i = g.sound.nodes in
    let u = let_there (slice_get lets j) p w i.0 in
    record {
      named = u.0;
      there = u.1;
      leads = λ v x. get_is r lets (TLet j p w) j v g (record { triple = x.triple; fits = x.fits; same = x.same });
    }

-- a negation
neg_is : (r : Setting) (lets : List Typed) (t : Typed) (p : Range) (w : Width) (v : FilterKnown) → IsGood r lets (TNeg t p w) → StandsFor r lets t v
    → Is (meaning r) (Neg W64) ((filter_rules r.vars r.depth).minus W64 (triple_in r.vars lets t) v) (StandsFor r lets (TNeg t p w))
neg_is r lets t p w v g x =
    subst (λ a. Is (meaning r) (Neg W64) ((filter_rules r.vars r.depth).minus W64 a v) (StandsFor r lets (TNeg t p w))) x.triple
    (stands_is r lets (TNeg t p w) (Neg W64) _ (neg_known v) g
    (record { triple = x.triple; fits = x.fits; same = same_neg v.tree (tree_in lets t) x.same }) (self_known (neg_known v)))

-- ---- sums, differences and products

-- what is known of both operands of a raw value: it fits
raw_fits : (r : Setting) (lets : List Typed) (o : Two) (t u : Typed) (x y : FilterKnown) → IsGood r lets t → IsGood r lets u
    → x.triple ≡ triple_in r.vars lets t → y.triple ≡ triple_in r.vars lets u → bound_of o x.size y.size ≤ limit W128 → Fits (raw_known o x y)
raw_fits r lets o t u x y g h a b s =
    let p : IsSmall x.triple = rw a (good_small r lets t g) in
    let q : IsSmall y.triple = rw b (good_small r lets u h) in
    record { number = raw_narrow o x.triple y.triple p q; size = s }

-- the operands of an operation on two that may be written
good_two : (r : Setting) (lets : List Typed) (o : Two) (t u : Typed) (p : Range) (w : Width) → IsGood r lets (TTwo o t u p w)
    → IsGood r lets t × IsGood r lets u
good_two r lets o t u p w g =
    let k = operands_steady r.vars (triples_of r.vars lets) o (untyped t) (untyped u) g.steady in (
      record { sound = sound_left g.sound; steady = k.0; small = g.small; nodes = λ e v h. g.nodes e v (inl (inl h)) },
      record { sound = sound_right g.sound; steady = k.1; small = g.small; nodes = λ e v h. g.nodes e v (inl (inr h)) },
    )

-- the triple of an operation on two is that of the operands' triples
two_triple : (vars : List VarInfo) (lets : List Triple) (k : Two) (x y : Tree)
    → triple vars lets (two_of k x y) ≡ both k (triple vars lets x) (triple vars lets y)
two_triple vars lets Plus x y = refl
two_triple vars lets Minus x y = refl
two_triple vars lets Times x y = refl

-- the right operand's value, divided, and the operation, where the operands have the triples a and b
abbrev Right : (r : Setting) (lets : List Typed) (o : Two) (t u : Typed) (p : Range) (w : Width) (x y : FilterKnown) (a b : Triple) → Type 0
Right r lets o t u p w x y a b = Cuts (meaning r) (style_in r.vars lets) (align o b a) b (λ z. Trims (meaning r) (style_in r.vars lets) (op_of o W64)
    (raw_of o a b) (StandsFor r lets (TTwo o t u p w)) ((filter_rules r.vars r.depth).two o W64 (raw_of o a b) (cut_known (align o a b) x) z)) y

two_right : (r : Setting) (lets : List Typed) (o : Two) (t u : Typed) (p : Range) (w : Width) (x y : FilterKnown) → IsGood r lets (TTwo o t u p w)
    → StandsFor r lets t x → StandsFor r lets u y → Right r lets o t u p w x y x.triple y.triple
two_right r lets o t u p w x y g i j =
    let z = good_two r lets o t u p w g in
    let forms = two_tree (closed lets) (running lets) o (untyped t) (untyped u) in
    let s : Same (two_of o x.tree y.tree) (tree_in lets (TTwo o t u p w)) =
    rw forms.expression (same_two o x.tree (tree_in lets t) y.tree (tree_in lets u) i.same j.same) in
    let f : bound_of o x.size y.size ≤ size_in lets (TTwo o t u p w) =
    rw forms.weight (bound_le o x.size y.size (size_in lets t) (size_in lets u) i.fits j.fits) in
    let c : trimmed (raw_of o x.triple y.triple) ≡ triple_in r.vars lets (TTwo o t u p w) =
    rw (i.triple, j.triple) (sym (two_triple r.vars (triples_of r.vars lets) o (untyped t) (untyped u))) in
    let v = may_push r lets (TTwo o t u p w) (at (trimmed (raw_of o x.triple y.triple)) (two_of o x.tree y.tree) (bound_of o x.size y.size)) g
    (record { triple = c; fits = f; same = s }) in
    let m : MayPush r (raw_known o x y) = record { fits = raw_fits r lets o t u x y z.0 z.1 i.triple j.triple v.fits.size; node = v.node } in
    cut_is r lets (align o y.triple x.triple) y _ (may_push r lets u y z.1 j)
    (trim_is r lets (op_of o W64) _ (raw_known o x y) (StandsFor r lets (TTwo o t u p w)) m (two_is_known o x y m.fits)
    (record { triple = c; fits = f; same = s }))

two_is : (r : Setting) (lets : List Typed) (o : Two) (t u : Typed) (p : Range) (w : Width) (x : FilterKnown) → IsGood r lets (TTwo o t u p w)
    → StandsFor r lets t x → Cuts (meaning r) (style_in r.vars lets) (align o (triple_in r.vars lets t) (triple_in r.vars lets u)) (triple_in r.vars lets t)
    (Beside (meaning r) lets o t u p w) x
two_is r lets o t u p w x g i =
    let a : Triple = triple_in r.vars lets t in
    let b : Triple = triple_in r.vars lets u in
    let z = good_two r lets o t u p w g in
    subst (λ c. Cuts (meaning r) (style_in r.vars lets) (align o a b) c (Beside (meaning r) lets o t u p w) x) i.triple
    (cut_is r lets (align o a b) x (Beside (meaning r) lets o t u p w) (may_push r lets t x z.0 i)
    (λ y j. subst (λ c. Right r lets o t u p w x y c b) i.triple (subst (λ c. Right r lets o t u p w x y x.triple c) j.triple
    (two_right r lets o t u p w x y g i j))))

-- ---- powers

-- one more factor
factor_is : (r : Setting) (lets : List Typed) (t : Typed) (n i : ℕ) (p : Range) (w : Width) (x z : FilterKnown) → IsGood r lets (TPow t (suc n) p w)
    → IsGood r lets t → suc i ≤ n → StandsFor r lets t x → StandsFor r lets (raised_to t (suc i) w) z
    → Trims (meaning r) (style_in r.vars lets) (Mul W64) (product_of (powered (triple_in r.vars lets t) (suc i)) (triple_in r.vars lets t))
    (StandsFor r lets (raised_to t (suc (suc i)) w))
    ((filter_rules r.vars r.depth).two Times W64 (product_of (powered (triple_in r.vars lets t) (suc i)) (triple_in r.vars lets t)) z x)
factor_is r lets t n i p w x z g b h k l =
    let a : Triple = triple_in r.vars lets t in
    let s : Same (tree.Mul z.tree x.tree) (tree.Pow (tree_in lets t) (suc (suc i))) = same_next (tree_in lets t) x.tree z.tree (suc i) k.same l.same in
    let room = g.sound.sizes in
    let c : size_in lets t ^ suc (suc i) ≤ limit W128 = fitting.lower (size_in lets t) (suc (suc i)) (suc n) (omega (arith, h)) room.1 in
    let f : z.size * x.size ≤ size_in lets t ^ suc (suc i) =
    rw pow-suc (mul-le z.size x.size (size_in lets t ^ suc i) (size_in lets t) l.fits k.fits) in
    let q : IsSmall x.triple = rw k.triple (good_small r lets t b) in
    let small : IsSmall z.triple = rw l.triple (powered_small a (suc i) (good_small r lets t b) (λ m y o. g.steady.1 m y (omega (arith, o, h)))) in
    let m : MayPush r (raw_known Times z x) = record {
      fits = record { number = raw_narrow Times z.triple x.triple small q; size = omega (arith, f, c) };
      node = record {
        node = tree.Pow (tree_in lets t) (suc (suc i));
        width = w;
        there = g.nodes (tree.Pow (tree_in lets t) (suc (suc i))) w (inr (suc (suc i), omega (arith, h), refl, refl));
        same = s;
      };
    } in
    let e : product_of z.triple x.triple ≡ product_of (powered a (suc i)) a = rw (l.triple, k.triple) refl in
    subst (λ d. Trims (meaning r) (style_in r.vars lets) (Mul W64) d (StandsFor r lets (raised_to t (suc (suc i)) w))
    ((filter_rules r.vars r.depth).two Times W64 d z x)) e
    (trim_is r lets (Mul W64) _ (raw_known Times z x) (StandsFor r lets (raised_to t (suc (suc i)) w)) m (self_known (raw_known Times z x) m.fits)
    (record { triple = ap (λ d. trimmed d) e; fits = f; same = s }))

-- a value is its first power
first_stands : (r : Setting) (lets : List Typed) (t : Typed) (w : Width) (v : FilterKnown) → StandsFor r lets t v → StandsFor r lets (raised_to t 1 w) v
first_stands r lets t w v x =
    let e : size_in lets t ^ 1 ≡ size_in lets t = (let a = pow-suc (size_in lets t) 0 in let b = pow-zero (size_in lets t) in
    let k : size_in lets t ^ 0 * size_in lets t ≡ 1 * size_in lets t = ap (λ m. m * size_in lets t) b in omega (arith, a, k)) in
    record {
      triple = x.triple;
      fits = rw e x.fits;
      same = same_then v.tree (tree_in lets t) (tree.Pow (tree_in lets t) 1) x.same (same_first
          (tree_in lets t));
    }

-- ---- one let more

old_stands : (r : Setting) (lets : List Typed) (t u : Typed) (v : FilterKnown) → NamesBelow (length lets) (untyped u) → StandsFor r lets u v
    → StandsFor r (lets ++ (t ∷ [])) u v
old_stands r lets t u v n x =
    let b : size_in (lets ++ (t ∷ [])) u ≡ size_in lets u = size_front lets t u n in
    let c : tree_in (lets ++ (t ∷ [])) u ≡ tree_in lets u = tree_front lets t u n in
    record { triple = x.triple ∙ sym (triple_front r.vars (λ i. pos 0) lets t u n); fits = rw b x.fits; same = rw c x.same }

new_stands : (r : Setting) (lets : List Typed) (t : Typed) (v : FilterKnown) → StandsFor r lets t v
    → StandsFor r (lets ++ (t ∷ [])) (TLet (length lets) (pair t) (width t)) v
new_stands r lets t v x =
    let b : size_in (lets ++ (t ∷ [])) (TLet (length lets) (pair t) (width t)) ≡ size_in lets t = size_last lets t (pair t) (width t) in
    let c : tree_in (lets ++ (t ∷ [])) (TLet (length lets) (pair t) (width t)) ≡ tree_in lets t = tree_last lets t (pair t) (width t) in
    record { triple = x.triple ∙ sym (triple_last r.vars (λ i. pos 0) lets t (pair t) (width t)); fits = rw b x.fits; same = rw c x.same }

-- ---- all nodes

base_good : (r : Setting) (lets : List Typed) (t : Typed) (n : ℕ) (p : Range) (w : Width) → IsGood r lets (TPow t n p w) → IsGood r lets t
base_good r lets t n p w g =
    record { sound = sound_base g.sound; steady = g.steady.0; small = g.small; nodes = λ e v h. g.nodes e v (inl h) }

-- each node of a tree that may be written
pub facts : (r : Setting) → 2048 ≤ r.depth → ((v : ℕ) → sizes r.vars v < 2 ^ 63) → Facts (meaning r)
facts r room narrow = record {
  machine = record { room = λ n h. le-leb n r.depth h; got = λ l j. refl; put = λ l j v. refl };
  at_number = λ lets c p w g. push_is r lets (TNum c p w) c refl g (le_refl (unsigned_abs c)) (same_self (tree.Num c));
  at_variable = λ lets i p w g. input_is r lets i p w (narrow i) g;
  at_zeroth = λ lets t p w g. push_is r lets (TPow t zero p w) (pos 1) refl g
      (let n : size_in lets t ^ 0 ≡ 1 = pow-zero (size_in lets t) in omega (arith, n)) (same_zeroth (tree_in lets t));
  at_again = λ lets t j x g h. get_is r lets t j x g h;
  at_name = λ lets j p w g. name_is r lets j p w g;
  at_opposite = λ lets t p w x g h. neg_is r lets t p w x g h;
  at_two = λ lets o t u p w x g h. two_is r lets o t u p w x g h;
  at_first = λ lets t n p w x g h. first_stands r lets t w x h;
  at_factor = λ lets t n i p w x z g k h b. factor_is r lets t n i p w x z g (base_good r lets t (suc n) p w g) k h b;
  at_power = λ lets t n p w x g h. record { triple = h.triple; fits = h.fits; same = h.same };
  operand = λ lets t p w g. record { sound = sound_opposite g.sound; steady = g.steady; small = g.small; nodes = λ e v h. g.nodes e v (inl h) };
  left = λ lets o t u p w g. let z = good_two r lets o t u p w g in z.0;
  right = λ lets o t u p w g. let z = good_two r lets o t u p w g in z.1;
  base = λ lets t n p w g. base_good r lets t n p w g;
  deep = λ lets t g. let s = g.sound in let d = s.deep in omega (arith, d, room);
  let_stands = λ lets t. record { old = λ u v n x. old_stands r lets t u v n x; new = λ v x. new_stands r lets t v x };
  names = λ lets t g. let s = g.sound in sound_names r.vars lets t s.nodes;
}
