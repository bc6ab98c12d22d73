-- Each node of a sound tree has its value by the rules, from those of its operands.
use Rattle.std.proofs.Common.{◌≡◌, inl, inr, ℕ, ℤ, ◌≤◌, ◌<◌, true, List, [], ◌∷◌, length, refl, zero, suc, ap₂, arith, pos, sym, subst, ◌∙◌, unsigned_abs}
use Rattle.std.specs.Prelude.{Option, Some, None, slice_get}
use Rattle.std.proofs.lemmas.Bool.{le-leb}
use Rattle.std.proofs.Math.Nat.{pow-suc, pow-zero}
use Rattle.ln_algebra.specs.Tree as tree
use Rattle.ln_algebra.specs.Tree.{Tree}
use Rattle.ln_tree.specs.declared.shape.VarInfo.{VarInfo}
use Rattle.ln_interval.specs.Range.{Range, Covers, magnitude, opposite, point, power}
use Rattle.ln_interval.proofs.Magnitudes.{power_ordered}
use Rattle.ln_interval.proofs.Monotone.{covers_self, covers_then, lower_power, opposite_covers}
use Rattle.ln_bound.specs.declared.fitted.Width.{Width}
use Rattle.ln_bound.specs.declared.fitted.Two.{Two}
use Rattle.ln_bound.specs.declared.fitted.Two.TheVariants.{Plus, Minus, Times}
use Rattle.ln_bound.specs.Ranges.{ranges}
use Rattle.ln_bound.specs.Sound.{CoversLet, IsIn, SoundNodes, running}
use Rattle.ln_bound.specs.Typed.{Typed, TNum, TInput, TLet, TNeg, TTwo, TPow, pair, range_of, width, untyped, bound_of, two_of}
use Rattle.ln_bound.specs.Widths.{least, limit, no_wider, wider}
use Rattle.ln_bound.proofs.Measures.Fitting as fitting
use Rattle.ln_code.specs.declared.op.Op.TheVariants.{Get, Input, Neg, Push}
use Rattle.ln_code.specs.Engine.{op_of}
use Rattle.ln_code.specs.Rules.{Known, declared, rules}
use Rattle.ln_code.specs.StackCode.{raised_to}
use Rattle.ln_code.proofs.Following.NodeLists.{root_node}
use Rattle.ln_code.proofs.Following.Same.{Same, same_first, same_is, same_neg, same_next, same_self, same_then, same_two, same_zeroth}
use Rattle.ln_code.proofs.Building.Names.{closed, size_front, size_in, size_last, sound_names, tree_front, tree_in, tree_last}
use Rattle.ln_code.proofs.Building.Operands.{root_room, sound_base, sound_left, sound_opposite, sound_right, two_tree}
use Rattle.ln_code.proofs.Building.Runs.{Is}
use Rattle.ln_code.proofs.Building.Lands.{Facts, IsNamed}
use Rattle.ln_lower.specs.Nodes.{HasWidth}
use Rattle.ln_lower.proofs.Subtrees.Bounding.{known_is, least_in, least_narrow, no_wider_self, no_wider_trans, power_one, size_one, some_limit}
use Rattle.ln_lower.proofs.Subtrees.Bounding.{two_covers, wider_in, wider_narrow}
use Rattle.ln_lower.proofs.Operations.Meaning.{IsAllowed, IsGood, Setting, StandsFor, is_one, meaning, rooted, small_as, stands_wider, wanted}

-- the range of a sound node is one, and fits its width
pub sound_in : (vars : List VarInfo) (lets : List Typed) (t : Typed) → SoundNodes vars lets t → IsIn (pair t) (width t)
sound_in vars lets (TNum c p w) s = s.1
sound_in vars lets (TInput v p w) s = s.2
sound_in vars lets (TLet j p w) s = s.1
sound_in vars lets (TNeg t p w) s = s.2
sound_in vars lets (TTwo k u t p w) s = s.3
sound_in vars lets (TPow t n p w) s = s.2

-- the value of a tree that may be written is allowed
tree_allowed : (at : Setting) (lets : List Typed) (t : Typed) → IsGood at lets t → IsAllowed at (wanted lets t)
tree_allowed at lets t g =
    let s = g.sound in
    record {
      fits = sound_in at.vars lets t s.nodes;
      small = root_room (running lets) (untyped t) s.sizes;
      node = g.nodes (tree_in lets t) (width t) (root_node (closed lets) t);
    }

-- ---- values

-- a number
push_is : (at : Setting) (c : ℤ) (want : Known) → Covers want.range (point c) → unsigned_abs c ≡ want.size → Same (tree.Num c) want.tree → IsAllowed at want
    → Is (meaning at) (Push c) ((rules at.vars at.depth).push c want.range) (StandsFor want)
push_is at c want cv e q ok =
    let p : Range = want.range in
    let w : Width = least (magnitude want.range) in
    is_one at (Push c) want w (tree.Num c) (unsigned_abs c) _ ok (least_narrow (magnitude p) want.width ok.fits.1) e q tt
    (known_is (point c) p w (unsigned_abs c) (tree.Num c) cv (least_in p want.width ok.fits) (small_as e ok.small))

-- the range of a variable
range_there : (vars : List VarInfo) (v : ℕ) → v < length vars → (i : VarInfo) × (slice_get vars v ≡ Some i) × (ranges vars v ≡ declared i)
range_there [] v h = absurd (omega arith)
range_there (i ∷ is) zero h = (i, refl, refl)
range_there (i ∷ is) (suc v) h = range_there is v (omega arith)

-- a variable
input_is : (at : Setting) (lets : List Typed) (v : ℕ) (p : Range) (w : Width) → IsGood at lets (TInput v p w)
    → Is (meaning at) (Input v) ((rules at.vars at.depth).input v p) (StandsFor (wanted lets (TInput v p w)))
input_is at lets v p w t =
    let n = t.sound.nodes in
    let ok = tree_allowed at lets (TInput v p w) t in
    let g = range_there at.vars v n.0 in
    let cv : Covers p (declared g.0) = rw (← g.2) n.1 in
    let u : Width = least (magnitude p) in
    is_one at (Input v) (wanted lets (TInput v p w)) u (tree.Input v) 1 _ ok (least_narrow (magnitude p) w ok.fits.1) refl (same_self (tree.Input v)) tt
    (rw g.1 (known_is (declared g.0) p u 1 (tree.Input v) cv (least_in p w ok.fits) (omega arith)))

-- a value from a local
get_is : (at : Setting) (j : ℕ) (want x : Known) → StandsFor want x → IsAllowed at want
    → Is (meaning at) (Get j) ((rules at.vars at.depth).again x want.range) (StandsFor want)
get_is at j want x h ok =
    let p : Range = want.range in
    let v : Width = wider x.width (least (magnitude want.range)) in
    let n = wider_narrow x.width (least (magnitude p)) want.width h.narrow (least_narrow (magnitude p) want.width ok.fits.1) in
    is_one at (Get j) want v x.tree x.size _ ok n h.size h.same tt
    (known_is x.range p v x.size x.tree h.covered (wider_in p x.width want.width ok.fits) (small_as h.size ok.small))

-- a negation
neg_is : (at : Setting) (lets : List Typed) (t : Typed) (p : Range) (w : Width) (u : Known) → IsGood at lets (TNeg t p w) → StandsFor (wanted lets t) u
    → Is (meaning at) (Neg w) ((rules at.vars at.depth).minus w p u) (StandsFor (wanted lets (TNeg t p w)))
neg_is at lets t p w u g x =
    let n = g.sound.nodes in
    let ok = tree_allowed at lets (TNeg t p w) g in
    let cv = covers_then p (opposite (pair t)) (opposite u.range) n.1 (opposite_covers (pair t) u.range x.covered) in
    let m : no_wider u.width w ≡ true = no_wider_trans u.width (width t) w x.narrow n.3 in
    is_one at (Neg w) (wanted lets (TNeg t p w)) w (tree.Neg u.tree) u.size _ ok (no_wider_self w) x.size (same_neg u.tree (tree_in lets t) x.same) refl
    (rw m (known_is (opposite u.range) p w u.size (tree.Neg u.tree) cv ok.fits (small_as x.size ok.small)))

-- ---- sums, differences and products

two_width : (k : Two) (w : Width) → HasWidth (op_of k w) w
two_width Plus w = refl
two_width Minus w = refl
two_width Times w = refl

-- the sum, difference or product of the first two values is allowed as the third: that covers what the operation leaves, is at least as wide as
-- either operand, and has the size and the polynomial of the operation
record TwoAllowed (at : Setting) (k : Two) (a b want : Known) : Type 0 where
  covers : Covers want.range (range_of k a.range b.range)
  first : no_wider a.width want.width ≡ true
  second : no_wider b.width want.width ≡ true
  size : bound_of k a.size b.size ≡ want.size
  same : Same (two_of k a.tree b.tree) want.tree
  allowed : IsAllowed at want

two_is : (at : Setting) (k : Two) (a b want u v : Known) → StandsFor a u → StandsFor b v → TwoAllowed at k a b want
    → Is (meaning at) (op_of k want.width) ((rules at.vars at.depth).two k want.width want.range u v) (StandsFor want)
two_is at k a b want u v x y ok =
    let p : Range = want.range in
    let w : Width = want.width in
    let e : bound_of k u.size v.size ≡ want.size = ap₂ (bound_of k) x.size y.size ∙ ok.size in
    let q = same_then (two_of k u.tree v.tree) (two_of k a.tree b.tree) want.tree (same_two k u.tree a.tree v.tree b.tree x.same y.same) ok.same in
    let cv = covers_then p (range_of k a.range b.range) (range_of k u.range v.range) ok.covers
    (two_covers k a.range b.range u.range v.range x.ordered y.ordered x.covered y.covered) in
    let m : no_wider u.width w ≡ true = no_wider_trans u.width a.width w x.narrow ok.first in
    let n : no_wider v.width w ≡ true = no_wider_trans v.width b.width w y.narrow ok.second in
    let ok' = ok.allowed in
    is_one at (op_of k w) want w (two_of k u.tree v.tree) (bound_of k u.size v.size) _ ok' (no_wider_self w) e q (two_width k w)
    (rw (m, n) (known_is (range_of k u.range v.range) p w (bound_of k u.size v.size) (two_of k u.tree v.tree) cv ok'.fits (small_as e ok'.small)))

-- a sound sum, difference or product is allowed of its operands
two_allowed : (at : Setting) (lets : List Typed) (k : Two) (t u : Typed) (p : Range) (w : Width) → IsGood at lets (TTwo k t u p w)
    → TwoAllowed at k (wanted lets t) (wanted lets u) (wanted lets (TTwo k t u p w))
two_allowed at lets k t u p w g =
    let n = g.sound.nodes in
    let x = two_tree (closed lets) (running lets) k (untyped t) (untyped u) in
    record {
      covers = n.2;
      first = n.4;
      second = n.5;
      size = sym x.weight;
      same = same_is (two_of k (tree_in lets t) (tree_in lets u)) (tree_in lets (TTwo k t u p w)) (sym x.expression);
      allowed = tree_allowed at lets (TTwo k t u p w) g;
    }

-- ---- powers

-- each power on the way to one that may be written is allowed
power_allowed : (at : Setting) (lets : List Typed) (t : Typed) (n k : ℕ) (p : Range) (w : Width) → IsGood at lets (TPow t n p w) → k ≤ n
    → IsAllowed at (wanted lets (raised_to t k w))
power_allowed at lets t n k p w g h =
    let s = g.sound in
    let i = s.nodes.2 in
    record {
      fits = (power_ordered (pair t) k, lower_power (pair t) p (limit w) k n (some_limit w) h s.nodes.1 i.1);
      small = fitting.lower (size_in lets t) k n h s.sizes.1;
      node = g.nodes (tree.Pow (tree_in lets t) k) w (inr (k, h, refl, refl));
    }

-- a value is its first power
first_stands : (at : Setting) (lets : List Typed) (t : Typed) (n : ℕ) (p : Range) (w : Width) (v : Known) → IsGood at lets (TPow t (suc n) p w)
    → StandsFor (wanted lets t) v → StandsFor (wanted lets (raised_to t 1 w)) v
first_stands at lets t n p w v g x =
    let s = g.sound.nodes in
    let o = sound_in at.vars lets t s.0 in
    record {
      covered = subst (λ r. Covers r v.range) (sym (power_one (pair t) o.0)) x.covered;
      ordered = x.ordered;
      narrow = no_wider_trans v.width (width t) w x.narrow s.3;
      size = x.size ∙ sym (size_one (size_in lets t));
      same = same_then v.tree (tree_in lets t) (tree.Pow (tree_in lets t) 1) x.same (same_first (tree_in lets t));
    }

-- one more factor
factor_allowed : (at : Setting) (lets : List Typed) (t : Typed) (n i : ℕ) (p : Range) (w : Width) → IsGood at lets (TPow t (suc n) p w) → suc i ≤ n
    → TwoAllowed at Times (wanted lets (raised_to t (suc i) w)) (wanted lets t) (wanted lets (raised_to t (suc (suc i)) w))
factor_allowed at lets t n i p w g h =
    let s = g.sound.nodes in
    let e : Tree = tree_in lets t in
    record {
      covers = covers_self (power (pair t) (suc (suc i)));
      first = no_wider_self w;
      second = s.3;
      size = sym (pow-suc (size_in lets t) (suc i));
      same = same_next e e (tree.Pow e (suc i)) (suc i) (same_self e) (same_self (tree.Pow e (suc i)));
      allowed = power_allowed at lets t (suc n) (suc (suc i)) p w g (omega (arith, h));
    }

-- ---- all nodes

-- a name is of a let, whose value is no wider and in the name's range
name_is : (at : Setting) (lets : List Typed) (j : ℕ) (p : Range) (w : Width) (o : Option Typed) → slice_get lets j ≡ o → CoversLet o p w
    → IsGood at lets (TLet j p w) → IsNamed (meaning at) lets j p w
name_is at lets j p w None e c g = absurd c
name_is at lets j p w (Some u) e c g = record {
  named = u;
  there = e;
  leads = λ x h. get_is at j (wanted lets (TLet j p w)) x (stands_wider (wanted lets (TLet j (pair u) (width u))) x p w h c.0 c.1)
      (tree_allowed at lets (TLet j p w) g);
}

-- each node of a tree that may be written
pub facts : (at : Setting) → 2048 ≤ at.depth → Facts (meaning at)
facts at deep = record {
  machine = record { room = λ n h. le-leb n at.depth h; got = λ l j. refl; put = λ l j v. refl };
  at_number = λ lets c p w g. let n = g.sound.nodes in push_is at c (wanted lets (TNum c p w)) n.0 refl (same_self (tree.Num c))
      (tree_allowed at lets (TNum c p w) g);
  at_variable = λ lets i p w g. input_is at lets i p w g;
  at_zeroth = λ lets t p w g. let n = g.sound.nodes in push_is at (pos 1) (wanted lets (TPow t zero p w)) n.1 (sym (pow-zero (size_in lets t)))
      (same_zeroth (tree_in lets t)) (tree_allowed at lets (TPow t zero p w) g);
  at_again = λ lets t j x g h. get_is at j (wanted lets t) x h (tree_allowed at lets t g);
  at_name = λ lets j p w g. let n = g.sound.nodes in name_is at lets j p w (slice_get lets j) refl n.0 g;
  at_opposite = λ lets t p w x g h. neg_is at lets t p w x g h;
  at_two = λ lets o t u p w x g h. λ z i. two_is at o (wanted lets t) (wanted lets u) (wanted lets (TTwo o t u p w)) x z h i (two_allowed at lets o t u p w g);
  at_first = λ lets t n p w x g h. first_stands at lets t n p w x g h;
  at_factor = λ lets t n i p w x z g k h b. two_is at Times (wanted lets (raised_to t (suc i) w)) (wanted lets t)
      (wanted lets (raised_to t (suc (suc i)) w)) z x b h
      (factor_allowed at lets t n i p w g k);
  at_power = λ lets t n p w x g h. let s = g.sound.nodes in stands_wider (wanted lets (raised_to t (suc n) w)) x p w h s.1 (no_wider_self w);
  operand = λ lets t p w g. record { sound = sound_opposite g.sound; nodes = λ e v h. g.nodes e v (inl h) };
  left = λ lets o t u p w g. record { sound = sound_left g.sound; nodes = λ e v h. g.nodes e v (inl (inl h)) };
  right = λ lets o t u p w g. record { sound = sound_right g.sound; nodes = λ e v h. g.nodes e v (inl (inr h)) };
  base = λ lets t n p w g. record { sound = sound_base g.sound; nodes = λ e v h. g.nodes e v (inl h) };
  deep = λ lets t g. let d = g.sound.deep in omega (arith, d, deep);
  let_stands = λ lets t. record {
    old = λ u v n x. subst (λ want. StandsFor want v) (sym (ap₂ (rooted u) (tree_front lets t u n) (size_front lets t u n))) x;
    new = λ v x. subst (λ want. StandsFor want v) (sym (ap₂ (rooted t) (tree_last lets t (pair t) (width t)) (size_last lets t (pair t) (width t)))) x;
  };
  names = λ lets t g. let s = g.sound in sound_names at.vars lets t s.nodes;
}
