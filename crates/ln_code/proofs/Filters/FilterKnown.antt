-- A filter that follows the rules: the machine over integers and the processor follow them too.
use Rattle.std.proofs.Common.{◌≡◌, ℕ, ℤ, ◌+◌, ◌*◌, ◌/◌, ◌^◌, ◌≤◌, ◌<◌, true, List, [], refl, zero, suc, ap, arith, ◌+ℤ◌, ◌-ℤ◌}
use Rattle.std.proofs.Common.{◌*ℤ◌, neg_ℤ, unsigned_abs, ◌&&◌, sym}
use Rattle.std.specs.Prelude.{Option, Some, None, if◌then◌else◌, ◌==◌, nat_le, slice_get}
use Rattle.std.proofs.lemmas.Nat.{pow_pos}
use Rattle.std.proofs.lemmas.Grind.{div_ceil_times}
use Rattle.std.specs.Int.{div_ceil}
use Rattle.std.proofs.lemmas.Bool.{leb-true, le-leb, and_parts, eqb-true}
use Rattle.std.proofs.Math.Nat.{mul-le-mul_right}
use Rattle.ln_algebra.specs.Tree as tree
use Rattle.ln_algebra.specs.Tree.{Tree}
use Rattle.ln_tree.specs.declared.shape.VarInfo.{VarInfo}
use Rattle.ln_tree.specs.Row.{AreWithin}
use Rattle.ln_bound.specs.declared.fitted.Width.{Width}
use Rattle.ln_bound.specs.declared.fitted.Width.TheVariants.{W64, W128}
use Rattle.ln_bound.specs.declared.fitted.Two.{Two}
use Rattle.ln_bound.specs.declared.fitted.Two.TheVariants.{Plus, Minus, Times}
use Rattle.ln_bound.specs.Value.{value, values, size_of}
use Rattle.ln_bound.specs.Widths.{limit, no_wider}
use Rattle.ln_bound.specs.Typed.{two_of}
use Rattle.ln_code.specs.declared.op.Triple.{Triple}
use Rattle.ln_code.specs.Engine.{Engine, when, next}
use Rattle.ln_code.specs.Numbers.{result_of, cut_by, fits}
use Rattle.ln_code.specs.Exact.{Held, held, held_at, exact_filter}
use Rattle.ln_code.specs.FilterRules.{Approximates, FilterKnown, error_after, push_error, covers, filter_known, two_known, filter_rules}
use Rattle.ln_code.specs.Bare.{bare}
use Rattle.ln_code.proofs.Engines.Follow.{Reaches, Follows, LocalsStand, local_stands, when_some}
use Rattle.ln_code.proofs.Following.Known.{InSize, in_size, if_some, next_some}
use Rattle.ln_code.proofs.Filters.Near.{cut_stands, product_stands, sum_stands, difference_stands, minus_stands, exact_stands}

-- the triple of these three
abbrev pub at_triple : ℕ → ℕ → ℕ → Triple
at_triple k h e = record { k = k; h = h; e = e }

-- z stands for the value of k's expression, and fits 64 bits
pub record Holds (zs : List ℤ) (k : FilterKnown) (z : ℤ) : Type 0 where
  pub stands : Approximates k.triple z (value (values zs) [] k.tree)
  pub narrow : k.triple.h ≤ 9223372036854775807

-- so does a truncated number, with the error of its triple
pub record HoldsHeld (zs : List ℤ) (k : FilterKnown) (y : Held) : Type 0 where
  pub holds : Holds zs k y.number
  pub error : y.error ≡ k.triple.e

-- a triple that covers another serves too
weaker : (k h e : ℕ) (a : Triple) (z v : ℤ) → a.k ≡ k → h ≤ a.h → e ≤ a.e → Approximates (at_triple k h e) z v → Approximates a z v
weaker k h e a z v p q r s =
    let m : e * 2 ^ k ≤ a.e * 2 ^ k = mul-le-mul_right (2 ^ k) r in
    record { small = omega (arith, s.small, q); near = rw p (omega (arith, s.near, m)) }

-- what holds where a rule held
pub record Says (k h e size : ℕ) (t : Tree) (a : Triple) (r : FilterKnown) : Type 0 where
  pub same_k : a.k ≡ k
  pub enough_h : h ≤ a.h
  pub enough_e : e ≤ a.e
  pub narrow : a.h ≤ 9223372036854775807
  pub size_fits : size ≤ 170141183460469231731687303715884105727
  pub is : record { triple = a; tree = t; size = size } ≡ r

-- where `filter_known` has a result, what its rule says holds
pub known_says : (k h e size : ℕ) (t : Tree) (a : Triple) (r : FilterKnown) → filter_known k h e size t a ≡ Some r → Says k h e size t a r
known_says k h e size t a r q =
    let w = when_some _ _ _ q in
    let p = and_parts (covers k h e a) _ w.0 in
    let c = and_parts ((a.k == k) && nat_le h a.h && nat_le e a.e) _ p.0 in
    let d = and_parts ((a.k == k) && nat_le h a.h) _ c.0 in
    let f = and_parts (a.k == k) _ d.0 in
    record {
      same_k = eqb-true _ _ f.0;
      enough_h = leb-true _ _ f.1;
      enough_e = leb-true _ _ d.1;
      narrow = leb-true _ _ c.1;
      size_fits = leb-true _ _ p.1;
      is = w.1;
    }

-- what stands for a value within what the triple covers is what is known
holds : (zs : List ℤ) (k h e size : ℕ) (t : Tree) (a : Triple) (r : FilterKnown) (z : ℤ)
    → Approximates (at_triple k h e) z (value (values zs) [] t) → filter_known k h e size t a ≡ Some r → Holds zs r z
holds zs k h e size t a r z s q =
    let w = known_says k h e size t a r q in
    rw (← w.is) (record { stands = weaker k h e a z (value (values zs) [] t) w.same_k w.enough_h w.enough_e s; narrow = w.narrow })

held_is : (a : Triple) (z : ℤ) → unsigned_abs z ≤ a.h → unsigned_abs z ≤ 9223372036854775807 → held a z ≡ Some (record { number = z; error = a.e })
held_is a z h k = rw (le-leb (unsigned_abs z) a.h h, le-leb (unsigned_abs z) (limit W64) k) refl

-- the machine keeps it
inside : (zs : List ℤ) (k h e size : ℕ) (t : Tree) (a : Triple) (r : FilterKnown) (z : ℤ)
    → Approximates (at_triple k h e) z (value (values zs) [] t) → filter_known k h e size t a ≡ Some r → Reaches (HoldsHeld zs) r (held a z)
inside zs k h e size t a r z s q =
    let w = known_says k h e size t a r q in
    let g = holds zs k h e size t a r z s q in
    let p = s.small in
    let i : held a z ≡ Some (record { number = z; error = a.e }) = held_is a z (omega (arith, p, w.enough_h)) (omega (arith, p, w.enough_h, w.narrow)) in
    let j : a.e ≡ r.triple.e = ap (λ (k : FilterKnown). k.triple.e) w.is in
    rw i (record { holds = g; error = j })

-- a number that is divided by 2^k
push_stands : (c : ℤ) (k : ℕ) → Approximates (at_triple k (unsigned_abs c / 2 ^ k) (push_error k)) (cut_by k c) c
push_stands c k = weaker (0 + k) (unsigned_abs c / 2 ^ k) (error_after k 0) (at_triple k (unsigned_abs c / 2 ^ k) (push_error k)) (cut_by k c) c
    (omega arith) (omega arith) (enough k) (cut_stands k (at_triple 0 (unsigned_abs c) 0) c c (exact_stands (unsigned_abs c) c (omega arith)))
  where
    enough : (k : ℕ) → error_after k 0 ≤ push_error k
    enough zero = omega arith
    enough (suc k) = below_one (div_ceil 0 (2 ^ suc k)) (2 ^ suc k) ((div_ceil_times 0 (2 ^ suc k) (pow_pos (suc k))).1)
      where
        below_one : (c p : ℕ) → c * p < 0 + p → c + 1 ≤ 1
        below_one zero p h = omega arith
        below_one (suc c) p h = absurd (omega (arith, mul-le-mul_right p (let l : 1 ≤ suc c = omega arith in l)))

-- ---- operations on two

-- the machine reaches z with the error of the triple a, and z stands for the value of what is known
pub record TwoSays (zs : List ℤ) (a : Triple) (r : FilterKnown) (z : ℤ) : Type 0 where
  pub reached : Reaches (HoldsHeld zs) r (held a z)
  pub held_there : Holds zs r z

says : (zs : List ℤ) (k h e size : ℕ) (t : Tree) (a : Triple) (r : FilterKnown) (z : ℤ) → Approximates (at_triple k h e) z (value (values zs) [] t)
    → filter_known k h e size t a ≡ Some r → TwoSays zs a r z
says zs k h e size t a r z s q = record { reached = inside zs k h e size t a r z s q; held_there = holds zs k h e size t a r z s q }

two_says : (zs : List ℤ) (kind : Two) (a : Triple) (k m r : FilterKnown) (y z : ℤ) → Holds zs k y → Holds zs m z
    → two_known kind a k m ≡ Some r → TwoSays zs a r (result_of kind y z)
two_says zs Plus a k m r y z f g q =
    let v : ℤ = value (values zs) [] k.tree in
    let u : ℤ = value (values zs) [] m.tree in
    let w = if_some _ _ _ q in
    let e : k.triple.k ≡ m.triple.k = eqb-true _ _ w.0 in
    let s = sum_stands k.triple.k k.triple.h k.triple.e m.triple.h m.triple.e y z v u f.stands
    (weaker m.triple.k m.triple.h m.triple.e (at_triple k.triple.k m.triple.h m.triple.e) z u e (omega arith) (omega arith) g.stands) in
    says zs _ _ _ _ (two_of Plus k.tree m.tree) a r (y +ℤ z) s w.1
two_says zs Minus a k m r y z f g q =
    let v : ℤ = value (values zs) [] k.tree in
    let u : ℤ = value (values zs) [] m.tree in
    let w = if_some _ _ _ q in
    let e : k.triple.k ≡ m.triple.k = eqb-true _ _ w.0 in
    let s = difference_stands k.triple.k k.triple.h k.triple.e m.triple.h m.triple.e y z v u f.stands
    (weaker m.triple.k m.triple.h m.triple.e (at_triple k.triple.k m.triple.h m.triple.e) z u e (omega arith) (omega arith) g.stands) in
    says zs _ _ _ _ (two_of Minus k.tree m.tree) a r (y -ℤ z) s w.1
two_says zs Times a k m r y z f g q =
    let s = product_stands k.triple m.triple y z (value (values zs) [] k.tree) (value (values zs) [] m.tree) f.stands g.stands in
    says zs _ _ _ _ (two_of Times k.tree m.tree) a r (y *ℤ z) s q

-- a filter's operations are 64 bits wide
is_64 : (w : Width) → no_wider w W64 ≡ true → w ≡ W64
is_64 W64 h = refl
is_64 W128 h = cc

exact_two : (zs : List ℤ) (t : Two) (w : Width) (a : Triple) (k m r : FilterKnown) (y z : ℤ) → Holds zs k y → Holds zs m z
    → (if no_wider w W64 then two_known t a k m else None) ≡ Some r → Reaches (HoldsHeld zs) r (held_at w a (result_of t y z))
exact_two zs t w a k m r y z f g q =
    let p = if_some _ _ _ q in
    let e : w ≡ W64 = is_64 w p.0 in
    rw e (two_says zs t a k m r y z f g p.1).reached

exact_minus : (zs : List ℤ) (w : Width) (a : Triple) (m r : FilterKnown) (y : ℤ) → Holds zs m y
    → (if no_wider w W64 then filter_known m.triple.k m.triple.h m.triple.e m.size (tree.Neg m.tree) a else None) ≡ Some r
    → Reaches (HoldsHeld zs) r (held_at w a (neg_ℤ y))
exact_minus zs w a m r y f q =
    let p = if_some _ _ _ q in
    let e : w ≡ W64 = is_64 w p.0 in
    rw e (inside zs _ _ _ _ (tree.Neg m.tree) a r (neg_ℤ y) (minus_stands m.triple y (value (values zs) [] m.tree) f.stands) p.1)

-- ---- variables

size_stands : (zs : List ℤ) (v : ℕ) (i : VarInfo) (s : InSize zs v i) → Approximates (at_triple 0 (size_of i) 0) s.number (value (values zs) [] (tree.Input v))
size_stands zs v i s = rw (← s.same) (exact_stands (size_of i) s.number s.small)

exact_input : (vars : List VarInfo) (zs : List ℤ) → AreWithin vars zs → (v : ℕ) (a : Triple) (r : FilterKnown)
    → next (slice_get vars v) (λ i. filter_known 0 (size_of i) 0 1 (tree.Input v) a) ≡ Some r → Reaches (HoldsHeld zs) r (next (slice_get zs v) (λ z. held a z))
exact_input vars zs h v a r q =
    let w = next_some (slice_get vars v) (λ (i : VarInfo). filter_known 0 (size_of i) 0 1 (tree.Input v) a) r q in
    let s = in_size vars zs h v w.0 w.1 in
    rw s.there (inside zs 0 (size_of w.0) 0 1 (tree.Input v) a r s.number (size_stands zs v w.0 s) w.2)

-- ---- the machine over integers

-- the machine with a stack of this many places
abbrev pub roomy : List ℤ → ℕ → Engine Triple Held (ℕ → Option Held)
roomy zs depth = record (exact_filter zs) { room = λ n. nat_le n depth }

-- it follows the rules
pub roomy_follows : (vars : List VarInfo) (depth : ℕ) (zs : List ℤ) → AreWithin vars zs
    → Follows (filter_rules vars depth) (roomy zs depth) (λ (a : Triple). a) (HoldsHeld zs) (LocalsStand (Reaches (HoldsHeld zs)))
roomy_follows vars depth zs h = record {
  push = λ c a r q. inside zs a.k _ _ _ (tree.Num c) a r (cut_by a.k c) (push_stands c a.k) q;
  input = exact_input vars zs h;
  again = λ m y a r f q. inside zs _ _ _ _ m.tree a r y.number f.holds.stands q;
  two = λ t w a k m y z r f g q. exact_two zs t w a k m r y.number z.number f.holds g.holds q;
  minus = λ w a m y r f q. exact_minus zs w a m r y.number f.holds q;
  cut = λ n a m y r f q. inside zs _ _ _ _ m.tree a r (cut_by n y.number) (cut_stands n m.triple y.number (value (values zs) [] m.tree) f.holds.stands) q;
  got = λ l m j r k q. k j r q;
  put = λ l m j v z h f. local_stands (Reaches (HoldsHeld zs)) l m j v (Some z) h f;
  room = λ n q. q;
}

-- ---- without the limit on the stack

same_reached : {V : Type 0} (o : Option V) (v : V) → o ≡ Some v → Reaches (λ (x y : V). x ≡ y) v o
same_reached o v q = rw q refl

-- the machine without the limit follows the one with it
pub exact_follows_roomy : (depth : ℕ) (zs : List ℤ)
    → Follows (roomy zs depth) (exact_filter zs) (λ (a : Triple). a) (λ (x y : Held). x ≡ y) (λ (l m : ℕ → Option Held). l ≡ m)
exact_follows_roomy depth zs = record {
  push = λ c a v q. same_reached _ v q;
  input = λ i a v q. same_reached _ v q;
  again = λ x y a v e q. same_reached _ v (rw e at q);
  two = λ t w a x x' y y' v e f q. same_reached _ v (rw (e, f) at q);
  minus = λ w a x y v e q. same_reached _ v (rw e at q);
  cut = λ n a x y v e q. same_reached _ v (rw e at q);
  got = λ l m j v e q. same_reached _ v (rw e at q);
  put = λ l m j x y e f. rw (e, f) refl;
  room = λ n q. refl;
}

-- ---- the processor

-- it has the same number, which fits 64 bits
pub record IsNumber (y : Held) (z : ℤ) : Type 0 where
  pub same : y.number ≡ z
  pub narrow : fits W64 z ≡ true

-- so has what `held` leaves
pub held_says : (a : Triple) (z : ℤ) (y : Held) → held a z ≡ Some y → IsNumber y z
held_says a z y q =
    let r = when_some _ _ _ q in
    let p = and_parts _ _ r.0 in
    record { same = sym (ap (λ (h : Held). h.number) r.1); narrow = p.1 }

-- what an operation of a width leaves, which is 64 bits then
pub held_at_says : (w : Width) (a : Triple) (z : ℤ) (y : Held) → held_at w a z ≡ Some y → (w ≡ W64) × IsNumber y z
held_at_says W64 a z y q = (refl, held_says a z y q)
held_at_says W128 a z y q = cc

-- what a variable leaves
pub held_input : (zs : List ℤ) (v : ℕ) (a : Triple) (y : Held) → next (slice_get zs v) (λ z. held a z) ≡ Some y → Reaches IsNumber y (slice_get zs v)
held_input zs v a y q =
    let r = next_some (slice_get zs v) (λ (z : ℤ). held a z) y q in
    rw r.1 (held_says a r.0 y r.2)

held_two : (t : Two) (w : Width) (a : Triple) (x x' v : Held) (y y' : ℤ) → IsNumber x y → IsNumber x' y' → held_at w a (result_of t x.number x'.number) ≡ Some v
    → Reaches IsNumber v (when (fits w y && (fits w y' && fits w (result_of t y y'))) (result_of t y y'))
held_two t w a x x' v y y' f g q =
    let q' : held_at w a (result_of t y y') ≡ Some v = rw (f.same, g.same) at q in
    let r = held_at_says w a (result_of t y y') v q' in
    rw (r.0, f.narrow, g.narrow, r.1.narrow) r.1

held_minus : (w : Width) (a : Triple) (x v : Held) (y : ℤ) → IsNumber x y → held_at w a (neg_ℤ x.number) ≡ Some v
    → Reaches IsNumber v (when (fits w y) (neg_ℤ y))
held_minus w a x v y f q =
    let q' : held_at w a (neg_ℤ y) ≡ Some v = rw f.same at q in
    let r = held_at_says w a (neg_ℤ y) v q' in
    rw (r.0, f.narrow) r.1

-- the processor follows the machine
pub bare_follows_roomy : (depth places : ℕ) (zs : List ℤ) → depth ≤ places → Follows (roomy zs depth) (bare zs places) (λ (a : Triple). a.k) IsNumber
    (LocalsStand IsNumber)
bare_follows_roomy depth places zs d = record {
  push = λ c a v q. held_says a (cut_by a.k c) v q;
  input = held_input zs;
  again = λ x y a v f q. held_says a y v (rw f.same at q);
  two = λ t w a x x' y y' v f g q. held_two t w a x x' v y y' f g q;
  minus = λ w a x y v f q. held_minus w a x v y f q;
  cut = λ n a x y v f q. held_says a (cut_by n y) v (rw f.same at q);
  got = λ l m j v k q. k j v q;
  put = λ l m j v z h f. local_stands IsNumber l m j v z h f;
  room = λ n q. le-leb _ _ (room_le n (leb-true _ _ q));
}
  where
    room_le : (n : ℕ) → n ≤ depth → n ≤ places
    room_le n h = omega arith
