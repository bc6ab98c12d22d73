-- What is emitted for lines: declarations whose names are numbered upwards, and a return at the end.
use Rattle.std.proofs.Common.{◌≡◌, ℕ, zero, suc, ◌+◌, ◌/◌, ◌%◌, ◌^◌, ◌<◌, ◌≤◌, Bool, true, false, List, [], ◌∷◌, length, refl}
use Rattle.std.proofs.Common.{subst, arith, ℤ, pos, negsuc, unsigned_abs}
use Rattle.std.specs.Prelude.{Option, Some, None, if◌then◌else◌, nat_le, nat_lt, ◌==◌}
use Rattle.std.proofs.lemmas.Bool.{leb-true, le-leb, and_from, and_parts, cond_both, ltb-true}
use Rattle.std.proofs.lemmas.Nat.{pow_pos, pow_below}
use Rattle.ln_bound.specs.declared.fitted.Width.{Width}
use Rattle.ln_bound.specs.declared.fitted.Width.TheVariants.{W64, W128}
use Rattle.ln_bound.specs.declared.fitted.Two.{Two}
use Rattle.ln_bound.specs.declared.fitted.Two.TheVariants.{Plus, Minus, Times}
use Rattle.ln_bound.specs.Widths.{limit}
use Rattle.ln_code.specs.declared.op.Op.{Op}
use Rattle.ln_code.specs.declared.op.Op.TheVariants.{Push, Input, Get, Set, Add, Sub, Mul, Neg, Cut}
use Rattle.ln_code.specs.Engine.{Line}
use Rattle.ln_code.specs.Numbers.{cut_by, with_local, no_locals}
use Rattle.ln_csyn.specs.declared.tree.CType.{CType}
use Rattle.ln_csyn.specs.declared.tree.CType.TheVariants.{Int64}
use Rattle.ln_csyn.specs.declared.tree.COp.TheVariants as op
use Rattle.ln_csyn.specs.Tree as c
use Rattle.ln_csyn.specs.Tree.{Expr, Body}
use Rattle.ln_csyn.specs.Words.{is_c_name, most_number}
use Rattle.ln_csyn.specs.Text.{has_words}
use Rattle.ln_cemit.specs.declared.slot.Slot.{Slot}
use Rattle.ln_cemit.specs.declared.slot.Way.{Way}
use Rattle.ln_cemit.specs.Emit.{type_of, in_parts, is_short, natural, constant, cut_expr, slot, operand, sign_expr, Rest, put_get}
use Rattle.ln_cemit.specs.Emit.{put_set, put_two, put_neg, put_cut, put_op, put_sign, emitted, any_gets, naming, unread, ops_of, body_of, reads_row, touching}
use Rattle.ln_cemit.specs.Conditions.{is_fine, are_fine}
use Rattle.ln_cemit.proofs.Conditions.Numbered.{IsNumbered, back, decl, fine, none, when}
use Rattle.ln_cemit.proofs.Meanings.Blocks.{op_of}

-- a number below 2^63 is a NUMBER
pub short_most : (n : ℕ) → is_short n ≡ true → nat_le n most_number ≡ true
short_most n e = le-leb n most_number (omega (arith, ltb-true n (2 ^ 63) e))

abbrev Small : ℕ → ℕ → Type 0
Small zero n = n ≤ most_number
Small (suc m) n = Small m (n / 2 ^ 31)

parts_words : (m n : ℕ) → Small m n → has_words (in_parts m n) ≡ true
parts_words zero n h = le-leb n most_number h
parts_words (suc m) n h = rw (parts_words m (n / 2 ^ 31) h, le-leb (n % 2 ^ 31) most_number (omega arith)) refl

natural_case : (P : Expr → Type 0) (n : ℕ) → n ≤ limit W128 → (has_words (c.Number Int64 n) ≡ true → P (c.Number Int64 n))
    → (has_words (in_parts 4 n) ≡ true → P (in_parts 4 n)) → P (natural n)
natural_case P n h short long =
    cond_both (is_short n) (c.Number Int64 n) (in_parts 4 n) P (λ e. short (short_most n e)) (λ e. long (parts_words 4 n (omega (arith, h))))

power_most : (m : ℕ) → nat_lt m 63 ≡ true → nat_le (2 ^ m) most_number ≡ true
power_most m e = let p = pow_below m 63 (ltb-true m 63 e) in le-leb (2 ^ m) most_number (omega arith)

power_above : (m : ℕ) → nat_le 1 (2 ^ m) ≡ true
power_above m = le-leb 1 (2 ^ m) (pow_pos m)

-- ---- the expressions that are emitted

constant_fine : (t : CType) (z : ℤ) → unsigned_abs z ≤ limit W128 → fine false (c.Inner t (constant z)) ≡ true
constant_fine t (pos n) h = natural_case (λ x. fine false (c.Inner t x) ≡ true) n h (λ w. and_from _ _ w refl) (λ w. and_from _ _ w refl)
constant_fine t (negsuc n) h =
    natural_case (λ x. fine false (c.Inner t (c.Minus x)) ≡ true) (suc n) h (λ w. and_from _ _ w refl) (λ w. and_from _ _ w refl)

two_fine : (t : Two) (name : ℕ → List ℕ) (w : Width) (x y : Slot) → is_c_name (name x.at) ≡ true → is_c_name (name y.at) ≡ true
    → fine false (c.Two (op_of t) (operand name w x) (operand name w y)) ≡ true
two_fine Plus name w x y h g = and_from _ _ (and_from _ _ h g) refl
two_fine Minus name w x y h g = and_from _ _ (and_from _ _ h g) refl
two_fine Times name w x y h g = and_from _ _ (and_from _ _ h g) refl

cut_fine : (m : ℕ) (name : ℕ → List ℕ) (s : Slot) → is_c_name (name s.at) ≡ true → fine false (cut_expr m (operand name W64 s)) ≡ true
cut_fine m name s h = cond_both (nat_lt m 63) (c.Two op.Div (operand name W64 s) (c.Number Int64 (2 ^ m))) (c.Number Int64 0) (λ x. fine false x ≡ true)
    (λ e. and_from _ _ (and_from _ _ h (power_most m e)) (and_from _ _ (power_above m) refl)) (λ e. refl)

sign_fine : (name : ℕ → List ℕ) (e : ℕ) (s : Slot) → e ≤ most_number → is_c_name (name s.at) ≡ true → fine false (sign_expr name e s) ≡ true
sign_fine name zero s b h = rw h refl
sign_fine name (suc e) s b h = rw (h, le-leb (suc e) most_number b) refl

-- ---- bodies

module _ (name : ℕ → List ℕ) (top : ℕ) where
  abbrev Shape : ℕ → Body → Type 0
  Shape n b = IsNumbered name top false n 1 b

  abbrev Good : Slot → Type 0
  Good s = is_c_name (name s.at) ≡ true

  abbrev GoodAll : List Slot → Type 0
  GoodAll [] = Unit {0}
  GoodAll (s ∷ ss) = Good s × GoodAll ss

  abbrev GoodLocals : (ℕ → Option Slot) → Type 0
  GoodLocals ls = (j : ℕ) (s : Slot) → ls j ≡ Some s → Good s

  abbrev GoodRest : ℕ → Rest → Type 0
  GoodRest n go = (ss : List Slot) (ls : ℕ → Option Slot) → GoodAll ss → GoodLocals ls → Shape n (go ss ls)

  get_shape : (n : ℕ) (a : Way) (o : Option Slot) (ss : List Slot) (ls : ℕ → Option Slot) (go : Rest) → n < top → is_c_name (name n) ≡ true
      → ((s : Slot) → o ≡ Some s → Good s) → GoodAll ss → GoodLocals ls → GoodRest (suc n) go → Shape n (put_get name a n o ss ls go)
  get_shape n a None ss ls go lt f q g l r = none
  get_shape n a (Some s) ss ls go lt f q g l r =
      decl lt (and_from _ _ (q s refl) refl) (r _ _ (f, g) l)

  set_good : (n j : ℕ) (w : Width) (ls : ℕ → Option Slot) → is_c_name (name n) ≡ true → GoodLocals ls → GoodLocals (with_local ls j (slot n w))
  set_good n j w ls f l i s = by_case (i == j) where
    by_case : (b : Bool) → (if b then Some (slot n w) else ls i) ≡ Some s → Good s
    by_case true q = let e : slot n w ≡ s = cc in subst (λ (z : Slot). is_c_name (name z.at) ≡ true) e f
    by_case false q = l i s q

  set_shape : (n j : ℕ) (ss : List Slot) (ls : ℕ → Option Slot) (go : Rest) → n < top → is_c_name (name n) ≡ true → GoodAll ss
      → GoodLocals ls → GoodRest (suc n) go → Shape n (put_set name j n ss ls go)
  set_shape n j [] ls go lt f g l r = none
  set_shape n j (s ∷ ss) ls go lt f g l r =
      decl lt (and_from _ _ g.0 refl) (r _ _ g.1 (set_good n j s.width ls f l))

  two_shape : (n : ℕ) (t : Two) (w : Width) (ss : List Slot) (ls : ℕ → Option Slot) (go : Rest) → n < top → is_c_name (name n) ≡ true
      → GoodAll ss → GoodLocals ls → GoodRest (suc n) go → Shape n (put_two name (op_of t) w n ss ls go)
  two_shape n t w [] ls go lt f g l r = none
  two_shape n t w (y ∷ []) ls go lt f g l r = none
  two_shape n t w (y ∷ (x ∷ ss)) ls go lt f g l r = decl lt (two_fine t name w x y g.1.0 g.0) (r _ _ (f, g.1.1) l)

  neg_shape : (n : ℕ) (w : Width) (ss : List Slot) (ls : ℕ → Option Slot) (go : Rest) → n < top → is_c_name (name n) ≡ true → GoodAll ss
      → GoodLocals ls → GoodRest (suc n) go → Shape n (put_neg name w n ss ls go)
  neg_shape n w [] ls go lt f g l r = none
  neg_shape n w (x ∷ ss) ls go lt f g l r = decl lt (and_from _ _ g.0 refl) (r _ _ (f, g.1) l)

  cut_shape : (n m : ℕ) (ss : List Slot) (ls : ℕ → Option Slot) (go : Rest) → n < top → is_c_name (name n) ≡ true → GoodAll ss
      → GoodLocals ls → GoodRest (suc n) go → Shape n (put_cut name m n ss ls go)
  cut_shape n m [] ls go lt f g l r = none
  cut_shape n m (x ∷ ss) ls go lt f g l r = decl lt (cut_fine m name x g.0) (r _ _ (f, g.1) l)

  op_shape : (n : ℕ) (oper : Op) (a : Way) (ss : List Slot) (ls : ℕ → Option Slot) (go : Rest) → is_fine oper a ≡ true → n < top
      → is_c_name (name n) ≡ true → GoodAll ss → GoodLocals ls → GoodRest (suc n) go → Shape n (put_op name oper a n ss ls go)
  op_shape n (Push z) a ss ls go h lt f g l r =
      decl lt (constant_fine (type_of a.width) (cut_by a.shift z) (leb-true (unsigned_abs (cut_by a.shift z)) (limit W128) h)) (r _ _ (f, g) l)
  op_shape n (Input v) a ss ls go h lt f g l r = decl lt (and_from _ _ h refl) (r _ _ (f, g) l)
  op_shape n (Get j) a ss ls go h lt f g l r = get_shape n a (ls j) ss ls go lt f (l j) g l r
  op_shape n (Set j) a ss ls go h lt f g l r = set_shape n j ss ls go lt f g l r
  op_shape n (Add w) a ss ls go h lt f g l r = two_shape n Plus w ss ls go lt f g l r
  op_shape n (Sub w) a ss ls go h lt f g l r = two_shape n Minus w ss ls go lt f g l r
  op_shape n (Mul w) a ss ls go h lt f g l r = two_shape n Times w ss ls go lt f g l r
  op_shape n (Neg w) a ss ls go h lt f g l r = neg_shape n w ss ls go lt f g l r
  op_shape n (Cut m) a ss ls go h lt f g l r = cut_shape n m ss ls go lt f g l r

  sign_shape : (n e : ℕ) (ss : List Slot) → e ≤ most_number → GoodAll ss → Shape n (put_sign name e ss)
  sign_shape n e [] h g = none
  sign_shape n e (s ∷ []) h g = back (sign_fine name e s h g.0)
  sign_shape n e (s ∷ (t ∷ ss)) h g = none

  named_shape : (n : ℕ) (u : Option ℕ) (b : Body) → ((i : ℕ) → u ≡ Some i → is_c_name (name i) ≡ true) → Shape n b → Shape n (naming name u b)
  named_shape n None b f s = s
  named_shape n (Some i) b f s = when {i = 0} {d = 0} refl (back (and_from _ _ (f i refl) refl)) s

  either_good : (v : Bool) (n i : ℕ) → is_c_name (name n) ≡ true → (if v then None else Some n) ≡ Some i → is_c_name (name i) ≡ true
  either_good true n i f q = cc
  either_good false n i f q = let e : n ≡ i = cc in subst (λ z. is_c_name (name z) ≡ true) e f

  unread_good : (n : ℕ) (oper : Op) (os : List Op) (ss : List Slot) → is_c_name (name n) ≡ true → GoodAll ss → (i : ℕ)
      → unread oper os n ss ≡ Some i → is_c_name (name i) ≡ true
  unread_good n (Set j) os ss f g i q = either_good (any_gets j os) n i f q
  unread_good n (Cut m) os [] f g i q = cc
  unread_good n (Cut m) os (s ∷ ss) f g i q = either_good (nat_lt m 63) s.at i g.0 q
  unread_good n (Push z) os ss f g i q = cc
  unread_good n (Input v) os ss f g i q = cc
  unread_good n (Get j) os ss f g i q = cc
  unread_good n (Add w) os ss f g i q = cc
  unread_good n (Sub w) os ss f g i q = cc
  unread_good n (Mul w) os ss f g i q = cc
  unread_good n (Neg w) os ss f g i q = cc

  shape_from : ((i : ℕ) → i < top → is_c_name (name i) ≡ true) → (e : ℕ) (lines : List (Line Way)) (n : ℕ) (ss : List Slot) (ls : ℕ → Option Slot)
      → e ≤ most_number → are_fine lines ≡ true → n + length lines ≤ top → GoodAll ss → GoodLocals ls → Shape n (emitted name e lines n ss ls)
  shape_from free e [] n ss ls b h m g l = sign_shape n e ss b g
  shape_from free e (x ∷ xs) n ss ls b h m g l =
      let p = and_parts (is_fine x.op x.bound) _ h in
      let lt : n < top = omega (arith, m) in
      op_shape n x.op x.bound ss ls (λ su ms. naming name (unread x.op (ops_of xs) n ss) (emitted name e xs (suc n) su ms)) p.0 lt (free n lt) g l
      (λ su ms g' l'. named_shape (suc n) (unread x.op (ops_of xs) n ss) (emitted name e xs (suc n) su ms)
      (unread_good n x.op (ops_of xs) ss (free n lt) g) (shape_from free e xs (suc n) su ms b p.1 (omega (arith, m)) g' l'))

  -- what is emitted for lines has this shape, where the names are NAMEs and the numbers are within their limits
  pub shape_is : ((i : ℕ) → i < top → is_c_name (name i) ≡ true) → (e : ℕ) (lines : List (Line Way)) → e ≤ most_number
      → are_fine lines ≡ true → length lines ≤ top → Shape 0 (body_of name e lines)
  shape_is free e lines b h m = touched (reads_row lines) (shape_from free e lines 0 [] no_locals b h (omega (arith, m)) tt (λ j s q. cc)) where
    touched : (v : Bool) {x : Body} → Shape 0 x → Shape 0 (touching v x)
    touched true s = s
    touched false s = when {i = 0} {d = 0} refl (back refl) s
