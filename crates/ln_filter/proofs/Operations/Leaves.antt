-- Without any test, the operations of a tree leave its truncated number.
use Rattle.std.proofs.Common.{◌≡◌, ℕ, ℤ, ◌+◌, ◌<◌, true, List, [], ◌∷◌, length, refl, zero, suc, ap, arith, pos, neg_ℤ}
use Rattle.std.proofs.Common.{unsigned_abs, ◌*ℤ◌, ◌∙◌, sym, subst}
use Rattle.std.specs.Prelude.{Option, Some, slice_get}
use Rattle.ln_tree.specs.declared.shape.VarInfo.{VarInfo}
use Rattle.ln_tree.specs.Row.{AreWithin}
use Rattle.ln_bound.specs.declared.fitted.Width.{Width}
use Rattle.ln_bound.specs.declared.fitted.Width.TheVariants.{W64}
use Rattle.ln_bound.specs.declared.fitted.Two.{Two}
use Rattle.ln_bound.specs.declared.fitted.Two.TheVariants.{Plus, Minus, Times}
use Rattle.ln_bound.specs.Value.{values}
use Rattle.ln_bound.specs.Typed.{Typed, TNum, TInput, TTwo, TPow, pair, width}
use Rattle.ln_interval.specs.Range.{Range}
use Rattle.ln_code.specs.declared.op.Op.{Op}
use Rattle.ln_code.specs.declared.op.Op.TheVariants.{Cut, Get, Input, Mul, Neg, Push}
use Rattle.ln_code.specs.declared.op.Triple.{Triple}
use Rattle.ln_code.specs.Engine.{Engine, op_of}
use Rattle.ln_code.specs.Numbers.{result_of, cut_by, with_local}
use Rattle.ln_code.specs.StackCode.{raised_to}
use Rattle.ln_code.specs.Exact.{exact_filter}
use Rattle.ln_code.proofs.Engines.Follow.{Reaches, Follows, LocalsStand, local_stands}
use Rattle.ln_code.proofs.Filters.FilterKnown.{IsNumber, held_at_says, held_input, held_says}
use Rattle.ln_code.proofs.Filters.Cutting.{cut_none}
use Rattle.ln_code.proofs.Building.Runs.{Cuts, Is, Meaning, Trims}
use Rattle.ln_code.proofs.Building.Lands.{Beside, Facts}
use Rattle.ln_filter.specs.Style.{raw}
use Rattle.ln_filter.specs.Triples.{align, excess, leaf, raw_of}
use Rattle.ln_filter.specs.Truncated.{leaf_number}
use Rattle.ln_filter.proofs.Operations.Lets.{number_front, number_in, number_last}
use Rattle.ln_filter.proofs.Operations.Meaning as rules
use Rattle.ln_filter.proofs.Operations.Meaning.{IsGood, Setting}
use Rattle.ln_filter.proofs.Operations.Nodes.{let_there}
use Rattle.ln_filter.proofs.Operations.Style.{style_in, triple_in, triples_of}

-- the machine on truncated numbers that tests nothing
abbrev pub loose : List ℤ → Engine Triple ℤ (ℕ → Option ℤ)
loose zs = record {
  push = λ c a. Some (cut_by a.k c);
  input = λ v a. slice_get zs v;
  again = λ z a. Some z;
  two = λ t w a y z. Some (result_of t y z);
  minus = λ w a z. Some (neg_ℤ z);
  cut = λ n a z. Some (cut_by n z);
  got = λ l j. l j;
  put = with_local;
  room = λ n. true;
}

-- ---- it follows the machine that tests

-- the machine that tests nothing follows the one that tests
pub loose_follows : (zs : List ℤ) → Follows (exact_filter zs) (loose zs) (λ (a : Triple). a) IsNumber (LocalsStand (Reaches IsNumber))
loose_follows zs = record {
  push = λ c a v q. held_says a (cut_by a.k c) v q;
  input = held_input zs;
  again = λ x y a v f q. held_says a y v (rw f.same at q);
  two = λ t w a x x' y y' v f g q. (held_at_says w a (result_of t y y') v (rw (f.same, g.same) at q)).1;
  minus = λ w a x y v f q. (held_at_says w a (neg_ℤ y) v (rw f.same at q)).1;
  cut = λ n a x y v f q. held_says a (cut_by n y) v (rw f.same at q);
  got = λ l m j v k q. k j v q;
  put = λ l m j v z h f. local_stands (Reaches IsNumber) l m j v (Some z) h f;
  room = λ n q. refl;
}

-- ---- nodes

-- what code means on a row: its number stands for a tree; the trees are those that the rules let be written
abbrev pub meaning : Setting → List ℤ → Meaning Triple ℤ
meaning r zs = record {
  engine = loose zs;
  depth = r.depth;
  style = style_in r.vars;
  good = IsGood r;
  stands = λ lets t z. z ≡ number_in r.vars (values zs) lets t;
  may = λ p. Unit {0};
}

module _ (r : Setting) (zs : List ℤ) where
  -- what an operation has
  has : (op : Op) (z : ℤ) (P : ℤ → Type 0) → P z → Is (meaning r zs) op (Some z) P
  has op z P h = record { value = z; there = refl; may = tt; stands = h }

  -- and after its division
  cut_has : (lets : List Typed) (n : ℕ) (b : Triple) (z : ℤ) (P : ℤ → Type 0) → P (cut_by n z) → Cuts (meaning r zs) (style_in r.vars lets) n b P z
  cut_has lets zero b z P h = subst P (cut_none z) h
  cut_has lets (suc n) b z P h = has (Cut (suc n)) (cut_by (suc n) z) P h

  push_has : (lets : List Typed) (t : Typed) (c : ℤ) → number_in r.vars (values zs) lets t ≡ leaf_number (unsigned_abs c) c
      → triple_in r.vars lets t ≡ leaf (unsigned_abs c) → Is (meaning r zs) (Push c) ((loose zs).push c (triple_in r.vars lets t))
      (λ z. z ≡ number_in r.vars (values zs) lets t)
  push_has lets t c n e =
      let z : 0 + excess (unsigned_abs c) ≡ excess (unsigned_abs c) = omega arith in
      has (Push c) (cut_by (triple_in r.vars lets t).k c) _ (ap (λ (a : Triple). cut_by a.k c) e ∙ ap (λ (k : ℕ). cut_by k c) z ∙ sym n)

  two_number : (lets : List Typed) (o : Two) (t u : Typed) (p : Range) (w : Width)
      → cut_by (excess (raw r.vars (triples_of r.vars lets) (TTwo o t u p w)).h)
      (result_of o (cut_by (align o (triple_in r.vars lets t) (triple_in r.vars lets u)) (number_in r.vars (values zs) lets t))
      (cut_by (align o (triple_in r.vars lets u) (triple_in r.vars lets t)) (number_in r.vars (values zs) lets u))) ≡ number_in r.vars
      (values zs) lets (TTwo o t u p w)
  two_number lets Plus t u p w = refl
  two_number lets Minus t u p w = refl
  two_number lets Times t u p w = rw (cut_none (number_in r.vars (values zs) lets t), cut_none (number_in r.vars (values zs) lets u)) refl

  two_has : (lets : List Typed) (o : Two) (t u : Typed) (p : Range) (w : Width) (x : ℤ) → x ≡ number_in r.vars (values zs) lets t
      → Cuts (meaning r zs) (style_in r.vars lets) (align o (triple_in r.vars lets t) (triple_in r.vars lets u)) (triple_in r.vars lets t)
      (Beside (meaning r zs) lets o t u p w) x
  two_has lets o t u p w x e =
      let a : Triple = triple_in r.vars lets t in
      let b : Triple = triple_in r.vars lets u in
      let c : Triple = raw_of o a b in
      cut_has lets (align o a b) a x (Beside (meaning r zs) lets o t u p w) (λ y f. cut_has lets (align o b a) b y _
      (has (op_of o W64) (result_of o (cut_by (align o a b) x) (cut_by (align o b a) y)) _
      (cut_has lets (excess c.h) c (result_of o (cut_by (align o a b) x) (cut_by (align o b a) y)) _ (rw (e, f) (two_number lets o t u p w)))))

  -- a variable
  input_has : (lets : List Typed) (v : ℕ) (p : Range) (w : Width) → slice_get zs v ≡ Some (values zs v)
      → Trims (meaning r zs) (style_in r.vars lets) (Input v) (raw r.vars (triples_of r.vars lets) (TInput v p w))
      (λ z. z ≡ number_in r.vars (values zs) lets (TInput v p w)) (slice_get zs v)
  input_has lets v p w e = let a : Triple = raw r.vars (triples_of r.vars lets) (TInput v p w) in
      rw e (has (Input v) (values zs v) _ (cut_has lets (excess a.h) a (values zs v) _ refl))

value_there : (vars : List VarInfo) (zs : List ℤ) (v : ℕ) → AreWithin vars zs → v < length vars → slice_get zs v ≡ Some (values zs v)
value_there [] zs v r h = absurd (omega arith)
value_there (i ∷ is) [] v r h = absurd r
value_there (i ∷ is) (z ∷ zs) zero r h = refl
value_there (i ∷ is) (z ∷ zs) (suc v) r h = value_there is zs v r.2 (omega arith)

-- each node, on a row in range, of a tree that the rules let be written
pub facts : (r : Setting) (zs : List ℤ) → AreWithin r.vars zs → Facts (rules.meaning r) → Facts (meaning r zs)
facts r zs within f = record {
  machine = record { room = λ n h. refl; got = λ l j. refl; put = λ l j v. refl };
  at_number = λ lets c p w g. push_has r zs lets (TNum c p w) c refl refl;
  at_variable = λ lets i p w g. let n = g.sound.nodes in input_has r zs lets i p w (value_there r.vars zs i within n.0);
  at_zeroth = λ lets t p w g. push_has r zs lets (TPow t zero p w) (pos 1) refl refl;
  at_again = λ lets t j x g h. has r zs (Get j) x _ h;
  at_name = λ lets j p w g.
      let n = g.sound.nodes in
      let u = let_there (slice_get lets j) p w n.0 in
      record { named = u.0; there = u.1; leads = λ x h. has r zs (Get j) x _ h };
  at_opposite = λ lets t p w x g h. has r zs (Neg W64) (neg_ℤ x) _ (ap neg_ℤ h);
  at_two = λ lets o t u p w x g h. two_has r zs lets o t u p w x h;
  at_first = λ lets t n p w x g h. h;
  at_factor = λ lets t n i p w x z g k h b. let a : Triple = raw r.vars (triples_of r.vars lets) (raised_to t (suc (suc i)) w) in
      has r zs (Mul W64) (z *ℤ x) _ (cut_has r zs lets (excess a.h) a (z *ℤ x) _ (rw (h, b) refl));
  at_power = λ lets t n p w x g h. h;
  operand = f.operand;
  left = f.left;
  right = f.right;
  base = f.base;
  deep = f.deep;
  let_stands = λ lets t. record {
    old = λ u v n x. x ∙ sym (number_front r.vars (values zs) lets t u n);
    new = λ v x. x ∙ sym (number_last r.vars (values zs) lets t (pair t) (width t));
  };
  names = f.names;
}
