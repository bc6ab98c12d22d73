-- Proves that the expression for a constant has the constant's value, with as many wide operations as are counted for it.
use Rattle.std.proofs.Common.{◌≡◌, ℕ, zero, suc, ◌+◌, ◌*◌, ◌/◌, ◌%◌, ◌^◌, ◌<◌, ◌≤◌, Bool, true, false, List, refl, ap, ◌∙◌, arith}
use Rattle.std.specs.Prelude.{ℤ, pos, negsuc, neg_ℤ, unsigned_abs}
use Rattle.std.proofs.lemmas.Bool.{lt-ltb, ltb-true}
use Rattle.ln_bound.specs.declared.fitted.Width.{Width}
use Rattle.ln_bound.specs.declared.fitted.Width.TheVariants.{W64, W128}
use Rattle.ln_bound.specs.Widths.{limit}
use Rattle.ln_csyn.specs.declared.tree.CType.{CType}
use Rattle.ln_csyn.specs.declared.tree.CType.TheVariants.{Int64, Int128}
use Rattle.ln_csyn.specs.declared.tree.COp.{COp}
use Rattle.ln_csyn.specs.declared.tree.COp.TheVariants as op
use Rattle.ln_csyn.specs.Tree.{Expr}
use Rattle.ln_csyn.specs.Tree as c
use Rattle.ln_csyn.specs.Meaning.{has, given, operated, is_same, counted, Counts, Scene, Seen, Gives, value_of}
use Rattle.ln_cemit.specs.Emit.{type_of, in_parts, is_short, constant, constant_wide}
use Rattle.ln_cemit.specs.Checked.{plus}
use Rattle.ln_cemit.proofs.Meanings.Numbers.{room, given_is}

given_128 : (n : ℕ) (k : Counts) → n < 2 ^ 127 → given Int128 (pos n) k ≡ Gives Int128 (pos n) k
given_128 n k h = given_is Int128 (pos n) k (lt-ltb n (2 ^ 127) h)

below : {n : ℕ} (w : Width) → n ≤ limit w → n < 2 ^ 127
below W64 h = omega arith
below W128 h = omega arith

-- an operation whose operands have a type
pub two_is : (s : Scene) (ds : List Seen) (o : COp) (t : CType) (a b : Expr) (x y : ℤ) (k i j : Counts) → value_of s ds a k ≡ Gives t x i
    → value_of s ds b i ≡ Gives t y j → is_same t t ≡ true → value_of s ds (c.Two o a b) k ≡ operated o t x y j
two_is s ds o t a b x y k i j e f h = rw (e, f, h)

-- an expression that is cast to a type which its value fits
pub inner_is : (s : Scene) (ds : List Seen) (t u : CType) (a : Expr) (x : ℤ) (k j : Counts) → value_of s ds a k ≡ Gives u x j
    → has t x ≡ true → value_of s ds (c.Inner t a) k ≡ Gives t x j
inner_is s ds t u a x k j e h = rw (e, h)

-- the opposite of an expression, where it fits the type
pub minus_is : (s : Scene) (ds : List Seen) (t : CType) (a : Expr) (x : ℤ) (k j : Counts) → value_of s ds a k ≡ Gives t x j
    → has t (neg_ℤ x) ≡ true → value_of s ds (c.Minus a) k ≡ Gives t (neg_ℤ x) (counted t j)
minus_is s ds t a x k j e h = rw (e, h)

-- a number in m + 1 parts has its value, with 2m wide operations
pub in_parts_is : (s : Scene) (ds : List Seen) (m n : ℕ) (k : Counts) → n < 2 ^ 127 → value_of s ds (in_parts m n) k ≡ Gives Int128 (pos n) (plus (2 * m) k)
in_parts_is s ds zero n k h = given_128 n k h
in_parts_is s ds (suc m) n k h =
    let e = in_parts_is s ds m (n / 2 ^ 31) k (omega arith) in
    let d : n / 2 ^ 31 * 2 ^ 31 + n % 2 ^ 31 ≡ n = omega arith in
    let k1 : Counts = plus (2 * m) k in
    let k2 : Counts = plus (suc (2 * m)) k in
    let k3 : Counts = plus (suc (suc (2 * m))) k in
    let f = two_is s ds op.Mul Int128 (in_parts m (n / 2 ^ 31)) (c.Number Int128 (2 ^ 31)) (pos (n / 2 ^ 31)) (pos (2 ^ 31)) k k1 k1 e
    (given_128 (2 ^ 31) k1 (omega arith)) refl in
    let g = f ∙ given_128 (n / 2 ^ 31 * 2 ^ 31) k2 (omega arith) in
    let l : suc (suc (2 * m)) ≡ 2 * suc m = omega arith in
    two_is s ds op.Add Int128 (c.Two op.Mul (in_parts m (n / 2 ^ 31)) (c.Number Int128 (2 ^ 31))) (c.Number Int128 (n % 2 ^ 31))
    (pos (n / 2 ^ 31 * 2 ^ 31)) (pos (n % 2 ^ 31)) k k2 k2 g (given_128 (n % 2 ^ 31) k2 (omega arith)) refl
    ∙ given_128 (n / 2 ^ 31 * 2 ^ 31 + n % 2 ^ 31) k3 (omega arith)
    ∙ ap (λ v. Gives Int128 (pos v) k3) d
    ∙ ap (λ v. Gives Int128 (pos n) (plus v k)) l

short_is : (s : Scene) (ds : List Seen) (n : ℕ) (k : Counts) → n < 2 ^ 63 → value_of s ds (c.Number Int64 n) k ≡ Gives Int64 (pos n) k
short_is s ds n k h = given_is Int64 (pos n) k (lt-ltb n (2 ^ 63) h)

-- a constant that fits a width has its value in the type of that width, with the wide operations that are counted for it
pub constant_is : (s : Scene) (ds : List Seen) (w : Width) (z : ℤ) (k : Counts) → unsigned_abs z ≤ limit w
    → value_of s ds (c.Inner (type_of w) (constant z)) k ≡ Gives (type_of w) z (plus (constant_wide z) k)
constant_is s ds w (pos n) k h = by_case (is_short n) refl where
  by_case : (v : Bool) → is_short n ≡ v → value_of s ds (c.Inner (type_of w) (constant (pos n))) k ≡ Gives (type_of w) (pos n) (plus (constant_wide (pos n)) k)
  by_case true e =
      let v = short_is s ds n k (ltb-true n (2 ^ 63) e) in
      rw e (inner_is s ds (type_of w) Int64 (c.Number Int64 n) (pos n) k k v (room w (pos n) h))
  by_case false e =
      let v = in_parts_is s ds 4 n k (below w h) in
      rw e (inner_is s ds (type_of w) Int128 (in_parts 4 n) (pos n) k (plus 8 k) v (room w (pos n) h))
constant_is s ds w (negsuc n) k h = by_case (is_short (suc n)) refl where
  by_case : (v : Bool) → is_short (suc n) ≡ v
      → value_of s ds (c.Inner (type_of w) (constant (negsuc n))) k ≡ Gives (type_of w) (negsuc n) (plus (constant_wide (negsuc n)) k)
  by_case true e =
      let v = short_is s ds (suc n) k (ltb-true (suc n) (2 ^ 63) e) in
      let m = minus_is s ds Int64 (c.Number Int64 (suc n)) (pos (suc n)) k k v (lt-ltb n (2 ^ 63) (omega (arith, ltb-true (suc n) (2 ^ 63) e))) in
      rw e (inner_is s ds (type_of w) Int64 (c.Minus (c.Number Int64 (suc n))) (negsuc n) k (plus 0 k) m (room w (negsuc n) h))
  by_case false e =
      let v = in_parts_is s ds 4 (suc n) k (below w h) in
      let m = minus_is s ds Int128 (in_parts 4 (suc n)) (pos (suc n)) k (plus 8 k) v (lt-ltb n (2 ^ 127) (omega (arith, below w h))) in
      rw e (inner_is s ds (type_of w) Int128 (c.Minus (in_parts 4 (suc n))) (negsuc n) k (plus 1 (plus 8 k)) m (room w (negsuc n) h))
