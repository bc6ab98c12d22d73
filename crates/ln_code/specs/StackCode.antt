-- The stack code of a tree: which operations it has, in order, each with its bound. Equal subtrees may be computed once.
use Rattle.std.specs.Prelude.{◌≡◌, ℕ, zero, suc, ◌+◌, ℤ, pos, Bool, true, false, List, [], ◌∷◌, ◌++◌, length, Some, slice_get}
use Rattle.ln_interval.specs.Range.{Range, power}
use Rattle.ln_bound.specs.declared.fitted.Width.{Width}
use Rattle.ln_bound.specs.declared.fitted.Two.{Two}
use Rattle.ln_bound.specs.Typed.{Typed, TNum, TInput, TLet, TNeg, TTwo, TPow, pair}
use Rattle.ln_code.specs.declared.op.Op.{Op}
use Rattle.ln_code.specs.declared.op.Op.TheVariants.{Cut, Get, Input, Mul, Neg, Push, Set}
use Rattle.ln_code.specs.Engine.{Line, op_of}

-- an operation with its bound
abbrev pub line : {B : Type 0} → Op → B → Line B
line o b = record { op = o; bound = b }

-- how code is written, after given lets: blocks carry ranges and divide nothing, filters carry triples
pub record Style (B : Type 0) : Type 0 where
  -- the bound of a tree's value
  pub mark : Typed → B
  -- the bound of a variable, of a sum, difference or product, and of a power's last product, before it is divided
  pub raw : Typed → B
  -- by which power of 2 what has this bound is then divided
  pub excess : B → ℕ
  -- by which power of 2 an operand is divided that has the first bound, where the other operand has the second
  pub align : Two → B → B → ℕ
  -- the bound after a division by 2^n
  pub divided : ℕ → B → B
  -- the width at which the operation of a node of this width is done
  pub at_width : Width → Width
  -- the bound of what stores
  pub none : B

-- the division by 2^n of what has this bound; none by 1
abbrev pub division : {B : Type 0} → (ℕ → B → B) → ℕ → B → List (Line B)
division divided zero b = []
division divided (suc n) b = line (Cut (suc n)) (divided (suc n) b) ∷ []

-- an operation that pushes what has this bound, and the division that follows it
abbrev pub with_division : {B : Type 0} → Style B → Op → B → List (Line B)
with_division y o b = line o b ∷ division y.divided (y.excess b) b

-- t to the power of n, in the width w
abbrev pub raised_to : Typed → ℕ → Width → Typed
raised_to t n w = TPow t n (power (pair t) n) w

-- this many more factors, from the power m of t on; local 64 has the base
abbrev pub factors : {B : Type 0} → Style B → Typed → Width → ℕ → ℕ → List (Line B)
factors y t w m zero = []
factors y t w m (suc n) = line (Get 64) (y.mark t) ∷ (with_division y (Mul (y.at_width w)) (y.raw (raised_to t (suc m) w)) ++ factors y t w (suc m) n)

-- from the value of t on the stack to its power n + 1
abbrev pub power_of : {B : Type 0} → Style B → Typed → Width → ℕ → List (Line B)
power_of y t w zero = []
power_of y t w (suc n) = line (Set 64) y.none ∷ (line (Get 64) (y.mark t) ∷ factors y t w 1 (suc n))

-- what follows the left operand of a sum, difference or product
abbrev pub after_left : {B : Type 0} → Style B → Two → Typed → Typed → List (Line B)
after_left y o t u = division y.divided (y.align o (y.mark t) (y.mark u)) (y.mark t)

-- and what follows the right one
abbrev pub after_right : {B : Type 0} → Style B → Two → Typed → Typed → Range → Width → List (Line B)
after_right y o t u p w =
    division y.divided (y.align o (y.mark u) (y.mark t)) (y.mark u) ++ with_division y (op_of o (y.at_width w)) (y.raw (TTwo o t u p w))

-- from a value on the stack to the same in local j and on the stack
abbrev pub keeping : {B : Type 0} → B → ℕ → B → List (Line B)
keeping none j b = line (Set j) none ∷ (line (Get j) b ∷ [])

-- the operations of a tree. The trees of the first list are in the locals from 65 on, in order; those of the second are stored after
-- them. In the end: was the value computed by the last operation? Then it may be kept
pub data IsCode {B : Type 0} (y : Style B) : List Typed → Typed → List (Line B) → List Typed → Bool → Type 0 where
  number : {kept : List Typed} (c : ℤ) (p : Range) (w : Width) → IsCode y kept (TNum c p w) (line (Push c) (y.mark (TNum c p w)) ∷ []) [] true
  variable : {kept : List Typed} (v : ℕ) (p : Range) (w : Width) → IsCode y kept (TInput v p w) (with_division y (Input v) (y.raw (TInput v p w))) [] true
  name : {kept : List Typed} (j : ℕ) (p : Range) (w : Width) → IsCode y kept (TLet j p w) (line (Get j) (y.mark (TLet j p w)) ∷ []) [] true
  -- a tree that is kept
  again : {kept : List Typed} {t : Typed} (i : ℕ) → slice_get kept i ≡ Some t →
      IsCode y kept t (line (Get (65 + i)) (y.mark t) ∷ []) [] false
  opposite : {kept more : List Typed} {t : Typed} {lines : List (Line B)} {b : Bool} (p : Range) (w : Width) →
      IsCode y kept t lines more b → IsCode y kept (TNeg t p w) (lines ++ (line (Neg (y.at_width w)) (y.mark (TNeg t p w)) ∷ [])) more true
  two : {kept m n : List Typed} {t u : Typed} {left right : List (Line B)} {a b : Bool} (o : Two) (p : Range) (w : Width) →
      IsCode y kept t left m a → IsCode y (kept ++ m) u right n b →
      IsCode y kept (TTwo o t u p w) (left ++ (after_left y o t u ++ (right ++ after_right y o t u p w))) (m ++ n) true
  zeroth : {kept : List Typed} (t : Typed) (p : Range) (w : Width)
      → IsCode y kept (TPow t zero p w) (line (Push (pos 1)) (y.mark (TPow t zero p w)) ∷ []) [] true
  raised : {kept more : List Typed} {t : Typed} {lines : List (Line B)} {b : Bool} (n : ℕ) (p : Range) (w : Width) →
      IsCode y kept t lines more b → IsCode y kept (TPow t (suc n) p w) (lines ++ power_of y t w n) more true
  -- a tree that is kept from here on
  keep : {kept more : List Typed} {t : Typed} {lines : List (Line B)} → IsCode y kept t lines more true →
      IsCode y kept t (lines ++ keeping y.none (65 + length (kept ++ more)) (y.mark t)) (more ++ (t ∷ [])) false

-- the operations of lets, each written after the lets before it and stored in the local of its number, and the trees that are kept from local 65 on
pub data AreCode {B : Type 0} (y : List Typed → Style B) : List Typed → List (Line B) → List Typed → Type 0 where
  none : AreCode y [] [] []
  more : {ts : List Typed} {t : Typed} {lines last : List (Line B)} {kept new : List Typed} {b : Bool} →
      AreCode y ts lines kept → IsCode (y ts) kept t last new b →
      AreCode y (ts ++ (t ∷ [])) (lines ++ (last ++ (line (Set (length ts)) (y ts).none ∷ []))) (kept ++ new)

-- the operations of lets, then those of the tree, and nothing else
pub record IsCodeIn {B : Type 0} (y : List Typed → Style B) (lets : List Typed) (t : Typed) (lines : List (Line B)) : Type 0 where
  pub first : List (Line B)
  pub last : List (Line B)
  pub kept : List Typed
  pub new : List Typed
  pub computed : Bool
  pub lets_code : AreCode y lets first kept
  pub root_code : IsCode (y lets) kept t last new computed
  pub all : lines ≡ first ++ last
