-- The distinct subtrees of a block's trees, by number: each has its operation over the numbers of its operands, its range and its width.
use Rattle.std.specs.Prelude.{◌≡◌, ℕ, List, Option, Some, None, slice_get}
use Rattle.ln_interval.specs.Range.{Range}
use Rattle.ln_bound.specs.declared.fitted.Width.{Width}
use Rattle.ln_bound.specs.Typed.{Typed, TNum, TInput, TLet, TNeg, TTwo, TPow}
use Rattle.ln_code.specs.Walk.{AreKeptNumbers}
use Rattle.ln_lower.specs.declared.distinct.Key.{Key}
use Rattle.ln_lower.specs.declared.distinct.KeyOp.{KeyOp}
use Rattle.ln_lower.specs.declared.distinct.KeyOp.TheVariants.{Number, Variable, Name, Opposite, Both, Raised}

-- a subtree by its root: its operation over the numbers of its operands, its range and its width
abbrev pub key : KeyOp → Range → Width → Key
key o p w = record { op = o; low = p.low; high = p.high; width = w }

-- number k is this tree
abbrev pub IsNumberOf : List Key → ℕ → Typed → Type 0
IsNumberOf ks k (TNum c p w) = slice_get ks k ≡ Some (key (Number c) p w)
IsNumberOf ks k (TInput v p w) = slice_get ks k ≡ Some (key (Variable v) p w)
IsNumberOf ks k (TLet j p w) = slice_get ks k ≡ Some (key (Name j) p w)
IsNumberOf ks k (TNeg t p w) = (a : ℕ) × (slice_get ks k ≡ Some (key (Opposite a) p w)) × IsNumberOf ks a t
IsNumberOf ks k (TTwo o s t p w) = (a : ℕ) × (b : ℕ) × (slice_get ks k ≡ Some (key (Both o a b) p w)) × IsNumberOf ks a s × IsNumberOf ks b t
IsNumberOf ks k (TPow t n p w) = (a : ℕ) × (slice_get ks k ≡ Some (key (Raised a n) p w)) × IsNumberOf ks a t

-- these numbers are these trees, one by one
abbrev pub AreNumbersOf : List Key → List ℕ → List Typed → Type 0
AreNumbersOf ks = AreKeptNumbers (IsNumberOf ks)

-- the second list has what the first has, at the same numbers
abbrev pub Extends : List Key → List Key → Type 0
Extends ks ls = (k : ℕ) (x : Key) → slice_get ks k ≡ Some x → slice_get ls k ≡ Some x

-- number k is this subtree, and the numbers so far are kept
pub record Added (ks ls : List Key) (k : ℕ) (x : Key) : Type 0 where
  pub there : slice_get ls k ≡ Some x
  pub more : Extends ks ls

-- number k is this tree, and the numbers so far are kept
pub record Numbered (ks ls : List Key) (k : ℕ) (t : Typed) : Type 0 where
  pub stands : IsNumberOf ls k t
  pub more : Extends ks ls

-- the operand, of two the left one
abbrev pub operand_in : KeyOp → ℕ
operand_in (Number c) = 0
operand_in (Variable v) = 0
operand_in (Name j) = 0
operand_in (Opposite a) = a
operand_in (Both o a b) = a
operand_in (Raised a n) = a

-- the right operand of two
abbrev pub right_in : KeyOp → ℕ
right_in (Number c) = 0
right_in (Variable v) = 0
right_in (Name j) = 0
right_in (Opposite a) = 0
right_in (Both o a b) = b
right_in (Raised a n) = 0

-- the operand of a subtree, of two the left one; 0 where there is none
abbrev pub operand_or : Option Key → ℕ
operand_or None = 0
operand_or (Some x) = operand_in x.op

-- the right operand of a subtree, where it has two; 0 where it hasn't
abbrev pub right_or : Option Key → ℕ
right_or None = 0
right_or (Some x) = right_in x.op
