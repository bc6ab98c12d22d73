-- What makes a tree with ranges and widths sound, and what is then known of its values.
use Rattle.std.specs.Prelude.{◌≡◌, ℕ, ◌<◌, ◌≤◌, ◌&&◌, nat_le, nat_lt, int_le, Bool, true, false, ℤ}
use Rattle.std.specs.Prelude.{unsigned_abs, List, [], ◌∷◌, ◌++◌, length, map, Option, Some, None, slice_get}
use Rattle.ln_algebra.specs.Tree.{Tree, Num, Input, Name, Neg, Add, Sub, Mul, Pow}
use Rattle.ln_tree.specs.declared.shape.VarInfo.{VarInfo}
use Rattle.ln_bound.specs.declared.fitted.Width.{Width}
use Rattle.ln_bound.specs.Value.{value, weight_over}
use Rattle.ln_bound.specs.Room.{HasRoom, let_bounds}
use Rattle.ln_bound.specs.Widths.{limit, no_wider}
use Rattle.ln_interval.specs.Range.{Range, Holds, Covers, IsOrdered, opposite, power, magnitude, most}
use Rattle.ln_bound.specs.Ranges.{ranges}
use Rattle.ln_algebra.specs.Sizes.{one}
use Rattle.ln_bound.specs.Typed.{Typed, TNum, TInput, TLet, TNeg, TTwo, TPow, pair, width, untyped, range_of, need}

-- the range is one, and fits the width
abbrev pub IsIn : Range → Width → Type 0
IsIn p w = IsOrdered p × (magnitude p ≤ limit w)

-- the let's range is covered, and the let is no wider
abbrev pub CoversLet : Option Typed → Range → Width → Type 0
CoversLet None p w = ⊥
CoversLet (Some u) p w = Covers p (pair u) × (no_wider (width u) w ≡ true)

-- at each node the range covers the operation over the operands' ranges and fits the width, and no operand is wider; an input is
-- a variable, and its range covers the variable's; a let is one of these
abbrev pub SoundNodes : List VarInfo → List Typed → Typed → Type 0
SoundNodes vars lets (TNum c p w) = Holds p c × IsIn p w
SoundNodes vars lets (TInput v p w) = (v < length vars) × Covers p (ranges vars v) × IsIn p w
SoundNodes vars lets (TLet j p w) = CoversLet (slice_get lets j) p w × IsIn p w
SoundNodes vars lets (TNeg t p w) = SoundNodes vars lets t × Covers p (opposite (pair t)) × IsIn p w × (no_wider (width t) w ≡ true)
SoundNodes vars lets (TTwo k s t p w) = SoundNodes vars lets s × SoundNodes vars lets t × Covers p (range_of k (pair s) (pair t))
    × IsIn p w × (no_wider (width s) w ≡ true) × (no_wider (width t) w ≡ true)
SoundNodes vars lets (TPow t n p w) = SoundNodes vars lets t × Covers p (power (pair t) n) × IsIn p w × (no_wider (width t) w ≡ true)

-- the running sizes of lets
abbrev pub running : List Typed → List ℕ
running lets = let_bounds one [] (map untyped lets)

-- a tree is sound over variables, after these lets
pub record Sound (vars : List VarInfo) (lets : List Typed) (t : Typed) : Type 0 where
  pub nodes : SoundNodes vars lets t
  pub sizes : HasRoom one (running lets) (untyped t)
  pub deep : need t ≤ 2048

-- each let is sound over the lets before it, after these
abbrev pub AreSound : List VarInfo → List Typed → List Typed → Type 0
AreSound vars done [] = Unit {0}
AreSound vars done (t ∷ ts) = Sound vars done t × AreSound vars (done ++ t ∷ []) ts

-- ---- the same as tests
-- is the integer in the range?
abbrev pub holds : Range → ℤ → Bool
holds p z = int_le p.low z && int_le z p.high

-- does the range p cover the range q?
abbrev pub covers : Range → Range → Bool
covers p q = int_le p.low q.low && int_le q.high p.high

-- is the range in order, and does it fit the width?
abbrev pub is_in : Range → Width → Bool
is_in p w = int_le p.low p.high && nat_le (magnitude p) (limit w)

-- is there such a let, does p cover its range, and is it no wider than w?
abbrev pub covers_let : Option Typed → Range → Width → Bool
covers_let None p w = false
covers_let (Some u) p w = covers p (pair u) && no_wider (width u) w

-- does each node of the tree have a range and a width that are sound over these variables and lets?
abbrev pub sound_nodes : List VarInfo → List Typed → Typed → Bool
sound_nodes vars lets (TNum c p w) = holds p c && is_in p w
sound_nodes vars lets (TInput v p w) = nat_lt v (length vars) && covers p (ranges vars v) && is_in p w
sound_nodes vars lets (TLet j p w) = covers_let (slice_get lets j) p w && is_in p w
sound_nodes vars lets (TNeg t p w) = sound_nodes vars lets t && covers p (opposite (pair t)) && is_in p w && no_wider (width t) w
sound_nodes vars lets (TTwo k s t p w) = sound_nodes vars lets s && sound_nodes vars lets t
    && covers p (range_of k (pair s) (pair t)) && is_in p w && no_wider (width s) w && no_wider (width t) w
sound_nodes vars lets (TPow t n p w) = sound_nodes vars lets t && covers p (power (pair t) n) && is_in p w && no_wider (width t) w

-- the running size of each node is at most 2^127 - 1
abbrev pub has_room : List ℕ → Tree → Bool
has_room ss (Num c) = nat_le (weight_over one ss (Num c)) most
has_room ss (Input v) = nat_le (weight_over one ss (Input v)) most
has_room ss (Name j) = nat_le (weight_over one ss (Name j)) most
has_room ss (Neg e) = has_room ss e && nat_le (weight_over one ss (Neg e)) most
has_room ss (Add e f) = has_room ss e && has_room ss f && nat_le (weight_over one ss (Add e f)) most
has_room ss (Sub e f) = has_room ss e && has_room ss f && nat_le (weight_over one ss (Sub e f)) most
has_room ss (Mul e f) = has_room ss e && has_room ss f && nat_le (weight_over one ss (Mul e f)) most
has_room ss (Pow e n) = has_room ss e && nat_le (weight_over one ss (Pow e n)) most

-- is the tree sound over the variables, after these lets?
abbrev pub is_sound : List VarInfo → List Typed → Typed → Bool
is_sound vars lets t = sound_nodes vars lets t && has_room (running lets) (untyped t) && nat_le (need t) 2048

-- is each let sound over the lets before it, after these?
abbrev pub are_sound : List VarInfo → List Typed → List Typed → Bool
are_sound vars done [] = true
are_sound vars done (t ∷ ts) = is_sound vars done t && are_sound vars (done ++ t ∷ []) ts

-- ---- values
-- a value is in the range and fits the width
abbrev pub Fits : ℤ → Range → Width → Type 0
Fits z p w = Holds p z × (unsigned_abs z ≤ limit w)

-- the value of each node is in its range and fits its width, where variable v has the value x v and let j the value of number j in the list
abbrev pub IsBounded : (ℕ → ℤ) → List ℤ → Typed → Type 0
IsBounded x lets (TNum c p w) = Fits c p w
IsBounded x lets (TInput v p w) = Fits (x v) p w
IsBounded x lets (TLet j p w) = Fits (value x lets (untyped (TLet j p w))) p w
IsBounded x lets (TNeg t p w) = IsBounded x lets t × Fits (value x lets (untyped (TNeg t p w))) p w
IsBounded x lets (TTwo k s t p w) = IsBounded x lets s × IsBounded x lets t × Fits (value x lets (untyped (TTwo k s t p w))) p w
IsBounded x lets (TPow t n p w) = IsBounded x lets t × Fits (value x lets (untyped (TPow t n p w))) p w

-- so in each let, with the values of the lets before it, after these
abbrev pub AreBounded : (ℕ → ℤ) → List ℤ → List Typed → Type 0
AreBounded x done [] = Unit {0}
AreBounded x done (t ∷ ts) = IsBounded x done t × AreBounded x (done ++ value x done (untyped t) ∷ []) ts
