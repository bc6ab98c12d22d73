-- Trees whose ranges are exactly those of their nodes, and whose widths are the least.
use Rattle.std.specs.Prelude.{◌≡◌, ℕ, ◌≤◌, List, [], ◌∷◌, ◌++◌, Option, Some, None, slice_get}
use Rattle.ln_tree.specs.declared.shape.VarInfo.{VarInfo}
use Rattle.ln_bound.specs.declared.fitted.Width.{Width}
use Rattle.ln_bound.specs.Widths.{least, wider}
use Rattle.ln_interval.specs.Range.{Range, point, opposite, power, magnitude}
use Rattle.ln_bound.specs.Ranges.{ranges}
use Rattle.ln_bound.specs.Typed.{Typed, TNum, TInput, TLet, TNeg, TTwo, TPow, pair, width, range_of}

-- the range is the let's, and the width is the least that fits it and is no narrower than the let
abbrev pub IsOfLet : Option Typed → Range → Width → Type 0
IsOfLet None p w = ⊥
IsOfLet (Some u) p w = (p ≡ pair u) × (w ≡ wider (width u) (least (magnitude p)))

-- the range of each node is its operation over the operands' ranges, of a variable the declared one, and its width is the least
-- that fits the range and is no narrower than an operand
abbrev pub IsExact : List VarInfo → List Typed → Typed → Type 0
IsExact vars lets (TNum c p w) = (p ≡ point c) × (w ≡ least (magnitude p))
IsExact vars lets (TInput v p w) = (p ≡ ranges vars v) × (w ≡ least (magnitude p))
IsExact vars lets (TLet j p w) = IsOfLet (slice_get lets j) p w
IsExact vars lets (TNeg t p w) = IsExact vars lets t × (p ≡ opposite (pair t)) × (w ≡ wider (width t) (least (magnitude p)))
IsExact vars lets (TTwo k s t p w) = IsExact vars lets s × IsExact vars lets t × (p ≡ range_of k (pair s) (pair t))
    × (w ≡ wider (wider (width s) (width t)) (least (magnitude p)))
IsExact vars lets (TPow t n p w) = IsExact vars lets t × (p ≡ power (pair t) n) × (w ≡ wider (width t) (least (magnitude p)))

-- so in each let, over the lets before it, after these
abbrev pub AreExact : List VarInfo → List Typed → List Typed → Type 0
AreExact vars done [] = Unit {0}
AreExact vars done (t ∷ ts) = IsExact vars done t × AreExact vars (done ++ t ∷ []) ts

-- the range of each node is within -n .. n
abbrev pub AreWithinPairs : ℕ → Typed → Type 0
AreWithinPairs n (TNum c p w) = magnitude p ≤ n
AreWithinPairs n (TInput v p w) = magnitude p ≤ n
AreWithinPairs n (TLet j p w) = magnitude p ≤ n
AreWithinPairs n (TNeg t p w) = AreWithinPairs n t × (magnitude p ≤ n)
AreWithinPairs n (TTwo k s t p w) = AreWithinPairs n s × AreWithinPairs n t × (magnitude p ≤ n)
AreWithinPairs n (TPow t k p w) = AreWithinPairs n t × (magnitude p ≤ n)
