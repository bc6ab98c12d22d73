-- Proves what a rule on a range means where it holds, and when it holds.
use Rattle.std.proofs.Common.{◌≡◌, ℕ, ℤ, ◌≤◌, Bool, true, false, refl, arith, ◌&&◌, ap, ◌+◌, ◌*◌, sym, subst, ◌⊎◌, inl, inr, ◌<◌, ◌^◌, ◌-◌, [], ◌∷◌}
use Rattle.std.proofs.Common.{unsigned_abs, ◌≢◌, ◌∙◌}
use Rattle.std.specs.Prelude.{Some, nat_le, Option, None, if◌then◌else◌, ◌==◌, OnSome, min, pos}
use Rattle.std.proofs.lemmas.Bool.{and_parts, leb-true, le-leb}
use Rattle.std.proofs.lemmas.Int.{ints}
use Rattle.ln_algebra.specs.Tree.{Tree}
use Rattle.ln_interval.specs.Range.{Covers, Range, magnitude, most}
use Rattle.ln_bound.specs.declared.fitted.Width.{Width}
use Rattle.ln_bound.specs.Sound.{IsIn, covers, is_in}
use Rattle.ln_bound.specs.Widths.{least, limit}
use Rattle.ln_bound.proofs.Soundness.SoundLaws.{covers_say, is_in_says}
use Rattle.ln_verify.specs.BlockRules.{balanced}
use Rattle.ln_code.specs.Rules.{known}
use Rattle.ln_code.proofs.Following.Known.{both, le_test, limit_wide}
use Rattle.ln_interval.specs.declared.pair.Pair.{Pair}
use Rattle.ln_interval.specs.View.{range}
use Rattle.ln_bound.specs.declared.fitted.Two.{Two}
use Rattle.ln_bound.specs.declared.fitted.Two.TheVariants.{Minus, Plus, Times}
use Rattle.ln_bound.specs.Typed.{bound_of, two_of}
use Rattle.ln_code.specs.declared.op.Triple.{Triple}
use Rattle.ln_code.specs.Engine.{when}
use Rattle.ln_code.specs.FilterRules as filter
use Rattle.ln_code.specs.FilterRules.{FilterKnown, filter_known, two_known}
use Rattle.ln_verify.specs.Joined.{two_covers}
use Rattle.ln_verify.specs.Rules.{AreEnds, FitsNot, IsRule, in_triple, IsKnown, IsSize}
use Rattle.ln_verify.specs.Versions.{Allows}
use Rattle.ln_algebra.proofs.Expanded.Normal.{zero_cases}
use Rattle.ln_poly.specs.Sparse.{Sparse, size_of}
use Rattle.ln_poly.proofs.TermLists.Coefficients.{size-cons, size-nil}
use Rattle.ln_due.specs.Small.{IsSmall}
use Rattle.ln_verify.specs.Values.{IsFor, IsMade}
use Rattle.ln_verify.specs.declared.value.Value.{Value}

-- ---- the range of a bound
-- the magnitude of a bound's range is the bound
pub balanced-magnitude : (b : ℕ) → magnitude (balanced b) ≡ b
balanced-magnitude b = omega (arith, ints)

-- the least width of a bound's range is that of the bound
pub least-balanced : (b : ℕ) → least (magnitude (balanced b)) ≡ least b
least-balanced b = ap least (balanced-magnitude b)

-- the range of a bound fits each width whose limit is at least the bound
pub balanced-within : (b : ℕ) (w : Width) → b ≤ limit w → IsIn (balanced b) w
balanced-within b w h = let e = balanced-magnitude b in (omega (arith, ints), omega (arith, e, h))

-- false isn't true
pub not-true : (P : Type 0) → false ≡ true → P
not-true P e = absurd (cc)

-- ---- blocks
-- a rule by its test of the range
known-by : (b : Bool) (r p : Range) (w : Width) (s : ℕ) (t : Tree) → (covers r p && is_in r w) ≡ b
    → known p r w s t ≡ when (b && nat_le s most) (record { range = r; width = w; tree = t; size = s })
known-by b r p w s t e = ap (λ (q : Bool). when (q && nat_le s most) (record { range = r; width = w; tree = t; size = s })) e

-- where the range doesn't cover what it has to, or doesn't fit, nothing is known
pub not-ruled : (p r : Range) (w : Width) (s : ℕ) (t : Tree) → (Allows p r w → ⊥) → known p r w s t ≡ None
not-ruled p r w s t h = go (covers r p && is_in r w) refl
  where
    go : (b : Bool) → (covers r p && is_in r w) ≡ b → known p r w s t ≡ None
    go false e = known-by false r p w s t e
    go true e = let q = and_parts (covers r p) (is_in r w) e in absurd (h (covers_say r p q.0, is_in_says r w q.1))

-- where it does, its running size decides
pub is-ruled : (p r : Range) (w : Width) (s : ℕ) (t : Tree) → Allows p r w
    → known p r w s t ≡ when (nat_le s most) (record { range = r; width = w; tree = t; size = s })
is-ruled p r w s t h =
    let c : covers r p ≡ true = both _ _ (le_test _ _ h.0.0) (le_test _ _ h.0.1) in
    let n : is_in r w ≡ true = both _ _ (le_test _ _ h.1.0) (le-leb _ _ h.1.1) in
    known-by true r p w s t (both (covers r p) (is_in r w) c n)

-- a rule that holds
pub known-is : (enough p : Range) (w : Width) (s : ℕ) (t : Tree) → Covers p enough → IsIn p w → s ≤ most
    → known enough p w s t ≡ Some (record { range = p; width = w; tree = t; size = s })
known-is enough p w s t h i l =
    is-ruled enough p w s t (h, i) ∙ ap (λ (b : Bool). when b (record { range = p; width = w; tree = t; size = s })) (le-leb s most l)

-- ends that are those of no pair that fits
pub not-fit : (p r : Range) (w : Width) (s : ℕ) (t : Tree) → FitsNot r → known p r w s t ≡ None
not-fit p r w s t h = not-ruled p r w s t (λ a. let l = limit_wide w in let m = a.1.1 in h (a.1.0, omega (arith, l, m)))

-- the ends on a line, which are those of no pair
pub no-ends : (o : Option Pair) (p : Range) → o ≡ None → AreEnds o p → FitsNot p
no-ends None p e h = h
no-ends (Some b) p e h = cc

-- the ends on a line, which are those of this pair
pub the-ends : (o : Option Pair) (b : Pair) (p : Range) → o ≡ Some b → AreEnds o p → range b ≡ p
the-ends o b p e h = subst (λ (q : Option Pair). AreEnds q p) e h

-- ---- the widths of operands
-- where nothing is known, nothing is known after a test
pub none-if : {A : Type 0} (b : Bool) (o : Option A) → o ≡ None → (if b then o else None) ≡ None
none-if true o h = h
none-if false o h = refl

-- where the second of two tests fails, nothing is known
pub none-right : {A : Type 0} (b c : Bool) (o : Option A) → c ≡ false → (if b && c then o else None) ≡ None
none-right b true o e = cc
none-right true false o e = refl
none-right false false o e = refl

-- ---- filters
module _ (a : Triple) (s : ℕ) (t : Tree) where
  -- a triple that covers what it has to, or doesn't
  pub covering : (b : Bool) (k h e : ℕ) → b ≡ filter.covers k h e a → IsRule in_triple (if b then Some a else None) t s (filter_known k h e s t a)
  covering true k h e q = ap (λ (z : Bool). when (z && nat_le s most) (in_triple a t s)) (sym q)
  covering false k h e q = ap (λ (z : Bool). when (z && nat_le s most) (in_triple a t s)) (sym q)

  -- of two that have to have the same k
  pub adding : (c : Bool) (b : Bool) (k h e : ℕ) → b ≡ (c && filter.covers k h e a)
      → IsRule in_triple (if b then Some a else None) t s (if c then filter_known k h e s t a else None)
  adding true b k h e q = covering b k h e q
  adding false true k h e q = cc
  adding false false k h e q = refl

-- limits in code, and what a line tells the rules
pub by-triple : (rule : Triple → Option FilterKnown) (o : Option Triple) (b : Bool) (a z : Triple) (t : Tree) (s : ℕ) → o ≡ (if b then Some a else None)
    → a ≡ z → IsRule in_triple (if b then Some a else None) t s (rule a) → IsRule in_triple o t s (rule z)
by-triple rule o b a z t s e h r =
    subst (λ (y : Triple). IsRule in_triple o t s (rule y)) h (subst (λ (q : Option Triple). IsRule in_triple q t s (rule a)) (sym e) r)

-- a sum, a difference or a product
pub two-covering : (o : Two) (b : Bool) (x y a : Triple) (d e : Tree) (m n : ℕ) → b ≡ two_covers o x y a
    → IsRule in_triple (if b then Some a else None) (two_of o d e) (bound_of o m n) (two_known o a (in_triple x d m) (in_triple y e n))
two-covering Plus b x y a d e m n q = adding a (m + n) (two_of Plus d e) (x.k == y.k) b x.k (x.h + y.h) (x.e + y.e) q
two-covering Minus b x y a d e m n q = adding a (m + n) (two_of Minus d e) (x.k == y.k) b x.k (x.h + y.h) (x.e + y.e) q
two-covering Times b x y a d e m n q = covering a (m * n) (two_of Times d e) b (x.k + y.k) (x.h * y.h) (x.h * y.e + y.h * x.e + x.e * y.e) q

-- ---- running sizes
-- a size that is worked out exactly
pub exact : (size s : ℕ) → size ≡ s → IsSize size s
exact size s e = (λ h. e, λ h. e)

-- and one that is worked out up to 2^128 - 1
pub capped : (size s : ℕ) → size ≡ min s (2 ^ 128 - 1) → IsSize size s
capped size s e = (λ h. omega (arith, e, h), λ h. omega (arith, e, h))

-- what is true is true of what there is
pub on-some : {A P : Type 0} (o : Option A) → P → OnSome o P
on-some None p = tt
on-some (Some a) p = p

module _ {L K : Type 0} (known : L → Tree → ℕ → K) (t : Tree) (size s : ℕ) (r : Option K) (z : IsSize size s) where
  -- where the running size is too large nothing is known
  pub too-large : (o : Option L) → most < size → IsRule known o t s r → IsKnown {L = L} known None t s r
  too-large None l h = h
  too-large (Some x) l h = go (nat_le s most) refl
    where
      go : (b : Bool) → nat_le s most ≡ b → r ≡ None
      go false e = h ∙ ap (λ (q : Bool). when q (known x t s)) e
      go true e = let a : s ≤ most = leb-true s most e in let i = z.1 a in absurd (omega (arith, a, i, l))

  -- and where it isn't the rule says what is known
  pub small-enough : (o : Option L) → size ≤ most → IsRule known o t s r → IsKnown known o t s r
  small-enough None l h = h
  small-enough (Some x) l h =
      let i : size ≡ s = z.0 l in
      let a : s ≤ most = omega (arith, i, l) in
      h ∙ ap (λ (q : Bool). when q (known x t s)) (le-leb s most a)

-- ---- what is made
module _ {L K : Type 0} (known : L → Tree → ℕ → K) (tree : K → Tree) (same : (x : L) (t : Tree) (s : ℕ) → tree (known x t s) ≡ t) (n : ℕ) where
  -- no rule holds
  pub nothing : (t : Tree) (s : ℕ) (r : Option K) → IsKnown {L = L} known None t s r → IsMade (IsFor known n) tree n None r
  nothing t s r h = subst (λ (q : Option K). IsMade (IsFor known n) tree n None q) (sym h) tt

  -- what would be pushed isn't small
  pub large : (x : L) (t : Tree) (s : ℕ) (r : Option K) → IsKnown known (Some x) t s r → (IsSmall n t → ⊥) → IsMade (IsFor known n) tree n None r
  large x t s r h f = subst (λ (q : Option K). IsMade (IsFor known n) tree n None q) (sym h) (λ small. f (subst (IsSmall n) (same x t s) small))

  -- the rule holds
  pub made : (x : L) (t : Tree) (size s : ℕ) (r : Option K) (o : Option (Value L)) → IsKnown known (Some x) t s r → size ≡ s
      → IsMade (IsFor known n) tree n o (Some (known x t size)) → IsMade (IsFor known n) tree n o r
  made x t size s r o h e m = subst (λ (q : Option K). IsMade (IsFor known n) tree n o q) (ap (λ z. Some (known x t z)) e ∙ sym h) m

-- ---- the sizes of polynomials
-- the size of a number's polynomial is at most the number's absolute value
pub number-heavy : (c : ℤ) (f : Sparse) → (c ≡ pos 0 → f ≡ []) → (c ≢ pos 0 → f ≡ ([], c) ∷ []) → size_of f ≤ unsigned_abs c
number-heavy c f h k = by_case (zero_cases c)
  where
    one : (d : ℤ) → size_of (([], d) ∷ []) ≤ unsigned_abs d
    one d = omega (arith, size-cons ([], d) [], size-nil)

    by_case : (c ≡ pos 0) ⊎ (c ≡ pos 0 → ⊥) → size_of f ≤ unsigned_abs c
    by_case (inl e) = subst (λ (g : Sparse). size_of g ≤ unsigned_abs c) (sym (h e)) (omega (arith, size-nil))
    by_case (inr d) = subst (λ (g : Sparse). size_of g ≤ unsigned_abs c) (sym (k d)) (one c)

-- the size of a variable's polynomial is at most each running size from 1 on
pub input-heavy : (k s : ℕ) (f : Sparse) → 1 ≤ s → f ≡ ((k, 1) ∷ [], pos 1) ∷ [] → size_of f ≤ s
input-heavy k s f h e = subst (λ (g : Sparse). size_of g ≤ s) (sym e) (omega (arith, size-cons ((k, 1) ∷ [], pos 1) [], size-nil, h))
