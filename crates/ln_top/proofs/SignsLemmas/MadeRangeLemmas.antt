-- A row that is made of words is in range.
use Rattle.std.proofs.Common.{◌≡◌, ◌≢◌, ℕ, zero, suc, ◌+◌, ◌-◌, ◌*◌, ◌%◌, ◌^◌, ◌<◌, ◌≤◌}
use Rattle.std.proofs.Common.{Bool, true, false, List, [], ◌∷◌, length, take, ℤ, pos, neg_ℤ, ◌+ℤ◌}
use Rattle.std.proofs.Common.{◌-ℤ◌, ◌≤ℤ◌, refl, ap, arith}
use Rattle.std.specs.Prelude.{int_le, int_lt, not, unsigned_abs, ◌<ℤ◌, if◌then◌else◌, All, AllPairs, ◌==◌}
use Rattle.std.specs.List.{list_all}
use Rattle.std.proofs.lemmas.Bool.{and_parts}
use Rattle.std.proofs.lemmas.Int.{ints}
use Rattle.std.specs.Int.{w64, w128}
use mir.Val.{SFits}
use Rattle.std.proofs.Math.Nat.{mod-lt}
use Rattle.std.proofs.lemmas.List.Elements.{All-nil, All-cons}
use Rattle.std.proofs.lemmas.List.Kept.{AllPairs-cons}
use Rattle.rand_pcg.specs.Lcg.{Lcg}
use Rattle.rand_pcg.specs.Pcg.{pcg64}
use Rattle.ln_tree.specs.declared.shape.VarInfo.{VarInfo}
use Rattle.ln_tree.specs.Variables.{starts_site, has_range, is_laid_out}
use Rattle.ln_tree.specs.Row.{AreWithin, InRange}
use Rattle.ln_tree.proofs.KeptLemmas.{within_length, laid_out}
use Rattle.ln_code.specs.declared.row.Row as code
use Rattle.ln_code.specs.RowOf.{row_of, IsZeroPast}
use Rattle.ln_rows.specs.Record.{Column, SiteIndex, Variable, columns}
use Rattle.ln_rows.proofs.Fields.RangeLemmas.{columns_length, shape_columns}
use Rattle.ln_top.specs.Signs.GenRow.{words, index_by, value_by, low_part, high_part, is_narrowed, low_end, high_end, variable_by}
use Rattle.ln_top.specs.Signs.GenRow.{indices_by, values_by, row_by, IsMade}

-- a number that is that far from the low end is between both
offset_between : (lo hi : ℤ) (r : ℕ) → lo ≤ℤ hi → r < unsigned_abs (hi -ℤ lo) + 1
    → (lo ≤ℤ (lo +ℤ pos r)) × ((lo +ℤ pos r) ≤ℤ hi)
offset_between lo hi r h w = (grind (arith, ints, h, w), grind (arith, ints, h, w))

value_between : (lo hi : ℤ) (w : ℕ) → lo ≤ℤ hi → (lo ≤ℤ value_by lo hi w) × (value_by lo hi w ≤ℤ hi)
value_between lo hi w h = offset_between lo hi (w % (unsigned_abs (hi -ℤ lo) + 1)) h (omega arith)

-- the ends of the part of a range are inside the range
low_within : (lo : ℤ) → lo ≤ℤ low_part lo
low_within lo = go (int_lt lo (neg_ℤ (pos 2))) refl where
  go : (b : Bool) → int_lt lo (neg_ℤ (pos 2)) ≡ b → lo ≤ℤ (if b then neg_ℤ (pos 2) else lo)
  go true e = grind (arith, ints, e)
  go false e = grind (arith, ints)

high_within : (hi : ℤ) → high_part hi ≤ℤ hi
high_within hi = go (int_lt (pos 2) hi) refl where
  go : (b : Bool) → int_lt (pos 2) hi ≡ b → (if b then pos 2 else hi) ≤ℤ hi
  go true e = grind (arith, ints, e)
  go false e = grind (arith, ints)

-- so are the ends between which a value lies, and they are in order
record AreEnds (lo hi low high : ℤ) : Type 0 where
  pub first : lo ≤ℤ low
  pub order : low ≤ℤ high
  pub last : high ≤ℤ hi

are_ends : (n : ℕ) (lo hi : ℤ) → lo ≤ℤ hi → AreEnds lo hi (low_end n lo hi) (high_end n lo hi)
are_ends n lo hi h = go (is_narrowed n lo hi) refl where
  go : (b : Bool) → is_narrowed n lo hi ≡ b → AreEnds lo hi (if b then low_part lo else lo) (if b then high_part hi else hi)
  go true e =
      let o = (and_parts (n % 2 == 0) (int_le (low_part lo) (high_part hi)) e).1 in
      record { first = low_within lo; order = ordered (low_part lo) (high_part hi) o; last = high_within hi }
    where
      ordered : (a b : ℤ) → int_le a b ≡ true → a ≤ℤ b
      ordered a b q = grind (arith, ints, q)
  go false e = record { first = grind (arith, ints); order = h; last = grind (arith, ints) }

in_order_of : (lo hi : ℤ) → not (int_lt hi lo) ≡ true → lo ≤ℤ hi
in_order_of lo hi q = grind (arith, ints, q)

above_of : (lo low : ℤ) → int_lt (neg_ℤ (pos (2 ^ 63))) lo ≡ true → lo ≤ℤ low → neg_ℤ (pos (2 ^ 63)) <ℤ low
above_of lo low q h = grind (arith, ints, q, h)

-- the ends between which a variable's value lies on row n are in order
pub ends_in_order : (n : ℕ) (i : VarInfo) → has_range i ≡ true → low_end n i.lo i.hi ≤ℤ high_end n i.lo i.hi
ends_in_order n i h =
    let p = and_parts (not (int_lt i.hi i.lo)) (int_lt (neg_ℤ (pos (2 ^ 63))) i.lo) h in
    (are_ends n i.lo i.hi (in_order_of i.lo i.hi p.0)).order

-- the low end of a variable on row n is above -2^63
pub low_above : (n : ℕ) (i : VarInfo) → has_range i ≡ true → neg_ℤ (pos (2 ^ 63)) <ℤ low_end n i.lo i.hi
low_above n i h =
    let p = and_parts (not (int_lt i.hi i.lo)) (int_lt (neg_ℤ (pos (2 ^ 63))) i.lo) h in
    above_of i.lo (low_end n i.lo i.hi) p.1 (are_ends n i.lo i.hi (in_order_of i.lo i.hi p.0)).first

-- what `between` computes with fits
pub width_fits : (lo hi : ℤ) (d : ℕ) → neg_ℤ (pos (2 ^ 63)) <ℤ lo → lo ≤ℤ hi → SFits w64 hi → d ≡ unsigned_abs (hi -ℤ lo)
    → d + 1 < 2 ^ 64
width_fits lo hi d l h b e = grind (arith, ints, l, h, b, e)

-- in `between` the sum of the low end and the offset fits 128 bits
pub sum_fits : (lo : ℤ) (w d : ℕ) → SFits w64 lo → d + 1 < 2 ^ 64 → SFits w128 (lo +ℤ pos (w % (d + 1)))
sum_fits lo w d a h = go (w % (d + 1)) (omega (arith, h)) where
  go : (r : ℕ) → r < 2 ^ 64 → SFits w128 (lo +ℤ pos r)
  go r k = grind (arith, ints, a, k)

-- in `between` the value fits 64 bits, as both ends do
pub value_fits : (lo hi : ℤ) (w d : ℕ) → lo ≤ℤ hi → SFits w64 lo → SFits w64 hi → d ≡ unsigned_abs (hi -ℤ lo)
    → SFits w64 (lo +ℤ pos (w % (d + 1)))
value_fits lo hi w d h a b e = rw e (go (value_by lo hi w) (value_between lo hi w h)) where
  go : (z : ℤ) → (lo ≤ℤ z) × (z ≤ℤ hi) → SFits w64 z
  go z p = grind (arith, ints, p.0, p.1, a, b)

below_and : (a b c d e : ℤ) → a ≤ℤ b → b ≤ℤ c → c ≤ℤ d → d ≤ℤ e → (a ≤ℤ c) × (c ≤ℤ e)
below_and a b c d e p q r s = (grind (arith, ints, p, q), grind (arith, ints, r, s))

-- the value of a variable is in its range
variable_within : (n : ℕ) (i : VarInfo) (w : ℕ) → has_range i ≡ true
    → (i.lo ≤ℤ variable_by n i w) × (variable_by n i w ≤ℤ i.hi)
variable_within n i w h =
    let e = are_ends n i.lo i.hi (in_order_of i.lo i.hi (and_parts (not (int_lt i.hi i.lo)) (int_lt (neg_ℤ (pos (2 ^ 63))) i.lo) h).0) in
    let v = value_between (low_end n i.lo i.hi) (high_end n i.lo i.hi) w e.order in
    below_and i.lo (low_end n i.lo i.hi) (variable_by n i w) (high_end n i.lo i.hi) i.hi e.first v.0 v.1 e.last

-- how many words there are
pub words_length : (k : ℕ) (g : Lcg) → length (words k g) ≡ k
words_length zero g = refl
words_length (suc k) g = ap suc (words_length k (pcg64 g).1)

-- the values of variables are in their ranges, where those after it are
Within : ℕ → List VarInfo → Type 0
Within n is = (ws : List ℕ) → length ws ≡ length (columns is) → AreWithin is (values_by n (columns is) ws)

value_within : (n : ℕ) (i : VarInfo) (is : List VarInfo) → has_range i ≡ true → Within n is → (ws : List ℕ)
    → length ws ≡ suc (length (columns is)) → AreWithin (i ∷ is) (values_by n (Variable i ∷ columns is) ws)
unfolding Within
value_within n i is r behind [] size = absurd (omega (arith, size))
value_within n i is r behind (w ∷ ws) size = let v = variable_within n i w r in (v.0, v.1, behind ws (omega (arith, size)))

site_within : (n : ℕ) (i : VarInfo) (is : List VarInfo) → has_range i ≡ true → Within n is → (ws : List ℕ)
    → length ws ≡ suc (suc (length (columns is)))
    → AreWithin (i ∷ is) (values_by n (SiteIndex ∷ Variable i ∷ columns is) ws)
site_within n i is r behind [] size = absurd (omega (arith, size))
site_within n i is r behind (w ∷ ws) size = value_within n i is r behind ws (omega (arith, size))

values_within : (n : ℕ) (vars : List VarInfo) → list_all has_range vars ≡ true → Within n vars
unfolding Within
values_within n [] r ws size = tt
values_within n (i ∷ is) r ws size =
    let p = and_parts (has_range i) (list_all has_range is) r in go (starts_site i) p.0 (values_within n is p.1) size
  where
    go : (b : Bool) → has_range i ≡ true → Within n is
        → length ws ≡ length (if b then SiteIndex ∷ Variable i ∷ columns is else Variable i ∷ columns is)
        → AreWithin (i ∷ is) (values_by n (if b then SiteIndex ∷ Variable i ∷ columns is else Variable i ∷ columns is) ws)
    go true q w s = site_within n i is q w ws s
    go false q w s = value_within n i is q w ws s

values_within_at : (n : ℕ) (vars : List VarInfo) → list_all has_range vars ≡ true → (ws : List ℕ)
    → length ws ≡ length (columns vars) → AreWithin vars (values_by n (columns vars) ws)
unfolding Within
values_within_at n vars r ws size = values_within n vars r ws size

-- each column has an index or a value
all_made : (n j : ℕ) (cs : List Column) (ws : List ℕ) → length ws ≡ length cs
    → length (indices_by j cs ws) + length (values_by n cs ws) ≡ length cs
all_made n j [] ws h = refl
all_made n j (c ∷ cs) [] h = absurd (omega (arith, h))
all_made n j (SiteIndex ∷ cs) (w ∷ ws) h = omega (arith, all_made n (suc j) cs ws (omega (arith, h)))
all_made n j (Variable i ∷ cs) (w ∷ ws) h = omega (arith, all_made n j cs ws (omega (arith, h)))

-- indices of different places differ
apart : (a b i j : ℕ) → i < j → j < 8 → pos (a * 8 + i) ≢ pos (b * 8 + j)
apart a b i j h k e = absurd (omega (arith, inner (a * 8 + i) (b * 8 + j) e, h, k))
  where
    inner : (x y : ℕ) → pos x ≡ pos y → x ≡ y
    inner x y q = cc

index_within : (a j : ℕ) → a < 2 ^ 32 → j < 8 → (pos 0 ≤ℤ pos (a * 8 + j)) × (pos (a * 8 + j) ≤ℤ pos (2 ^ 63 - 1))
index_within a j h k = (omega (arith, ints), omega (arith, ints, h, k))

-- the indices are from 0 to 2^63 - 1
indices_within : (j : ℕ) (cs : List Column) (ws : List ℕ) → j + length (indices_by j cs ws) ≤ 8
    → All (λ z. (pos 0 ≤ℤ z) × (z ≤ℤ pos (2 ^ 63 - 1))) (indices_by j cs ws)
indices_within j [] ws h = All-nil _
indices_within j (c ∷ cs) [] h = All-nil _
indices_within j (SiteIndex ∷ cs) (w ∷ ws) h =
    let low : w % 2 ^ 32 < 2 ^ 32 = mod-lt w (omega arith) in
    All-cons (λ z. (pos 0 ≤ℤ z) × (z ≤ℤ pos (2 ^ 63 - 1))) (index_by j w) (indices_by (suc j) cs ws)
    (index_within (w % 2 ^ 32) j low (omega (arith, h))) (indices_within (suc j) cs ws (omega (arith, h)))
indices_within j (Variable i ∷ cs) (w ∷ ws) h = indices_within j cs ws h

-- an earlier index differs from all of them
later_differ : (i w j : ℕ) (cs : List Column) (ws : List ℕ) → i < j → j + length (indices_by j cs ws) ≤ 8
    → All (λ z. index_by i w ≢ z) (indices_by j cs ws)
later_differ i w j [] ws h k = All-nil _
later_differ i w j (c ∷ cs) [] h k = All-nil _
later_differ i w j (SiteIndex ∷ cs) (v ∷ vs) h k =
    All-cons (λ z. index_by i w ≢ z) (index_by j v) (indices_by (suc j) cs vs)
    (apart (w % 2 ^ 32) (v % 2 ^ 32) i j h (omega (arith, k)))
    (later_differ i w (suc j) cs vs (omega (arith, h)) (omega (arith, k)))
later_differ i w j (Variable x ∷ cs) (v ∷ vs) h k = later_differ i w j cs vs h k

-- the indices differ
indices_differ : (j : ℕ) (cs : List Column) (ws : List ℕ) → j + length (indices_by j cs ws) ≤ 8
    → AllPairs (λ y z. y ≢ z) (indices_by j cs ws)
indices_differ j [] ws h = λ a b d lt in_. absurd (omega arith)
indices_differ j (c ∷ cs) [] h = λ a b d lt in_. absurd (omega arith)
indices_differ j (SiteIndex ∷ cs) (w ∷ ws) h =
    AllPairs-cons (λ y z. y ≢ z) (index_by j w) (indices_by (suc j) cs ws)
    (later_differ j w (suc j) cs ws (omega arith) (omega (arith, h))) (indices_differ (suc j) cs ws (omega (arith, h)))
indices_differ j (Variable i ∷ cs) (w ∷ ws) h = indices_differ j cs ws h

-- a row by words is in range
pub words_in_range : (n sites : ℕ) (vars : List VarInfo) (ws : List ℕ) → is_laid_out sites vars ≡ true
    → length ws ≡ length (columns vars) → InRange sites vars (row_by n vars ws)
words_in_range n sites vars ws laid size =
    let s = laid_out sites vars laid in
    let w = values_within_at n vars (laid_out sites vars laid).ranges ws size in
    let count : length (indices_by 0 (columns vars) ws)
    ≡ sites = omega (
      arith,
      all_made n 0 (columns vars) ws size,
      within_length vars (values_by n (columns vars) ws) w,
      columns_length vars,
      s.counted,
    ) in
    let few : 0 + length (indices_by 0 (columns vars) ws) ≤ 8 = omega (arith, count, s.few_sites) in
    record { size = count; indices = indices_within 0 (columns vars) ws few; differ = indices_differ 0 (columns vars) ws few; values = w }

-- a row that is made by words is that row
pub made_is : (n sites : ℕ) (vars : List VarInfo) (g : Lcg) (r : code.Row) → is_laid_out sites vars ≡ true
    → IsMade n vars g r → row_of sites vars r ≡ row_by n vars (words (length (columns vars)) g)
made_is n sites vars g r laid m =
    let e : length (columns vars) - length vars ≡ sites = omega (arith, shape_columns sites vars laid) in
    let i : take sites r.index ≡ indices_by 0 (columns vars) (words (length (columns vars)) g) = rw e at m.index in
    rw (i, m.values) refl

-- a row that is made is in range
pub made_in_range : (n sites : ℕ) (vars : List VarInfo) (g : Lcg) (r : code.Row) → is_laid_out sites vars ≡ true
    → IsMade n vars g r → InRange sites vars (row_of sites vars r)
made_in_range n sites vars g r laid m =
    rw (made_is n sites vars g r laid m) (words_in_range n sites vars (words (length (columns vars)) g) laid
    (words_length (length (columns vars)) g))

-- the places of a made row past its sites and its variables are 0
pub zero_past : (n sites : ℕ) (vars : List VarInfo) (g : Lcg) (r : code.Row) → is_laid_out sites vars ≡ true
    → IsMade n vars g r → IsZeroPast sites (length vars) r
zero_past n sites vars g r laid m =
    let e : length (columns vars) - length vars ≡ sites = omega (arith, shape_columns sites vars laid) in
    rw e at m.zeros
