-- Proves that exchanges of neighbours lead from each row to one whose indices rise, one exchange for each inversion.
use Rattle.std.proofs.Common.{◌≡◌, ◌≢◌, ◌⊎◌, inl, inr, ℕ, zero, suc, ◌+◌, ◌-◌, ◌^◌, ◌<◌, ◌≤◌, Bool, true, false, cond, List, [], ◌∷◌, length, get_or, refl}
use Rattle.std.proofs.Common.{sym, ◌∙◌, ap, subst, arith, ℤ, pos, ◌*ℤ◌, ◌<ℤ◌, ◌≤ℤ◌, Some}
use Rattle.std.specs.Prelude.{All, AllPairs, count_by, int_lt}
use Rattle.std.specs.List.{range_with_len}
use Rattle.std.proofs.lemmas.Int.{ints}
use Rattle.std.proofs.lemmas.List.Elements.{All-cons, All-nil}
use Rattle.std.proofs.lemmas.List.FromFn.{get_or-range_with_len, length-range_with_len}
use Rattle.std.proofs.lemmas.List.Kept.{AllPairs-cons}
use Rattle.ln_algebra.specs.Terms.{power_of}
use Rattle.ln_tree.specs.declared.shape.VarInfo.{VarInfo}
use Rattle.ln_tree.specs.Row.{AreWithin, InRange, Row, values}
use Rattle.ln_order.specs.Exchanged.{AreAlike, AreExchanged, IndicesRise, NeighboursAlike, RisingIsInOrder, RowsSort, SortedRow, StepsTo, goes, inversions}
use Rattle.ln_order.specs.Exchanged.{other_of, range_at, stays}
use Rattle.ln_order.specs.Order.{IsOrder, index_at}
use Rattle.ln_order.proofs.Exchanging.Swaps.{all-swap, count-cons, differ-swap, get-swap, length-swap, one-if, swap, swap-inversions}

-- ---- values
-- the first n values of f
abbrev listed : ℕ → (ℕ → ℤ) → List ℤ
listed zero f = []
listed (suc n) f = f 0 ∷ listed n (λ v. f (suc v))

length-listed : (n : ℕ) (f : ℕ → ℤ) → length (listed n f) ≡ n
length-listed zero f = refl
length-listed (suc n) f = ap suc (length-listed n (λ v. f (suc v)))

get-listed : (n : ℕ) (f : ℕ → ℤ) (v : ℕ) → v < n → values (listed n f) v ≡ f v
get-listed zero f v h = absurd (omega (arith, h))
get-listed (suc n) f zero h = refl
get-listed (suc n) f (suc v) h = get-listed n (λ v. f (suc v)) v (omega (arith, h))

-- z is in the range of variable v
abbrev IsWithin : List VarInfo → ℕ → ℤ → Type 0
IsWithin vars v z = ((range_at vars v).0 ≤ℤ z) × (z ≤ℤ (range_at vars v).1)

within-length : (vars : List VarInfo) (zs : List ℤ) → AreWithin vars zs → length zs ≡ length vars
within-length [] [] h = refl
within-length [] (z ∷ zs) h = absurd h
within-length (i ∷ is) [] h = absurd h
within-length (i ∷ is) (z ∷ zs) h = ap suc (within-length is zs h.2)

within-at : (vars : List VarInfo) (zs : List ℤ) → AreWithin vars zs → (v : ℕ) → v < length vars → IsWithin vars v (values zs v)
within-at [] zs h v l = absurd (omega (arith, l))
within-at (i ∷ is) [] h v l = absurd h
within-at (i ∷ is) (z ∷ zs) h zero l = (h.0, h.1)
within-at (i ∷ is) (z ∷ zs) h (suc v) l = within-at is zs h.2 v (omega (arith, l))

within-listed : (vars : List VarInfo) (f : ℕ → ℤ) → ((v : ℕ) → v < length vars → IsWithin vars v (f v)) → AreWithin vars (listed (length vars) f)
within-listed [] f h = tt
within-listed (i ∷ is) f h =
    let a = h 0 (omega arith) in
    (a.0, a.1, within-listed is (λ v. f (suc v)) (λ v l. h (suc v) (omega (arith, l))))

-- ---- one exchange
-- the row with sites j and j + 1 exchanged
abbrev exchanged_row : List VarInfo → ℕ → (ℕ → ℕ) → Row → Row
exchanged_row vars j partner row =
    record { index = swap j row.index; values = listed (length vars) (λ v. values row.values (partner v)) }

is-exchanged : (sites : ℕ) (vars : List VarInfo) (j : ℕ) (partner : ℕ → ℕ) (row : Row) → suc j < sites → InRange sites vars row
    → AreExchanged vars j (suc j) partner row (exchanged_row vars j partner row)
is-exchanged sites vars j partner row l r = record {
  size = length-swap j row.index;
  count = length-listed (length vars) (λ v. values row.values (partner v)) ∙ sym (within-length vars row.values r.values);
  index = λ s. get-swap j row.index s (pos 0) (omega (arith, l, r.size));
  value = get-listed (length vars) (λ v. values row.values (partner v));
}

-- it is in range
exchanged-in-range : (sites : ℕ) (vars : List VarInfo) (j : ℕ) (partner : ℕ → ℕ) (row : Row) → suc j < sites → AreAlike vars j (suc j) partner
    → InRange sites vars row → InRange sites vars (exchanged_row vars j partner row)
exchanged-in-range sites vars j partner row l a r = record {
  size = length-swap j row.index ∙ r.size;
  indices = all-swap (λ z. (pos 0 ≤ℤ z) × (z ≤ℤ pos (2 ^ 63 - 1))) j row.index (omega (arith, l, r.size)) r.indices;
  differ = differ-swap j row.index (omega (arith, l, r.size)) r.differ;
  values = within-listed vars (λ v. values row.values (partner v)) (λ v h. subst (λ (ends : ℤ × ℤ).
      (ends.0 ≤ℤ values row.values (partner v)) × (values row.values (partner v) ≤ℤ ends.1)) (a.ranges v)
      (within-at vars row.values r.values (partner v) (a.within v h)));
}

-- ---- rising or not
-- each member is below the next
abbrev Rises : List ℤ → Type 0
Rises [] = Unit {0}
Rises (a ∷ []) = Unit {0}
Rises (a ∷ b ∷ zs) = (a <ℤ b) × Rises (b ∷ zs)

-- two neighbours are out of order
record Falls (zs : List ℤ) : Type 0 where
  at : ℕ
  within : suc at < length zs
  falls : index_at zs (suc at) <ℤ index_at zs at

differ-tail : (z : ℤ) (zs : List ℤ) → AllPairs (λ x y. x ≢ y) (z ∷ zs) → AllPairs (λ x y. x ≢ y) zs
differ-tail z zs h = λ i k d l m. h (suc i) (suc k) d (omega (arith, l)) (omega (arith, m))

less-or-more : (a b : ℤ) → a ≢ b → (b <ℤ a) ⊎ (a <ℤ b)
less-or-more a b h = by_case (int_lt b a) refl where
  by_case : (x : Bool) → int_lt b a ≡ x → (b <ℤ a) ⊎ (a <ℤ b)
  by_case true e = inl (grind (arith, ints))
  by_case false e = inr (grind (arith, ints))

falls-or-rises : (zs : List ℤ) → AllPairs (λ x y. x ≢ y) zs → Falls zs ⊎ Rises zs
falls-or-rises [] h = inr tt
falls-or-rises (a ∷ []) h = inr tt
falls-or-rises (a ∷ b ∷ zs) h =
    by_case (less-or-more a b (h 0 1 (pos 0) (omega arith) (omega arith))) (falls-or-rises (b ∷ zs) (differ-tail a (b ∷ zs) h)) where
      by_case : (b <ℤ a) ⊎ (a <ℤ b) → Falls (b ∷ zs) ⊎ Rises (b ∷ zs) → Falls (a ∷ b ∷ zs) ⊎ Rises (a ∷ b ∷ zs)
      by_case (inl l) x = inl (record { at = 0; within = omega arith; falls = l })
      by_case (inr l) (inl f) = inl (record { at = suc f.at; within = omega (arith, f.within); falls = f.falls })
      by_case (inr l) (inr r) = inr (l, r)

-- rising members are above the first
all-above : (a : ℤ) (zs : List ℤ) → Rises (a ∷ zs) → All (λ z. a <ℤ z) zs
all-above a [] r = All-nil (λ z. a <ℤ z)
all-above a (b ∷ zs) r =
    All-cons (λ z. a <ℤ z) b zs r.0 (λ k d l. let h : b <ℤ get_or zs k d = all-above b zs r.1 k d l in omega (arith, ints, r.0, h))

rises-tail : (a : ℤ) (zs : List ℤ) → Rises (a ∷ zs) → Rises zs
rises-tail a [] r = tt
rises-tail a (b ∷ zs) r = r.1

all-rise : (zs : List ℤ) → Rises zs → AllPairs (λ y z. y <ℤ z) zs
all-rise [] r = λ i k d l m. absurd (omega (arith, m))
all-rise (a ∷ zs) r = AllPairs-cons (λ y z. y <ℤ z) a zs (all-above a zs r) (all-rise zs (rises-tail a zs r))

none-below : (a : ℤ) (zs : List ℤ) → All (λ z. a <ℤ z) zs → count_by (λ y. int_lt y a) zs ≡ 0
none-below a [] h = refl
none-below a (b ∷ zs) h =
    let l : a <ℤ b = h 0 a (omega arith) in
    let n : int_lt b a ≡ false = grind (arith, ints) in
    let c : one-if (int_lt b a) ≡ 0 = rw n refl in
    omega (arith, count-cons (λ y. int_lt y a) b zs, c, none-below a zs (λ k d m. h (suc k) d (omega (arith, m))))

no-inversions : (zs : List ℤ) → Rises zs → inversions zs ≡ 0
no-inversions [] r = refl
no-inversions (a ∷ zs) r = omega (arith, none-below a zs (all-above a zs r), no-inversions zs (rises-tail a zs r))

-- ---- all exchanges
-- a row that rises is led to itself
sorted-already : (sites : ℕ) (vars : List VarInfo) (partner : ℕ → ℕ → ℕ) (s : ℤ) (row : Row) → Rises row.index → InRange sites vars row
    → SortedRow sites vars partner s row
sorted-already sites vars partner s row q r = record {
  sorted = row;
  range = r;
  rises = all-rise row.index q;
  steps = subst (λ k. StepsTo sites vars partner s row row (power_of s k)) (sym (no-inversions row.index q)) (stays row);
}

-- each row is led to one that rises, by as many exchanges as it has inversions
sorts : (n sites : ℕ) (vars : List VarInfo) (partner : ℕ → ℕ → ℕ) (s : ℤ) (row : Row) → inversions row.index ≡ n → NeighboursAlike sites vars partner
    → InRange sites vars row → SortedRow sites vars partner s row
sorts zero sites vars partner s row e a r = by_case (falls-or-rises row.index r.differ) where
  by_case : Falls row.index ⊎ Rises row.index → SortedRow sites vars partner s row
  by_case (inr q) = sorted-already sites vars partner s row q r
  by_case (inl f) = absurd (omega (arith, e, swap-inversions f.at row.index f.within f.falls))
sorts (suc m) sites vars partner s row e a r = by_case (falls-or-rises row.index r.differ) (λ row. sorts m sites vars partner s row) where
  by_case : Falls row.index ⊎ Rises row.index
      → ((row : Row) → inversions row.index ≡ m → NeighboursAlike sites vars partner → InRange sites vars row → SortedRow sites vars partner s row)
      → SortedRow sites vars partner s row
  by_case (inr q) ih = sorted-already sites vars partner s row q r
  by_case (inl f) ih =
      let j : ℕ = f.at in
      let l : suc j < sites = omega (arith, f.within, r.size) in
      let now : Row = exchanged_row vars j (partner j) row in
      let fewer : suc (inversions now.index) ≡ inversions row.index = swap-inversions j row.index f.within f.falls in
      let next : SortedRow sites vars partner s now =
      ih now (omega (arith, e, fewer)) a (exchanged-in-range sites vars j (partner j) row l (a j l) r) in
      record {
        sorted = next.sorted;
        range = next.range;
        rises = next.rises;
        steps = subst (λ k. StepsTo sites vars partner s row next.sorted (power_of s k)) fewer
            (goes row now next.sorted (power_of s (inversions now.index)) j l (is-exchanged sites vars j (partner j) row l r) next.steps);
      }

-- Each row in range is led to one whose indices rise, by as many exchanges of neighbours as it has inversions.
pub rows-sort : RowsSort
rows-sort sites vars partner s row a r = sorts (inversions row.index) sites vars partner s row refl a r

-- indices that rise are in the order of the arguments
pub rising-in-order : RisingIsInOrder
rising-in-order zs h = record { size = length-range_with_len 0 n; each = each; rising = rising } where
  n : ℕ
  n = length zs

  each : All (λ k. k < n) (range_with_len 0 n)
  each k d l =
      let m : k < n = omega (arith, l, length-range_with_len 0 n) in
      omega (arith, get_or-range_with_len 0 n k d m, m)

  rising : AllPairs (λ j k. index_at zs j <ℤ index_at zs k) (range_with_len 0 n)
  rising i k d l m =
      let q : k < n = omega (arith, m, length-range_with_len 0 n) in
      let a : get_or (range_with_len 0 n) i d ≡ i = get_or-range_with_len 0 n i d (omega (arith, l, q)) ∙ omega arith in
      let b : get_or (range_with_len 0 n) k d ≡ k = get_or-range_with_len 0 n k d q ∙ omega arith in
      rw (a, b) (h i k (pos 0) l q)
