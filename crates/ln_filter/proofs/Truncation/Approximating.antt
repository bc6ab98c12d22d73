-- The truncated number of a predicate stands for its plain value.
use Rattle.std.proofs.Common.{◌≡◌, ◌⊎◌, inl, inr, ℕ, ℤ, ◌+◌, ◌-◌, ◌≤◌, ◌<◌, max, List, [], ◌∷◌, ◌++◌, refl, zero, suc, arith, pos, negsuc}
use Rattle.std.proofs.Common.{◌+ℤ◌, ◌-ℤ◌, ◌*ℤ◌, ◌<ℤ◌, unsigned_abs, subst}
use Rattle.std.specs.Prelude.{slice_index_or, ◌≢◌}
use Rattle.std.proofs.lemmas.Int.{ints}
use Rattle.ln_algebra.specs.Tree.{Tree, Num, Input, Name, Neg, Add, Sub, Mul, Pow}
use Rattle.ln_tree.specs.declared.shape.VarInfo.{VarInfo}
use Rattle.ln_tree.specs.Row.{AreWithin}
use Rattle.ln_bound.specs.Value.{value, values, power, sizes}
use Rattle.ln_bound.specs.Light.{let_values}
use Rattle.ln_code.specs.declared.op.Triple.{Triple}
use Rattle.ln_code.specs.FilterRules.{Approximates}
use Rattle.ln_code.specs.Kept.{no_triple}
use Rattle.ln_code.specs.Verdict.{sign_of}
use Rattle.ln_code.proofs.Following.Known.{in_size}
use Rattle.ln_code.proofs.Filters.Near.{cut_stands, product_stands, sum_stands, difference_stands, exact_stands, minus_stands}
use Rattle.ln_code.proofs.Filters.Near.{decides_positive, decides_negative}
use Rattle.ln_filter.specs.Triples.{excess, whole, leaf, added, multiplied, powered, triple, let_triples}
use Rattle.ln_filter.specs.Truncated.{leaf_number, sum_number, difference_number, product_number, power_number, number, let_numbers, root_triple, root_number}
use Rattle.ln_filter.specs.Law.{plain_value, NumbersStand, NeverWrong}

leaf_stands : (m : ℕ) (x : ℤ) → unsigned_abs x ≤ m → Approximates (leaf m) (leaf_number m x) x
leaf_stands m x h = cut_stands (excess m) (whole m) x x (exact_stands m x h)

moved : (k k' h e : ℕ) (z v : ℤ) → k ≡ k' → Approximates (record { k = k; h = h; e = e }) z v → Approximates (record { k = k'; h = h; e = e }) z v
moved k k' h e z v p s = subst (λ (n : ℕ). Approximates (record { k = n; h = h; e = e }) z v) p s

same_power : (a b : ℕ) → a + (b - a) ≡ max a b
same_power a b = omega arith

other_power : (a b : ℕ) → b + (a - b) ≡ max a b
other_power a b = omega arith

added_stands : (a b : Triple) (y z v w : ℤ) → Approximates a y v → Approximates b z w → Approximates (added a b) (sum_number a b y z) (v +ℤ w)
added_stands a b y z v w s t =
    let p = moved _ _ _ _ _ _ (same_power a.k b.k) (cut_stands (b.k - a.k) a y v s) in
    let q = moved _ _ _ _ _ _ (other_power a.k b.k) (cut_stands (a.k - b.k) b z w t) in
    cut_stands _ _ _ _ (sum_stands _ _ _ _ _ _ _ _ _ p q)

subtracted_stands : (a b : Triple) (y z v w : ℤ) → Approximates a y v → Approximates b z w → Approximates (added a b) (difference_number a b y z) (v -ℤ w)
subtracted_stands a b y z v w s t =
    let p = moved _ _ _ _ _ _ (same_power a.k b.k) (cut_stands (b.k - a.k) a y v s) in
    let q = moved _ _ _ _ _ _ (other_power a.k b.k) (cut_stands (a.k - b.k) b z w t) in
    cut_stands _ _ _ _ (difference_stands _ _ _ _ _ _ _ _ _ p q)

multiplied_stands : (a b : Triple) (y z v w : ℤ) → Approximates a y v → Approximates b z w → Approximates (multiplied a b) (product_number a b y z) (v *ℤ w)
multiplied_stands a b y z v w s t = cut_stands _ _ _ _ (product_stands a b y z v w s t)

one_times : (v : ℤ) → v ≡ power v 1
one_times v = omega (arith, ints)

powered_stands : (a : Triple) (z v : ℤ) (n : ℕ) → Approximates a z v → Approximates (powered a n) (power_number a z n) (power v n)
powered_stands a z v zero s = leaf_stands 1 (pos 1) (omega arith)
powered_stands a z v (suc zero) s = subst (λ (u : ℤ). Approximates a z u) (one_times v) s
powered_stands a z v (suc (suc n)) s =
    multiplied_stands (powered a (suc n)) a (power_number a z (suc n)) z (power v (suc n)) v (powered_stands a z v (suc n) s) s

-- what stands for each let
pub data AllStand : List Triple → List ℤ → List ℤ → Type 0 where
  none : AllStand [] [] []
  more : {a : Triple} {h v : ℤ} {ts : List Triple} {hs vs : List ℤ} → Approximates a h v → AllStand ts hs vs → AllStand (a ∷ ts) (h ∷ hs) (v ∷ vs)

stand_at : (ts : List Triple) (hs vs : List ℤ) (j : ℕ) → AllStand ts hs vs
    → Approximates (slice_index_or ts j no_triple) (slice_index_or hs j (pos 0)) (slice_index_or vs j (pos 0))
stand_at _ _ _ j none = exact_stands 0 (pos 0) (omega arith)
stand_at _ _ _ zero (more p s) = p
stand_at _ _ _ (suc j) (more p s) = stand_at _ _ _ j s

stand_snoc : (ts : List Triple) (hs vs : List ℤ) (a : Triple) (h v : ℤ) → AllStand ts hs vs → Approximates a h v
    → AllStand (ts ++ (a ∷ [])) (hs ++ (h ∷ [])) (vs ++ (v ∷ []))
stand_snoc _ _ _ a h v none p = more p none
stand_snoc _ _ _ a h v (more q s) p = more q (stand_snoc _ _ _ a h v s p)

-- the value of a variable is at most its M; one that there isn't is 0
size_stands : (vars : List VarInfo) (zs : List ℤ) (v : ℕ) → AreWithin vars zs → unsigned_abs (values zs v) ≤ sizes vars v
size_stands [] [] v h = omega arith
size_stands (i ∷ is) (z ∷ zs) zero h = let s = in_size (i ∷ is) (z ∷ zs) h 0 i refl in rw (← s.same) s.small
size_stands (i ∷ is) (z ∷ zs) (suc v) h = size_stands is zs v h.2
size_stands _ _ v h = absurd h

-- the truncated number of an expression stands for its value, where those of the lets do
pub tree_stands : (vars : List VarInfo) (zs : List ℤ) (ts : List Triple) (hs vs : List ℤ) → AreWithin vars zs → AllStand ts hs vs
    → (t : Tree) → Approximates (triple vars ts t) (number vars (values zs) ts hs t) (value (values zs) vs t)
tree_stands vars zs ts hs vs r l (Num c) = leaf_stands (unsigned_abs c) c (omega arith)
tree_stands vars zs ts hs vs r l (Input v) = leaf_stands (sizes vars v) (values zs v) (size_stands vars zs v r)
tree_stands vars zs ts hs vs r l (Name j) = stand_at ts hs vs j l
tree_stands vars zs ts hs vs r l (Neg e) = minus_stands _ _ _ (tree_stands vars zs ts hs vs r l e)
tree_stands vars zs ts hs vs r l (Add e f) = added_stands _ _ _ _ _ _ (tree_stands vars zs ts hs vs r l e) (tree_stands vars zs ts hs vs r l f)
tree_stands vars zs ts hs vs r l (Sub e f) = subtracted_stands _ _ _ _ _ _ (tree_stands vars zs ts hs vs r l e) (tree_stands vars zs ts hs vs r l f)
tree_stands vars zs ts hs vs r l (Mul e f) = multiplied_stands _ _ _ _ _ _ (tree_stands vars zs ts hs vs r l e) (tree_stands vars zs ts hs vs r l f)
tree_stands vars zs ts hs vs r l (Pow e n) =
    powered_stands (triple vars ts e) (number vars (values zs) ts hs e) (value (values zs) vs e) n (tree_stands vars zs ts hs vs r l e)

lets_stand : (vars : List VarInfo) (zs : List ℤ) (ts : List Triple) (hs vs : List ℤ) (lets : List Tree) → AreWithin vars zs
    → AllStand ts hs vs → AllStand (let_triples vars ts lets) (let_numbers vars (values zs) ts hs lets) (let_values (values zs) vs lets)
lets_stand vars zs ts hs vs [] r l = l
lets_stand vars zs ts hs vs (t ∷ lets) r l = lets_stand vars zs (ts ++ (triple vars ts t ∷ [])) (hs ++ (number vars (values zs) ts hs t ∷ []))
    (vs ++ (value (values zs) vs t ∷ [])) lets r (stand_snoc ts hs vs _ _ _ l (tree_stands vars zs ts hs vs r l t))

-- the truncated number of a sign expression stands for its plain value
pub numbers_stand : NumbersStand
numbers_stand vars zs lets root r = tree_stands vars zs _ _ _ r (lets_stand vars zs [] [] [] lets r none) root

-- ---- signs

plus_sign : (v : ℤ) → pos 0 <ℤ v → sign_of (pos 1) ≡ sign_of v
plus_sign (pos zero) h = absurd (omega (arith, ints))
plus_sign (pos (suc n)) h = refl
plus_sign (negsuc n) h = absurd (omega (arith, ints))

minus_sign : (v : ℤ) → v <ℤ pos 0 → sign_of (negsuc 0) ≡ sign_of v
minus_sign (pos n) h = absurd (omega (arith, ints))
minus_sign (negsuc n) h = refl

not_zero : (v : ℤ) → (pos 0 <ℤ v) ⊎ (v <ℤ pos 0) → v ≢ pos 0
not_zero v (inl p) e = absurd (omega (arith, ints, p, e))
not_zero v (inr p) e = absurd (omega (arith, ints, p, e))

one_sign : (a : Triple) (h v : ℤ) → a.e < unsigned_abs h → Approximates a h v → (sign_of h ≡ sign_of v) × (v ≢ pos 0)
one_sign a (pos zero) v d s = absurd (omega (arith, d))
one_sign a (pos (suc n)) v d s = let p = decides_positive a (pos (suc n)) v d (omega (arith, ints)) s in (plus_sign v p, not_zero v (inl p))
one_sign a (negsuc n) v d s = let p = decides_negative a (negsuc n) v d (omega (arith, ints)) s in (minus_sign v p, not_zero v (inr p))

-- where the filter decides, the plain value isn't 0 and has the truncated number's sign
pub never_wrong : NeverWrong
never_wrong vars zs lets root r d =
    one_sign (root_triple vars lets root) (root_number vars zs lets root) (plain_value zs lets root) d.above (numbers_stand vars zs lets root r)
