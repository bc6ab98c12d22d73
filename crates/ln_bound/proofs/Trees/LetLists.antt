-- Lists of what is said of lets, one more let at a time.
use Rattle.std.proofs.Common.{◌≡◌, ◌⊎◌, inl, inr, ℕ, ◌+◌, ◌<◌, List, [], ◌∷◌, ◌++◌, length, map, refl, zero, suc, ap, arith, ◌∙◌, length-append}
use Rattle.std.specs.Prelude.{Some, slice_get, slice_index_or}
use Rattle.std.proofs.lemmas.List.{map-append}
use Rattle.ln_algebra.specs.Sizes.{one}
use Rattle.ln_algebra.specs.Tree.{Tree}
use Rattle.ln_bound.specs.Room.{let_bounds}
use Rattle.ln_bound.specs.Sound.{running}
use Rattle.ln_bound.specs.Typed.{Typed, untyped}
use Rattle.ln_bound.specs.Value.{weight_over}

-- what is in a list with one more at its end
pub get_snoc : {X : Type 0} (xs : List X) (y : X) (i : ℕ) (u : X) → slice_get (xs ++ (y ∷ [])) i ≡ Some u
    → ((i < length xs) × (slice_get xs i ≡ Some u)) ⊎ ((i ≡ length xs) × (y ≡ u))
get_snoc [] y zero u h = inr (refl, cc)
get_snoc [] y (suc i) u h = cc
get_snoc (x ∷ xs) y zero u h = inl (omega arith, h)
get_snoc (x ∷ xs) y (suc i) u h = elim (get_snoc xs y i u h) [ inl p ↦ inl (omega (arith, p.0), p.1) | inr q ↦ inr (ap suc q.0, q.1) ]

-- what is at a place of a list is there still with one more element at the end
pub index_old : {X : Type 0} (xs : List X) (y d : X) (i : ℕ) → i < length xs → slice_index_or (xs ++ (y ∷ [])) i d ≡ slice_index_or xs i d
index_old [] y d i h = absurd (omega arith)
index_old (x ∷ xs) y d zero h = refl
index_old (x ∷ xs) y d (suc i) h = index_old xs y d i (omega arith)

-- one more element at the end of a list is at the place that is the list's length
pub index_new : {X : Type 0} (xs : List X) (y d : X) → slice_index_or (xs ++ (y ∷ [])) (length xs) d ≡ y
index_new [] y d = refl
index_new (x ∷ xs) y d = index_new xs y d

-- ---- running sizes

bounds_more : (m : ℕ → ℕ) (ds : List ℕ) (es : List Tree) (e : Tree)
    → let_bounds m ds (es ++ (e ∷ [])) ≡ let_bounds m ds es ++ (weight_over m (let_bounds m ds es) e ∷ [])
bounds_more m ds [] e = refl
bounds_more m ds (x ∷ es) e = bounds_more m (ds ++ (weight_over m ds x ∷ [])) es e

-- the running sizes of lets, with one more let, are theirs and the weight of its expression over them
pub running_more : (done : List Typed) (t : Typed) → running (done ++ (t ∷ [])) ≡ running done ++ (weight_over one (running done) (untyped t) ∷ [])
running_more done t = ap (λ (es : List Tree). let_bounds one [] es) (map-append untyped done (t ∷ [])) ∙ bounds_more one [] (map untyped done) (untyped t)

bounds_length : (m : ℕ → ℕ) (ds : List ℕ) (es : List Tree) → length (let_bounds m ds es) ≡ length ds + length es
bounds_length m ds [] = omega arith
bounds_length m ds (e ∷ es) =
    let ih = bounds_length m (ds ++ (weight_over m ds e ∷ [])) es in
    let n = length-append ds (weight_over m ds e ∷ []) in
    omega (arith, ih, n)

-- there are as many expressions as trees
pub untyped_length : (ts : List Typed) → length (map untyped ts) ≡ length ts
untyped_length [] = refl
untyped_length (t ∷ ts) = ap suc (untyped_length ts)

-- there are as many running sizes as lets
pub running_length : (done : List Typed) → length (running done) ≡ length done
running_length done = let e = bounds_length one [] (map untyped done) in let f = untyped_length done in omega (arith, e, f)
