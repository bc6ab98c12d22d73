-- The columns of arguments, one argument after another.
use Rattle.std.proofs.Common.{◌≡◌, ◌≢◌, ℕ, zero, suc, ◌+◌, ◌-◌, ◌<◌, ◌≤◌, List, [], ◌∷◌, ◌++◌, length, get_or, drop, map}
use Rattle.std.proofs.Common.{None, refl, ap, sym, ◌∙◌, arith}
use Rattle.std.specs.Prelude.{flat_map, slice_get}
use Rattle.std.proofs.lemmas.List.{drop_all, drop_more, get_or_append_left, get_or-append_right}

map_none : {X : Type 0} (f : X → List ℕ) (xs : List X) (i : ℕ) → None ≡ slice_get xs i → get_or (map f xs) i [] ≡ []
map_none f [] i h = refl
map_none f (x ∷ xs) zero h = absurd (cc)
map_none f (x ∷ xs) (suc i) h = map_none f xs i h

-- past the last coordinate there is no column
pub none_past : {X : Type 0} (f : X → List ℕ) (x : List ℕ) (xs : List X) (i : ℕ) → i ≢ 0 → None ≡ slice_get xs (i - 1) → get_or (x ∷ map f xs) i [] ≡ []
none_past f x xs zero ne h = absurd (ne refl)
none_past f x xs (suc i) ne h = let e : suc i - 1 ≡ i = omega arith in map_none f xs i (rw e at h)

-- the columns from an argument on, by that argument
from_place : {X : Type 0} (f : X → List (List ℕ)) (xs : List X) (i : ℕ) (x : X) → i < length xs → x ≡ get_or xs i x
    → flat_map f (drop i xs) ≡ f x ++ flat_map f (drop (i + 1) xs)
from_place f xs i x h e = ap (flat_map f) (drop_more xs i x h) ∙ ap (λ y. f y ++ flat_map f (drop (i + 1) xs)) (sym e)

-- a column is one of this argument
pub column_here : {X : Type 0} (f : X → List (List ℕ)) (xs : List X) (i : ℕ) (x : X) (left : ℕ) (r : List ℕ) → i < length xs
    → x ≡ get_or xs i x → left < length (f x) → get_or (flat_map f (drop i xs)) left [] ≡ r
    → get_or (f x) left [] ≡ r
column_here f xs i x left r h e l k =
    sym (get_or_append_left (f x) (flat_map f (drop (i + 1) xs)) [] left l) ∙ ap (λ ys. get_or ys left []) (sym (from_place f xs i x h e)) ∙ k

-- or one after it
pub column_more : {X : Type 0} (f : X → List (List ℕ)) (xs : List X) (i : ℕ) (x : X) (left w : ℕ) (r : List ℕ) → i < length xs
    → x ≡ get_or xs i x → w ≡ length (f x) → w ≤ left → get_or (flat_map f (drop i xs)) left [] ≡ r
    → get_or (flat_map f (drop (i + 1) xs)) (left - w) [] ≡ r
column_more f xs i x left w r h e m l k = sym (get_or-append_right (f x) (flat_map f (drop (i + 1) xs)) w left [] (sym m) l)
    ∙ ap (λ ys. get_or ys left []) (sym (from_place f xs i x h e)) ∙ k

-- or there is none
pub column_none : {X : Type 0} (f : X → List (List ℕ)) (xs : List X) (i left : ℕ) (r : List ℕ) → length xs ≤ i
    → get_or (flat_map f (drop i xs)) left [] ≡ r → [] ≡ r
column_none f xs i left r h k = ap (λ ys. get_or (flat_map f ys) left []) (sym (drop_all i xs h)) ∙ k
