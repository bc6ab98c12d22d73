-- The place of a name in a list of names that differ.
use Rattle.std.proofs.Common.{◌≡◌, ℕ, zero, suc, ◌+◌, true, false, List, [], ◌∷◌, Some, refl, ap, ◌∙◌, map, arith, zero-add}
use Rattle.std.specs.Prelude.{bytes_eq, position, slice_get}
use Rattle.std.specs.List.{position_from}
use Rattle.std.proofs.lemmas.Iterator.Adapters.{position_from-zero}
use Rattle.std.proofs.lemmas.Slice.Eq.{bytes_eq-Decides}

-- none of the names is this one
abbrev pub NoneIs : List ℕ → List (List ℕ) → Type 0
NoneIs t [] = Unit {0}
NoneIs t (u ∷ us) = (bytes_eq t u ≡ false) × NoneIs t us

-- the names differ
abbrev pub Differ : List (List ℕ) → Type 0
Differ [] = Unit {0}
Differ (u ∷ us) = NoneIs u us × Differ us

-- where none of the names is this one, it differs from each
pub not_there : (u : List ℕ) (us : List (List ℕ)) (j : ℕ) (t : List ℕ) → NoneIs u us → slice_get us j ≡ Some t → bytes_eq u t ≡ false
not_there u [] j t n e = absurd (cc)
not_there u (x ∷ us) zero t n e = let q : x ≡ t = cc in rw (← q) n.0
not_there u (x ∷ us) (suc j) t n e = not_there u us j t n.1 e

-- a name is the same as itself
pub same_bytes : (t : List ℕ) → bytes_eq t t ≡ true
same_bytes t = (bytes_eq-Decides t t).1 refl

place_from : {A : Type 0} (name : A → List ℕ) (k : ℕ) (xs : List A) (j : ℕ) (t : List ℕ) → Differ (map name xs)
    → slice_get (map name xs) j ≡ Some t → position_from (λ x. bytes_eq (name x) t) k xs ≡ Some (k + j)
place_from name k [] j t d e = absurd (cc)
place_from name k (x ∷ xs) zero t d e =
    let q : name x ≡ t = cc in
    let s = same_bytes t in
    let z : k ≡ k + 0 = omega arith in
    rw (q, s) (ap (λ (m : ℕ). Some m) z)
place_from name k (x ∷ xs) (suc j) t d e =
    let n = not_there (name x) (map name xs) j t d.0 e in
    let r = place_from name (k + 1) xs j t d.1 e in
    let s : k + 1 + j ≡ k + suc j = omega arith in
    rw n (r ∙ ap (λ (m : ℕ). Some m) s)

-- the name at a place is found there
pub place_of_name : {A : Type 0} (name : A → List ℕ) (xs : List A) (j : ℕ) (t : List ℕ) → Differ (map name xs)
    → slice_get (map name xs) j ≡ Some t → position (λ x. bytes_eq (name x) t) xs ≡ Some j
place_of_name name xs j t d e = position_from-zero (λ x. bytes_eq (name x) t) xs ∙ place_from name 0 xs j t d e ∙ ap (λ (m : ℕ). Some m) (zero-add j)
