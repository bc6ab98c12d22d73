-- Names among fields, place by place.
use Rattle.std.proofs.Common.{◌≡◌, ◌≢◌, ℕ, zero, suc, ◌+◌, ◌-◌, ◌<◌, ◌≤◌, min, List, [], ◌∷◌, ◌++◌, length, get_or, take, drop, map}
use Rattle.std.proofs.Common.{Some, None, refl, ap, sym, ◌∙◌, arith, add-one, drop-cons, append_assoc, length-drop, length-append}
use Rattle.std.specs.Prelude.{flat_map, slice_get}
use Rattle.std.proofs.lemmas.List.{append_cancel_left, append-nil, take_more, take-append-drop, map-append, drop_all, drop_more}
use Rattle.std.proofs.lemmas.List.{get_or_append_left, get_or-append_right}
use Rattle.std.proofs.lemmas.List.Concat.{flat_map-append}
use Rattle.csv.specs.Records.{field_at}
use Rattle.ln_rows.specs.Columns.{StandAt}

-- the field at a place, by what stands there
pub field_drop : (fields : List (List ℕ)) (at : ℕ) (x : List ℕ) → field_at fields at ≡ Some x
    → (drop at fields ≡ x ∷ drop (suc at) fields) × (at < length fields)
unfolding field_at
field_drop [] at x h = absurd (cc)
field_drop (f ∷ fs) zero x h = let e : f ≡ x = cc in (ap (λ (y : List ℕ). y ∷ fs) e, omega arith)
field_drop (f ∷ fs) (suc at) x h = let p = field_drop fs at x h in (p.0, omega (arith, p.1))

drop_field : (fields : List (List ℕ)) (at : ℕ) (x : List ℕ) (rest : List (List ℕ)) → drop at fields ≡ x ∷ rest → field_at fields at ≡ Some x
unfolding field_at
drop_field [] zero x rest h = absurd (cc)
drop_field [] (suc at) x rest h = absurd (cc)
drop_field (f ∷ fs) zero x rest h = let e : f ≡ x = cc in ap (λ (y : List ℕ). Some y) e
drop_field (f ∷ fs) (suc at) x rest h = drop_field fs at x rest h

-- one name
pub one_name : (fields : List (List ℕ)) (at : ℕ) (x : List ℕ) → field_at fields at ≡ Some x → StandAt (x ∷ []) fields at (at + 1)
one_name fields at x h = let p = field_drop fields at x h in (p.0 ∙ rw (add-one at) refl, λ l. omega (arith, p.1))

-- where the field at a place isn't the first of some names, they aren't there
pub no_name : (fields : List (List ℕ)) (at : ℕ) (x : List ℕ) (more : List (List ℕ)) → (field_at fields at ≡ Some x → ⊥)
    → (rest : List (List ℕ)) → drop at fields ≢ (x ∷ more) ++ rest
no_name fields at x more ne rest h = ne (drop_field fields at x (more ++ rest) h)

-- names after names
pub stand_more : (xs ys fields : List (List ℕ)) (at mid to : ℕ) → StandAt xs fields at mid → StandAt ys fields mid to → StandAt (xs ++ ys) fields at to
stand_more xs ys fields at mid to p q = (p.0 ∙ ap (λ (l : List (List ℕ)). xs ++ l) q.0 ∙ sym (append_assoc xs ys (drop to fields)), λ l. q.1 (p.1 l))

-- where names stand, what follows them remains
pub stand_left : (xs ys fields : List (List ℕ)) (at mid : ℕ) → StandAt xs fields at mid → (rest : List (List ℕ))
    → drop at fields ≡ (xs ++ ys) ++ rest → drop mid fields ≡ ys ++ rest
stand_left xs ys fields at mid p rest h = append_cancel_left xs (drop mid fields) (ys ++ rest) (sym p.0 ∙ h ∙ append_assoc xs ys rest)

-- a list around one of its elements
split_at : {X : Type 0} (xs : List X) (i : ℕ) (x : X) → i < length xs → x ≡ get_or xs i x → xs ≡ take i xs ++ (x ∷ drop (suc i) xs)
split_at xs i x h e = sym (take-append-drop i xs) ∙ rw (drop-cons xs i x h, ← e) refl

take_one : {X : Type 0} (xs : List X) (i : ℕ) (x : X) → i < length xs → x ≡ get_or xs i x → take (i + 1) xs ≡ take i xs ++ x ∷ []
take_one {X = X} xs i x h e = take_more xs i x h ∙ ap (λ (y : X). take i xs ++ y ∷ []) (sym e)

-- one coordinate more
pub coord_more : {X : Type 0} (f : X → List ℕ) (xs : List X) (i : ℕ) (x : X) (fields : List (List ℕ)) (at mid : ℕ) → i < length xs
    → x ≡ get_or xs i x → StandAt (map f (take i xs)) fields at mid → field_at fields mid ≡ Some (f x)
    → StandAt (map f (take (i + 1) xs)) fields at (mid + 1)
coord_more f xs i x fields at mid h e p q =
    rw (take_one xs i x h e, map-append f (take i xs) (x ∷ []))
    (stand_more (map f (take i xs)) (f x ∷ []) fields at mid (mid + 1) p (one_name fields mid (f x) q))

-- a coordinate that doesn't stand
pub coord_stop : {X : Type 0} (f : X → List ℕ) (xs : List X) (i : ℕ) (x : X) (fields : List (List ℕ)) (at mid : ℕ) → i < length xs
    → x ≡ get_or xs i x → StandAt (map f (take i xs)) fields at mid → (field_at fields mid ≡ Some (f x) → ⊥)
    → (rest : List (List ℕ)) → drop at fields ≢ map f xs ++ rest
coord_stop f xs i x fields at mid h e p q rest k =
    let whole : map f xs ≡ map f (take i xs) ++ (f x ∷ map f (drop (suc i) xs)) =
    ap (map f) (split_at xs i x h e) ∙ map-append f (take i xs) (x ∷ drop (suc i) xs) in
    no_name fields mid (f x) (map f (drop (suc i) xs)) q rest
    (stand_left (map f (take i xs)) (f x ∷ map f (drop (suc i) xs)) fields at mid p rest (k ∙ ap (λ (l : List (List ℕ)). l ++ rest) whole))

-- an argument whose columns don't stand
pub arg_stop : {X : Type 0} (f : X → List (List ℕ)) (xs : List X) (i : ℕ) (x : X) (fields : List (List ℕ)) (mid : ℕ) → i < length xs
    → x ≡ get_or xs i x → StandAt (flat_map f (take i xs)) fields 0 mid
    → ((rest : List (List ℕ)) → drop mid fields ≢ f x ++ rest) → fields ≢ flat_map f xs
arg_stop f xs i x fields mid h e p q k =
    let whole : flat_map f xs ≡ flat_map f (take i xs) ++ (f x ++ flat_map f (drop (suc i) xs)) =
    ap (flat_map f) (split_at xs i x h e) ∙ flat_map-append f (take i xs) (x ∷ drop (suc i) xs) in
    let left = stand_left (flat_map f (take i xs)) (f x ++ flat_map f (drop (suc i) xs)) fields 0 mid p []
    (k ∙ whole ∙ sym (append-nil (flat_map f (take i xs) ++ (f x ++ flat_map f (drop (suc i) xs))))) in
    q (flat_map f (drop (suc i) xs)) (left ∙ append-nil (f x ++ flat_map f (drop (suc i) xs)))

-- after the last name
pub all_stand : (names fields : List (List ℕ)) (to : ℕ) → StandAt names fields 0 to → to ≡ length fields → fields ≡ names
all_stand names fields to p e = p.0 ∙ rw (drop_all to fields (omega (arith, e)), append-nil) refl

-- where the fields are just the names, the place after the names is the end of the fields
pub all_read : (names fields : List (List ℕ)) (to : ℕ) → StandAt names fields 0 to → fields ≡ names → to ≡ length fields
all_read names fields to p e =
    let rest : drop to fields ≡ [] = append_cancel_left names (drop to fields) [] (sym p.0 ∙ e ∙ sym (append-nil names)) in
    omega (arith, p.1 (omega arith), ap length rest, length-drop to fields)

-- one more of the arguments
pub room_more : {X : Type 0} (f : X → List (List ℕ)) (xs : List X) (i : ℕ) (x : X) (n w c : ℕ) → i < length xs → x ≡ get_or xs i x
    → n ≡ min (length (flat_map f (take i xs)) + 1) c → w ≡ length (f x) → min (n + w) c ≡ min (length (flat_map f (take (i + 1) xs)) + 1) c
room_more {X = X} f xs i x n w c h e a b =
    let more : take (i + 1) xs ≡ take i xs ++ x ∷ [] = take_more xs i x h ∙ ap (λ (y : X). take i xs ++ y ∷ []) (sym e) in
    let all : flat_map f (take (i + 1) xs) ≡ flat_map f (take i xs) ++ flat_map f (x ∷ []) = ap (flat_map f) more ∙ flat_map-append f (take i xs) (x ∷ []) in
    let one : flat_map f (x ∷ []) ≡ f x = append-nil (f x) in
    let size : length (flat_map f (take (i + 1) xs)) ≡ length (flat_map f (take i xs)) + length (f x) =
    ap length all ∙ length-append (flat_map f (take i xs)) (flat_map f (x ∷ [])) ∙ ap (λ k. length (flat_map f (take i xs)) + k) (ap length one) in
    omega (arith, size, a, b)
