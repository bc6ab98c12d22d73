-- A slice and the one after its first element.
use Rattle.std.proofs.Common.{◌≡◌, ◌-◌, ◌≤◌, List, [], ◌∷◌, arith, drop, get_or, length, refl, take, ap, ap₂, ◌∙◌}

take_all : {A : Type 0} (xs : List A) → take (length xs) xs ≡ xs
take_all [] = refl
take_all (x ∷ xs) = ap (λ w. x ∷ w) (take_all xs)

rest_is : {A : Type 0} (x : A) (xs : List A) → take (length (x ∷ xs) - 1) xs ≡ xs
rest_is x xs =
    let n : length (x ∷ xs) - 1 ≡ length xs = omega arith in
    ap (λ m. take m xs) n ∙ take_all xs

-- the first element and those after it
pub first_rest : {A : Type 0} (xs : List A) (x : A) → 1 ≤ length xs → x ≡ get_or xs 0 x → x ∷ take (length xs - 1) (drop 1 xs) ≡ xs
first_rest [] x l e = absurd (omega arith)
first_rest (y ∷ ys) x l e = ap₂ (λ w r. w ∷ r) e (rest_is y ys)
