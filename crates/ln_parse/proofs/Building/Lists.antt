-- Lists read from the beginning on.
use Rattle.std.proofs.Common.{◌≡◌, ℕ, ◌+◌, ◌<◌, ◌≤◌, List, [], ◌∷◌, ◌++◌, length, map, get_or, take, drop, ap, sym, ◌∙◌}
use Rattle.std.proofs.lemmas.List.{drop_more, take_more, take_all, map_push, get_or_default}

-- an element is the one at place i of a list
pub record IsAt {A : Type 0} (xs : List A) (i : ℕ) (x : A) : Type 0 where
  pub below : i < length xs
  pub is : x ≡ get_or xs i x

-- the element at place i of a list, seen through f, is y
pub record SeenAt {A B : Type 0} (f : A → B) (xs : List A) (i : ℕ) (y : B) : Type 0 where
  pub element : A
  pub at : IsAt xs i element
  pub seen : f element ≡ y

-- the remaining list at an item
pub drop_item : {A : Type 0} (xs : List A) (i : ℕ) (x : A) → IsAt xs i x → drop i xs ≡ x ∷ drop (i + 1) xs
drop_item xs i x h = drop_more xs i x h.below ∙ ap (λ y. y ∷ drop (i + 1) xs) (sym h.is)

-- what was read, after an item
pub take_item : {A : Type 0} (xs : List A) (i : ℕ) (x : A) → IsAt xs i x → take (i + 1) xs ≡ take i xs ++ (x ∷ [])
take_item xs i x h = take_more xs i x h.below ∙ ap (λ y. take i xs ++ (y ∷ [])) (sym h.is)

-- the remaining list, seen through a function
pub drop_seen : {A B : Type 0} (f : A → B) (xs : List A) (i : ℕ) (y : B) → SeenAt f xs i y → map f (drop i xs) ≡ y ∷ map f (drop (i + 1) xs)
drop_seen f xs i y s = ap (λ w. map f w) (drop_item xs i s.element s.at) ∙ ap (λ w. w ∷ map f (drop (i + 1) xs)) s.seen

-- what was read, seen through a function
pub take_seen : {A B : Type 0} (f : A → B) (xs : List A) (i : ℕ) (y : B) → SeenAt f xs i y → map f (take (i + 1) xs) ≡ map f (take i xs) ++ (y ∷ [])
take_seen f xs i y s =
    ap (λ w. map f w) (take_item xs i s.element s.at) ∙ map_push f (take i xs) s.element ∙ ap (λ w. map f (take i xs) ++ (w ∷ [])) s.seen

-- an element that is read with a value for where there is none
pub seen_or : {A B : Type 0} (f : A → B) (xs : List A) (i : ℕ) (d : A) (y : B) → i < length xs → y ≡ f (get_or xs i d) → SeenAt f xs i y
seen_or f xs i d y l e =
    record { element = get_or xs i d; at = record { below = l; is = get_or_default xs i d (get_or xs i d) l }; seen = sym e }

-- one more element of a list that is seen through a function
pub one_mapped : {A B C : Type 0} (f : A → C) (g : B → C) (xs : List B) (i : ℕ) (d : B) (y : A) (ys : List A) → i < length xs → f y ≡ g (get_or xs i d)
    → map f ys ≡ map g (take i xs) → map f (ys ++ (y ∷ [])) ≡ map g (take (i + 1) xs)
one_mapped f g xs i d y ys l e inv = map_push f ys y ∙ ap (λ w. w ++ (f y ∷ [])) inv ∙ sym (take_seen g xs i (f y) (seen_or g xs i d (f y) l e))

-- all elements
pub all_mapped : {B C : Type 0} (g : B → C) (xs : List B) (i : ℕ) → length xs ≤ i → map g (take i xs) ≡ map g xs
all_mapped g xs i l = ap (λ z. map g z) (take_all i xs l)
