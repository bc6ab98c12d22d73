-- Lists of words that are made of lists.
use Rattle.std.proofs.Common.{◌≡◌, ℕ, false, true, List, [], ◌∷◌, ◌++◌, map, refl, sym, ap, ◌∙◌, append-nil, rules}
use Rattle.std.specs.Prelude.{codes, bytes_eq}
use Rattle.std.proofs.lemmas.Slice.Eq.{bytes_eq-Decides}
use Rattle.ln_base.specs.Exponents.{Each}

-- equal lists begin with the same element
pub head : {A : Type 0} {a b : A} {x y : List A} → a ∷ x ≡ b ∷ y → a ≡ b
head e = cc

-- equal lists are equal after their first element
pub rest : {A : Type 0} {a b : A} {x y : List A} → a ∷ x ≡ b ∷ y → x ≡ y
rest e = cc

-- all words have been read
pub words_all : {A B : Type 0} (f : A → B) (all : List B) (xs : List A) (here : List B) → all ≡ map f xs ++ here → here ≡ [] → all ≡ map f xs
words_all f all xs here e g = e ∙ ap (λ z. map f xs ++ z) g ∙ append-nil (map f xs)

-- after some words comes one that is none of these
pub stops : {A B : Type 0} (f : A → B) (P : A → Type 0) (done : List B) (w : B) (next : List B) (xs : List A) → Each P xs
    → done ++ w ∷ next ≡ map f xs → ((x : A) → P x → w ≡ f x → ⊥) → ⊥
stops f P [] w next [] p e h = absurd (cc)
stops f P [] w next (x ∷ xs) p e h = h x p.0 (head e)
stops f P (d ∷ ds) w next [] p e h = absurd (cc)
stops f P (d ∷ ds) w next (x ∷ xs) p e h = stops f P ds w next xs p.1 (rest e) h

-- lists that are written with the same words are equal, where equal words are of equal elements
pub same_map : {A B : Type 0} (f : A → B) (P : A → Type 0) → ((x y : A) → P x → P y → f x ≡ f y → x ≡ y) → (xs ys : List A) → Each P xs
    → Each P ys → map f xs ≡ map f ys → xs ≡ ys
same_map f P g [] [] p q e = refl
same_map f P g [] (y ∷ ys) p q e = absurd (cc)
same_map f P g (x ∷ xs) [] p q e = absurd (cc)
same_map f P g (x ∷ xs) (y ∷ ys) p q e =
    let h = g x y p.0 q.0 (head e) in
    let t = same_map f P g xs ys p.1 q.1 (rest e) in
    λ i. h i ∷ t i

-- words of which the next is the word of no element are the words of no list
pub stops_here : {A B : Type 0} (f : A → B) (P : A → Type 0) (all : List B) (done : List A) (w : B) (here next : List B)
    → all ≡ map f done ++ here → here ≡ w ∷ next → ((x : A) → P x → w ≡ f x → ⊥) → (xs : List A) → Each P xs → all ≡ map f xs → ⊥
stops_here f P all done w here next e g h xs p q = stops f P (map f done) w next xs p (sym (e ∙ ap (λ z. map f done ++ z) g) ∙ q) h

-- a word that differs from `:` in its bytes isn't `:`
pub differs : (w x : List ℕ) → false ≡ bytes_eq w x → x ≡ codes ":" → w ≡ codes ":" → ⊥
differs w x e f g = let h : false ≡ bytes_eq (codes ":") (codes ":") = e ∙ (λ i. bytes_eq (g i) (f i)) in cc

-- texts that compare as equal byte by byte are equal
pub equal_bytes : (x y : List ℕ) → bytes_eq x y ≡ true → x ≡ y
equal_bytes x y h = let d = bytes_eq-Decides x y in search (rules, d)
