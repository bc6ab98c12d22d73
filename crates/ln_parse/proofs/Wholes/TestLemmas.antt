-- What tests of numbers and lists say.
use Rattle.std.proofs.Common.{◌≡◌, ℕ, ◌<◌, ◌||◌, Bool, true, false, nat_lt, List, [], ◌∷◌, map, Some, refl, ap, ◌∙◌, arith, option_map}
use Rattle.std.specs.Prelude.{ℤ, int_lt, ◌≤ℤ◌, slice_get}
use Rattle.std.proofs.lemmas.Bool.Decides.{nat_tests}
use Rattle.std.proofs.lemmas.Int.{ints}
use Rattle.std.proofs.lemmas.Option.{slice_get-map}
use Rattle.ln_parse.specs.ReadsBack.{Every}

-- a number that tests as below another is below it
pub below : (n m : ℕ) → nat_lt n m ≡ true → n < m
below n m h = grind (arith, nat_tests)

-- of two integers in order, the second isn't below the first
pub in_order : (x y : ℤ) → x ≤ℤ y → int_lt y x ≡ false
in_order x y h = grind (arith, nat_tests, ints)

-- where a disjunction is false, both tests are
pub neither : (a b : Bool) → (a || b) ≡ false → (a ≡ false) × (b ≡ false)
neither true b h = absurd (cc)
neither false b h = (refl, h)

-- and the other way
pub or_false : (a b : Bool) → a ≡ false → b ≡ false → (a || b) ≡ false
or_false a b h g = rw (h, g) refl

-- a fact that follows from either of two tests follows where one of them is true
pub or_cases : {C : Type 0} (a b : Bool) → (a || b) ≡ true → (a ≡ true → C) → (b ≡ true → C) → C
or_cases true b h f g = f refl
or_cases false b h f g = g h

-- what is in a list is in its image
pub get_map : {A B : Type 0} (f : A → B) (xs : List A) (k : ℕ) (x : A) → slice_get xs k ≡ Some x → slice_get (map f xs) k ≡ Some (f x)
get_map f xs k x h = slice_get-map f xs k ∙ ap (option_map f) h

-- what holds of the image of each element holds of each element of the image
pub every_image : {A B : Type 0} (P : B → Type 0) (f : A → B) (xs : List A) → ((x : A) → P (f x)) → Every P (map f xs)
every_image P f [] h = tt
every_image P f (x ∷ xs) h = (h x, every_image P f xs h)

-- what holds of all holds of each element
pub every_of : {A : Type 0} (P : A → Type 0) (xs : List A) → ((x : A) → P x) → Every P xs
every_of P [] h = tt
every_of P (x ∷ xs) h = (h x, every_of P xs h)

-- two facts on each element
pub every_pair : {A : Type 0} (P Q : A → Type 0) (xs : List A) → Every P xs → Every Q xs → Every (λ x. P x × Q x) xs
every_pair P Q [] a b = tt
every_pair P Q (x ∷ xs) a b = ((a.0, b.0), every_pair P Q xs a.1 b.1)
