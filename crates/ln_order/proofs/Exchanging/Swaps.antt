-- Proves what exchanging two neighbouring members of a list does to its places and to its inversions.
use Rattle.std.proofs.Common.{◌≡◌, ◌≢◌, ◌⊎◌, inl, inr, ℕ, zero, suc, ◌+◌, ◌<◌, ◌≤◌, eqb, Bool, true, false, cond, List, [], ◌∷◌, length, get_or, refl, sym}
use Rattle.std.proofs.Common.{◌∙◌, ap, arith, ℤ, pos, ◌<ℤ◌, if◌then◌else◌}
use Rattle.std.specs.Prelude.{All, AllPairs, count_by, int_lt}
use Rattle.std.proofs.lemmas.Bool.{cases_order}
use Rattle.std.proofs.lemmas.Bool.Decides.{nat_tests}
use Rattle.std.proofs.lemmas.Int.{ints}
use Rattle.std.proofs.lemmas.List.Sums.{sum_by-cons}
use Rattle.ln_order.specs.Exchanged.{inversions, other_of}
use Rattle.ln_order.specs.Order.{index_at}

-- the members at j and j + 1 exchanged
abbrev pub swap : ℕ → List ℤ → List ℤ
swap zero [] = []
swap zero (a ∷ []) = a ∷ []
swap zero (a ∷ b ∷ zs) = b ∷ a ∷ zs
swap (suc j) [] = []
swap (suc j) (a ∷ zs) = a ∷ swap j zs

-- An exchange of neighbours keeps the number of indices.
pub length-swap : (j : ℕ) (zs : List ℤ) → length (swap j zs) ≡ length zs
length-swap zero [] = refl
length-swap zero (a ∷ []) = refl
length-swap zero (a ∷ b ∷ zs) = refl
length-swap (suc j) [] = refl
length-swap (suc j) (a ∷ zs) = ap suc (length-swap j zs)

-- ---- places
other-shift : (j s : ℕ) → other_of (suc j) (suc (suc j)) (suc s) ≡ suc (other_of j (suc j) s)
other-shift j s = by_case (eqb s j) refl (eqb s (suc j)) refl where
  by_case : (b : Bool) → eqb s j ≡ b → (c : Bool) → eqb s (suc j) ≡ c → other_of (suc j) (suc (suc j)) (suc s) ≡ suc (other_of j (suc j) s)
  by_case b p c q = grind (arith, nat_tests)

other-zero : (j : ℕ) → other_of (suc j) (suc (suc j)) 0 ≡ 0
other-zero j = grind (arith, nat_tests)

other-past : (s : ℕ) → other_of 0 1 (suc (suc s)) ≡ suc (suc s)
other-past s = grind (arith, nat_tests)

-- the member at a place is that of the other place
pub get-swap : (j : ℕ) (zs : List ℤ) (s : ℕ) (d : ℤ) → suc j < length zs → get_or (swap j zs) s d ≡ get_or zs (other_of j (suc j) s) d
get-swap zero [] s d l = absurd (omega (arith, l))
get-swap zero (a ∷ []) s d l = absurd (omega (arith, l))
get-swap zero (a ∷ b ∷ zs) zero d l = refl
get-swap zero (a ∷ b ∷ zs) (suc zero) d l = refl
get-swap zero (a ∷ b ∷ zs) (suc (suc s)) d l = ap (λ w. get_or (a ∷ b ∷ zs) w d) (sym (other-past s))
get-swap (suc j) [] s d l = absurd (omega (arith, l))
get-swap (suc j) (a ∷ zs) zero d l = ap (λ w. get_or (a ∷ zs) w d) (sym (other-zero j))
get-swap (suc j) (a ∷ zs) (suc s) d l = get-swap j zs s d (omega (arith, l)) ∙ ap (λ w. get_or (a ∷ zs) w d) (sym (other-shift j s))

-- a place below some number has its other below it
other-within : (j n s : ℕ) → suc j < n → s < n → other_of j (suc j) s < n
other-within j n s l k = by_case (eqb s j) refl (eqb s (suc j)) refl where
  by_case : (b : Bool) → eqb s j ≡ b → (c : Bool) → eqb s (suc j) ≡ c → other_of j (suc j) s < n
  by_case true e c f = rw e l
  by_case false e true f = rw e (rw f (omega (arith, l)))
  by_case false e false f = rw e (rw f k)

-- and places that differ have others that differ
other-differs : (j s t : ℕ) → other_of j (suc j) s ≡ other_of j (suc j) t → s ≡ t
other-differs j s t e = by_case (eqb s j) refl (eqb s (suc j)) refl (eqb t j) refl (eqb t (suc j)) refl where
  by_case : (b : Bool) → eqb s j ≡ b → (c : Bool) → eqb s (suc j) ≡ c → (x : Bool) → eqb t j ≡ x → (y : Bool) → eqb t (suc j) ≡ y → s ≡ t
  by_case b p c q x f y g = grind (arith, nat_tests)

-- what is so for all members stays
pub all-swap : (Q : ℤ → Type 0) (j : ℕ) (zs : List ℤ) → suc j < length zs → All Q zs → All Q (swap j zs)
all-swap Q j zs l h k d m =
    let n : k < length zs = omega (arith, m, length-swap j zs) in
    let q : Q (get_or zs (other_of j (suc j) k) d) = h (other_of j (suc j) k) d (other-within j (length zs) k l n) in
    rw (get-swap j zs k d l) q

-- members that differ do so after it
pub differ-swap : (j : ℕ) (zs : List ℤ) → suc j < length zs → AllPairs (λ y z. y ≢ z) zs → AllPairs (λ y z. y ≢ z) (swap j zs)
differ-swap j zs l h i k d m n = λ e.
    by_order (other_of j (suc j) i) (other_of j (suc j) k)
    (cases_order (other_of j (suc j) i) (other_of j (suc j) k)) (other-within j (length zs) i l (omega (arith, m, here))) (other-within j (length zs) k l here)
    (sym (get-swap j zs i d l) ∙ e ∙ get-swap j zs k d l) (λ q. omega (arith, m, other-differs j i k q)) where
      here : k < length zs
      here = omega (arith, n, length-swap j zs)

      by_order : (x y : ℕ) → (x ≡ y) ⊎ ((x < y) ⊎ (y < x)) → x < length zs → y < length zs → get_or zs x d ≡ get_or zs y d → (x ≡ y → ⊥) → ⊥
      by_order x y (inl q) a b e f = f q
      by_order x y (inr (inl q)) a b e f = h x y d q b e
      by_order x y (inr (inr q)) a b e f = h y x d q a (sym e)

-- ---- inversions
-- 1 where the test holds, else 0.
abbrev pub one-if : Bool → ℕ
one-if b = cond b 1 0

-- A count over a list is that of its head and that of its tail.
pub count-cons : (p : ℤ → Bool) (z : ℤ) (zs : List ℤ) → count_by p (z ∷ zs) ≡ one-if (p z) + count_by p zs
count-cons p z zs = sum_by-cons (λ x. cond (p x) 1 0) z zs

count-swap : (p : ℤ → Bool) (j : ℕ) (zs : List ℤ) → count_by p (swap j zs) ≡ count_by p zs
count-swap p zero [] = refl
count-swap p zero (a ∷ []) = refl
count-swap p zero (a ∷ b ∷ zs) =
    omega (arith, count-cons p b (a ∷ zs), count-cons p a zs, count-cons p a (b ∷ zs), count-cons p b zs)
count-swap p (suc j) [] = refl
count-swap p (suc j) (a ∷ zs) = omega (arith, count-cons p a (swap j zs), count-cons p a zs, count-swap p j zs)

is-less : (a b : ℤ) → b <ℤ a → int_lt b a ≡ true
is-less a b h = grind (arith, ints)

no-less : (a b : ℤ) → b <ℤ a → int_lt a b ≡ false
no-less a b h = grind (arith, ints)

-- two neighbours out of order are an inversion that the exchange takes away
pub swap-inversions : (j : ℕ) (zs : List ℤ) → suc j < length zs → index_at zs (suc j) <ℤ index_at zs j → suc (inversions (swap j zs)) ≡ inversions zs
swap-inversions zero [] l h = absurd (omega (arith, l))
swap-inversions zero (a ∷ []) l h = absurd (omega (arith, l))
swap-inversions zero (a ∷ b ∷ zs) l h =
    let y : one-if (int_lt b a) ≡ 1 = rw (is-less a b h) refl in
    let n : one-if (int_lt a b) ≡ 0 = rw (no-less a b h) refl in
    omega (arith, y, n, count-cons (λ z. int_lt z a) b zs, count-cons (λ z. int_lt z b) a zs)
swap-inversions (suc j) [] l h = absurd (omega (arith, l))
swap-inversions (suc j) (a ∷ zs) l h = omega (arith, swap-inversions j zs (omega (arith, l)) h, count-swap (λ z. int_lt z a) j zs)
