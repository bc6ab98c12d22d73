-- The first vector, the sign and the stage list are unique, in any order of infinitesimals.
use Rattle.std.proofs.Common.{◌≡◌, ℕ, refl, sym, ◌∙◌, ap, arith, List, [], ◌∷◌, Bool, true, false, if◌then◌else◌, ◌⊎◌, inl, inr}
use Rattle.std.proofs.lemmas.Int.{ints}
use Rattle.std.proofs.Math.IntN.{ℤ, pos, ◌+ℤ◌}
use Rattle.ln_algebra.proofs.Ordering.Admissible.{earlier-admissible}
use Rattle.ln_algebra.proofs.Expanded.Normal.{same_vector-is, same_vector-refl}
use Rattle.ln_algebra.specs.Earlier.{Earlier, IndicesDiffer, IsSortedIn, Sites}
use Rattle.ln_algebra.specs.Orders.{IsAdmissible}
use Rattle.ln_algebra.specs.Sign.{IsFirst, IsFirstIn, IsPerturbedSign, IsSignIn, perturbed, sign_of}
use Rattle.ln_algebra.specs.Stage.{IsMonomial, IsStageList, IsStageListBy, IsStageListIn}
use Rattle.ln_algebra.specs.Tree.{Tree}
use Rattle.ln_algebra.specs.Vector.{In, how_many, same_vector}

-- ---- one first vector, and one sign
module _ (n : ℕ) (sites : Sites) (before : List ℕ → List ℕ → Type 0) (order : IsAdmissible n sites before) (x : ℕ → ℤ) (e : Tree) where
  -- two first vectors are one
  pub first-unique-in : (a b : List ℕ) → IsFirstIn before n sites x e a → IsFirstIn before n sites x e b → a ≡ b
  first-unique-in a b f g = by_case (order.total a b f.over g.over) where
    by_case : (a ≡ b) ⊎ (before a b ⊎ before b a) → a ≡ b
    by_case (inl q) = q
    by_case (inr (inl l)) = absurd (f.nonzero (g.zero_before a f.over f.small l))
    by_case (inr (inr l)) = absurd (g.nonzero (f.zero_before b g.over g.small l))

  -- two signs are one
  pub sign-unique-in : (s t : ℤ) → IsSignIn before n sites x e s → IsSignIn before n sites x e t → s ≡ t
  sign-unique-in s t (inl (a, f, p)) (inl (b, g, q)) = p ∙ ap (λ z. sign_of (perturbed sites x e z)) (first-unique-in a b f g) ∙ sym q
  sign-unique-in s t (inl (a, f, p)) (inr (none, q)) = absurd (none a f)
  sign-unique-in s t (inr (none, p)) (inl (b, g, q)) = absurd (none b g)
  sign-unique-in s t (inr (none, p)) (inr (other, q)) = p ∙ sym q

-- ---- one list in order has given members
module _ (n : ℕ) (sites : Sites) (before : List ℕ → List ℕ → Type 0) (order : IsAdmissible n sites before) where
  -- two lists in order with the same members are one
  pub sorted-same : (xs ys : List (List ℕ)) → IsSortedIn before xs → IsSortedIn before ys → ((a : List ℕ) → In xs a → In ys a)
      → ((a : List ℕ) → In ys a → In xs a) → xs ≡ ys
  sorted-same [] [] s t h k = refl
  sorted-same [] (y ∷ ys) s t h k = absurd (k y (inl refl))
  sorted-same (x ∷ xs) [] s t h k = absurd (h x (inl refl))
  sorted-same (x ∷ xs) (y ∷ ys) s t h k =
      let r : xs ≡ ys = sorted-same xs ys s.1 t.1 (λ a i. down a i (h a (inr i))) (λ a i. up a i (k a (inr i))) in
      ap (λ z. z ∷ xs) heads ∙ ap (λ z. y ∷ z) r where
        join : (x ≡ y) ⊎ In ys x → (y ≡ x) ⊎ In xs y → x ≡ y
        join (inl q) j = q
        join (inr i) (inl q) = sym q
        join (inr i) (inr j) = absurd (order.irreflexive x (order.transitive x y x (s.0 y j) (t.0 x i)))

        heads : x ≡ y
        heads = join (h x (inl refl)) (k y (inl refl))

        down : (a : List ℕ) → In xs a → (a ≡ y) ⊎ In ys a → In ys a
        down a i (inl q) = absurd (order.irreflexive x (let l : before x a = s.0 a i in let z : a ≡ x = q ∙ sym heads in rw z at l))
        down a i (inr j) = j

        up : (a : List ℕ) → In ys a → (a ≡ x) ⊎ In xs a → In xs a
        up a i (inl q) = absurd (order.irreflexive y (let l : before y a = t.0 a i in let z : a ≡ y = q ∙ heads in rw z at l))
        up a i (inr j) = j

-- two stage lists are one
pub stage_list-unique-by : (n : ℕ) (sites : Sites) (before : List ℕ → List ℕ → Type 0) → IsAdmissible n sites before
    → (M : List ℕ → Type 0) (xs ys : List (List ℕ)) → IsStageListBy before n sites M xs → IsStageListBy before n sites M ys → xs ≡ ys
stage_list-unique-by n sites before order M xs ys s t =
    sorted-same n sites before order xs ys s.in_order t.in_order (λ a i. t.all a (s.stages a i)) (λ a i. s.all a (t.stages a i))

-- and so are two stage lists of an expression
pub stage_list-unique-in : (n : ℕ) (sites : Sites) (before : List ℕ → List ℕ → Type 0) → IsAdmissible n sites before
    → (e : Tree) (xs ys : List (List ℕ)) → IsStageListIn before n sites e xs → IsStageListIn before n sites e ys → xs ≡ ys
stage_list-unique-in n sites before order e = stage_list-unique-by n sites before order (IsMonomial n e)

-- ---- by the smallest infinitesimal
-- two first vectors are one
pub first-unique : (n : ℕ) (sites : Sites) (x : ℕ → ℤ) (e : Tree) (a b : List ℕ) → IndicesDiffer sites → IsFirst n sites x e a → IsFirst n sites x e b → a ≡ b
first-unique n sites x e a b d = first-unique-in n sites (Earlier sites) (earlier-admissible n sites d) x e a b

-- two perturbed signs are one
pub sign-unique : (n : ℕ) (sites : Sites) (x : ℕ → ℤ) (e : Tree) (s t : ℤ) → IndicesDiffer sites → IsPerturbedSign n sites x e s
    → IsPerturbedSign n sites x e t → s ≡ t
sign-unique n sites x e s t d = sign-unique-in n sites (Earlier sites) (earlier-admissible n sites d) x e s t

-- two stage lists are one
pub stage_list-unique : (n : ℕ) (sites : Sites) (e : Tree) (xs ys : List (List ℕ)) → IndicesDiffer sites → IsStageList n sites e xs
    → IsStageList n sites e ys → xs ≡ ys
stage_list-unique n sites e xs ys d = stage_list-unique-in n sites (Earlier sites) (earlier-admissible n sites d) e xs ys

-- ---- each member once
-- a list in order has each of its members once
none_of : (before : List ℕ → List ℕ → Type 0) → ((a : List ℕ) → before a a → ⊥) → (a : List ℕ) (xs : List (List ℕ))
    → ((b : List ℕ) → In xs b → before a b) → how_many (λ b. same_vector b a) xs ≡ pos 0
none_of before irreflexive a [] h = refl
none_of before irreflexive a (x ∷ xs) h = by_case (same_vector x a) refl (none_of before irreflexive a xs (λ b i. h b (inr i))) where
  by_case : (t : Bool) → same_vector x a ≡ t → how_many (λ b. same_vector b a) xs ≡ pos 0
      → (if t then pos 1 else pos 0) +ℤ how_many (λ b. same_vector b a) xs ≡ pos 0
  by_case true e ih = absurd (irreflexive a (let q : x ≡ a = same_vector-is x a e in let l : before a x = h x (inl refl) in rw q at l))
  by_case false e ih = omega (arith, ints, ih)

-- a member of a list in order is there once
pub in_order-once : (before : List ℕ → List ℕ → Type 0) → ((a : List ℕ) → before a a → ⊥) → (xs : List (List ℕ)) (a : List ℕ)
    → IsSortedIn before xs → In xs a → how_many (λ b. same_vector b a) xs ≡ pos 1
in_order-once before irreflexive [] a s i = absurd i
in_order-once before irreflexive (x ∷ xs) a s (inl q) =
    let t : same_vector x a ≡ true = rw q (same_vector-refl x) in
    let n : how_many (λ b. same_vector b a) xs ≡ pos 0 = rw q (none_of before irreflexive x xs s.0) in
    rw t (omega (arith, ints, n))
in_order-once before irreflexive (x ∷ xs) a s (inr i) = by_case (same_vector x a) refl (in_order-once before irreflexive xs a s.1 i) where
  by_case : (t : Bool) → same_vector x a ≡ t → how_many (λ b. same_vector b a) xs ≡ pos 1
      → (if t then pos 1 else pos 0) +ℤ how_many (λ b. same_vector b a) xs ≡ pos 1
  by_case true e ih = absurd (irreflexive x (let q : x ≡ a = same_vector-is x a e in let l : before x a = s.0 a i in rw (sym q) at l))
  by_case false e ih = omega (arith, ints, ih)
