-- Proves facts on exchanged vectors: their length, their exponents, their total degree.
use Rattle.std.proofs.Common.{◌≡◌, ℕ, ◌+◌, ◌<◌, ◌≤◌, zero, suc, refl, sym, ◌∙◌, ap, arith, List, [], ◌∷◌, length, get_or}
use Rattle.std.proofs.lemmas.List.{get_or_past}
use Rattle.ln_algebra.proofs.Exchanging.Folds.{below-has, over, over-exchanged, over-map, over-same, variables}
use Rattle.ln_algebra.specs.Exchange.{exchanged, listed}
use Rattle.ln_algebra.specs.Vector.{total_degree}

-- there are n values
pub length-listed : (n : ℕ) (f : ℕ → ℕ) → length (listed n f) ≡ n
length-listed zero f = refl
length-listed (suc n) f = ap suc (length-listed n (λ v. f (suc v)))

-- each at its place
pub get-listed : (n : ℕ) (f : ℕ → ℕ) (v : ℕ) → v < n → get_or (listed n f) v 0 ≡ f v
get-listed zero f v h = absurd (omega arith)
get-listed (suc n) f zero h = refl
get-listed (suc n) f (suc v) h = get-listed n (λ v. f (suc v)) v (omega arith)

-- equal values are equal lists
listed-same : (n : ℕ) (f g : ℕ → ℕ) → ((v : ℕ) → v < n → f v ≡ g v) → listed n f ≡ listed n g
listed-same zero f g h = refl
listed-same (suc n) f g h =
    ap (λ z. z ∷ listed n (λ v. f (suc v))) (h 0 (omega arith))
    ∙ ap (λ z. g 0 ∷ z) (listed-same n (λ v. f (suc v)) (λ v. g (suc v)) (λ v l. h (suc v) (omega (arith, l))))

-- equal partners exchange to equal vectors
pub exchanged-same : (p q : ℕ → ℕ) (a : List ℕ) → ((v : ℕ) → p v ≡ q v) → exchanged p a ≡ exchanged q a
exchanged-same p q a h = listed-same (length a) (λ v. get_or a (p v) 0) (λ v. get_or a (q v) 0) (λ v l. ap (λ w. get_or a w 0) (h v))

-- a list is that of its values
listed-get : (a : List ℕ) → listed (length a) (λ v. get_or a v 0) ≡ a
listed-get [] = refl
listed-get (k ∷ a) = ap (λ z. k ∷ z) (listed-get a)

-- ---- an exchange of n variables
module _ (n : ℕ) (partner : ℕ → ℕ) (within : (v : ℕ) → v < n → partner v < n) (twice : (v : ℕ) → partner (partner v) ≡ v) where
  -- it has as many exponents
  pub length-exchanged : (a : List ℕ) → length (exchanged partner a) ≡ length a
  length-exchanged a = length-listed (length a) (λ v. get_or a (partner v) 0)

  -- each variable has that of its partner
  pub get-exchanged : (a : List ℕ) (v : ℕ) → length a ≡ n → v < n → get_or (exchanged partner a) v 0 ≡ get_or a (partner v) 0
  get-exchanged a v l h = get-listed (length a) (λ v. get_or a (partner v) 0) v (omega (arith, l, h))

  -- so has a variable past the last
  pub get-past : (a : List ℕ) (v : ℕ) → length a ≡ n → n ≤ v → get_or (exchanged partner a) v 0 ≡ 0
  get-past a v l h = get_or_past (exchanged partner a) v 0 (omega (arith, l, h, length-exchanged a))

  -- twice exchanged is as it was
  pub exchanged-twice : (a : List ℕ) → length a ≡ n → exchanged partner (exchanged partner a) ≡ a
  exchanged-twice a l =
      ap (λ k. listed k (λ v. get_or (exchanged partner a) (partner v) 0)) (length-exchanged a)
      ∙ listed-same (length a) (λ v. get_or (exchanged partner a) (partner v) 0) (λ v. get_or a v 0)
      (λ v h. get-exchanged a (partner v) l (within v (omega (arith, l, h))) ∙ ap (λ z. get_or a z 0) (twice v))
      ∙ listed-get a

  -- the sum of exponents
  degree-is : (a : List ℕ) → total_degree a ≡ over ◌+◌ 0 (λ a b c. omega arith) (λ v. get_or a v 0) (variables (length a))
  degree-is [] = refl
  degree-is (k ∷ a) = ap (λ z. k + z) (degree-is a ∙ over-map ◌+◌ 0 (λ a b c. omega arith) (λ v. get_or (k ∷ a) v 0) suc (variables (length a)))

  -- it has the same total degree
  pub degree-exchanged : (a : List ℕ) → length a ≡ n → total_degree (exchanged partner a) ≡ total_degree a
  degree-exchanged a l =
      degree-is (exchanged partner a)
      ∙ ap (λ k. over ◌+◌ 0 (λ a b c. omega arith) (λ v. get_or (exchanged partner a) v 0) (variables k)) (length-exchanged a ∙ l)
      ∙ over-same ◌+◌ 0 (λ a b c. omega arith) (λ v. get_or (exchanged partner a) v 0) (λ v. get_or a (partner v) 0) (variables n)
      (λ v i. get-exchanged a v l (below-has n v i))
      ∙ over-exchanged ◌+◌ 0 (λ a b c. omega arith) (λ v. get_or a v 0) n partner within twice
      ∙ ap (λ k. over ◌+◌ 0 (λ a b c. omega arith) (λ v. get_or a v 0) (variables k)) (sym l)
      ∙ sym (degree-is a)
