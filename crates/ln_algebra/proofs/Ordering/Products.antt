-- The first vector of a product is the sum of the factors' first vectors, in any order.
use Rattle.std.proofs.Common.{◌≡◌, ℕ, ◌+◌, ◌*◌, ◌<◌, ◌≤◌, zero, suc, refl, sym, ◌∙◌, ap, arith, subst, List, [], ◌∷◌, map, length, get_or}
use Rattle.std.proofs.Common.{true, false, ◌&&◌, ◌⊎◌, inl, inr}
use Rattle.std.proofs.lemmas.Int.{ints}
use Rattle.std.proofs.lemmas.Bool.{cases_lt}
use Rattle.std.proofs.Math.IntN.{ℤ, pos, negsuc, ◌*ℤ◌, neg_ℤ}
use Rattle.std.proofs.Math.Nat.{mul-pos}
use Rattle.ln_algebra.proofs.Ordering.Admissible.{cancels, get_or-plus}
use Rattle.ln_algebra.proofs.Walking.Cut.{of_sites}
use Rattle.ln_algebra.proofs.Expanded.Degree.{coefficient-above, sum_splits-on, degree-plus}
use Rattle.ln_algebra.proofs.Expanded.Expansion.{length-plus}
use Rattle.ln_algebra.proofs.Ordering.First.{first-or-zero, no-first-zero}
use Rattle.ln_algebra.proofs.Expanded.Normal.{same_vector-refl}
use Rattle.ln_algebra.proofs.Expanded.Ring.{mul_assoc, mul_one}
use Rattle.ln_algebra.proofs.Expanded.Shift.{product_is}
use Rattle.ln_algebra.proofs.Vectors.Splits.{one_if, splits-once, same_vector-differ}
use Rattle.ln_algebra.proofs.Expanded.Sums.{sum_splits_is}
use Rattle.ln_algebra.proofs.Deriving.Taylor.{sum_splits-scale, sum_splits-zero}
use Rattle.ln_algebra.proofs.Ordering.Unique.{first-unique-in}
use Rattle.ln_algebra.specs.Coefficient.{Series, product, product_at}
use Rattle.ln_algebra.specs.Earlier.{IsOver, Sites}
use Rattle.ln_algebra.specs.Orders.{IsAdmissible}
use Rattle.ln_algebra.specs.Product.{AreFirsts, AreSigns, OneIsZero, OneLacksFirst, multiplied_numbers}
use Rattle.ln_algebra.specs.Sign.{IsFirstIn, IsSignIn, perturbed, sign_of}
use Rattle.ln_algebra.specs.Tree.{Mul, Tree, degree_of, multiplied}
use Rattle.ln_algebra.specs.Vector.{IsSplit, plus, same_vector, sum_of, total_degree, zeros}

-- ---- sums of vectors
-- the order of the summands is no matter
pub plus-comm : (b c : List ℕ) → length b ≡ length c → plus b c ≡ plus c b
plus-comm [] [] l = refl
plus-comm [] (y ∷ c) l = absurd (omega arith)
plus-comm (x ∷ b) [] l = absurd (omega arith)
plus-comm (x ∷ b) (y ∷ c) l = let h : x + y ≡ y + x = omega arith in ap (λ z. z ∷ plus b c) h ∙ ap (λ z. (y + x) ∷ z) (plus-comm b c (omega (arith, l)))

-- nor is how they are grouped
plus-assoc : (a b c : List ℕ) → plus (plus a b) c ≡ plus a (plus b c)
plus-assoc [] b c = refl
plus-assoc (x ∷ a) [] c = refl
plus-assoc (x ∷ a) (y ∷ b) [] = refl
plus-assoc (x ∷ a) (y ∷ b) (z ∷ c) =
    let h : (x + y) + z ≡ x + (y + z) = omega arith in
    ap (λ q. q ∷ plus (plus a b) c) h ∙ ap (λ q. (x + (y + z)) ∷ q) (plus-assoc a b c)

-- adding zeros changes nothing
plus-zeros : (a : List ℕ) → plus a (zeros (length a)) ≡ a
plus-zeros [] = refl
plus-zeros (x ∷ a) = let h : x + 0 ≡ x = omega arith in ap (λ q. q ∷ plus a (zeros (length a))) h ∙ ap (λ q. x ∷ q) (plus-zeros a)

-- one vector taken from both sides
plus-left : (a v d : List ℕ) → length v ≡ length a → length d ≡ length a → plus a v ≡ plus a d → v ≡ d
plus-left [] [] [] i j e = refl
plus-left [] (y ∷ v) d i j e = absurd (omega arith)
plus-left [] [] (z ∷ d) i j e = absurd (omega arith)
plus-left (x ∷ a) [] d i j e = absurd (omega arith)
plus-left (x ∷ a) (y ∷ v) [] i j e = absurd (omega arith)
plus-left (x ∷ a) (y ∷ v) (z ∷ d) i j e =
    let h : x + y ≡ x + z = cc in
    let t : plus a v ≡ plus a d = cc in
    let q : y ≡ z = omega (arith, h) in
    ap (λ w. w ∷ v) q ∙ ap (λ w. z ∷ w) (plus-left a v d (omega (arith, i)) (omega (arith, j)) t)

-- ---- vectors over the variables of sites
-- a sum is over them
over-plus : (n : ℕ) (sites : Sites) (a b : List ℕ) → IsOver n sites a → IsOver n sites b → IsOver n sites (plus a b)
over-plus n sites a b o p = record {
  size = length-plus a b (o.size ∙ sym p.size) ∙ p.size;
  of_sites = λ v h. get_or-plus a b v (o.size ∙ sym p.size) ∙ omega (arith, o.of_sites v h, p.of_sites v h);
}

-- so is the first part of a sum
over-left : (n : ℕ) (sites : Sites) (s u v : List ℕ) → IsOver n sites s → IsSplit s u v → IsOver n sites u
over-left n sites s u v o i = record { size = i.left ∙ o.size; of_sites = λ w h. at w (o.of_sites w h) } where
  at : (w : ℕ) → get_or s w 0 ≡ 0 → get_or u w 0 ≡ 0
  at w h = omega (arith, h, sym (get_or-plus u v w (i.left ∙ sym i.right)) ∙ ap (λ z. get_or z w 0) i.sum)

-- and the second
over-right : (n : ℕ) (sites : Sites) (s u v : List ℕ) → IsOver n sites s → IsSplit s u v → IsOver n sites v
over-right n sites s u v o i = record { size = i.right ∙ o.size; of_sites = λ w h. at w (o.of_sites w h) } where
  at : (w : ℕ) → get_or s w 0 ≡ 0 → get_or v w 0 ≡ 0
  at w h = omega (arith, h, sym (get_or-plus u v w (i.left ∙ sym i.right)) ∙ ap (λ z. get_or z w 0) i.sum)

-- ---- numbers
-- 0 times a number
pub left-zero : (y z : ℤ) → y ≡ pos 0 → y *ℤ z ≡ pos 0
left-zero y z e = rw e (omega (arith, ints))

-- a number times 0
pub right-zero : (y z : ℤ) → z ≡ pos 0 → y *ℤ z ≡ pos 0
right-zero y z e = rw e (omega (arith, ints))

-- the sign of a number above 0
sign-positive : (k : ℕ) → 0 < k → sign_of (pos k) ≡ pos 1
sign-positive zero l = absurd (omega (arith, l))
sign-positive (suc k) l = refl

-- the sign of its negative
sign-negative : (k : ℕ) → 0 < k → sign_of (neg_ℤ (pos k)) ≡ negsuc 0
sign-negative zero l = absurd (omega (arith, l))
sign-negative (suc k) l = refl

-- the sign of a product is the product of the signs
pub sign-times : (y z : ℤ) → sign_of (y *ℤ z) ≡ sign_of y *ℤ sign_of z
sign-times (pos zero) z = ap sign_of (left-zero (pos 0) z refl) ∙ sym (left-zero (pos 0) (sign_of z) refl)
sign-times (pos (suc m)) (pos zero) = ap sign_of (right-zero (pos (suc m)) (pos 0) refl)
sign-times (pos (suc m)) (pos (suc n)) = sign-positive (suc m * suc n) (mul-pos (omega arith) (omega arith))
sign-times (pos (suc m)) (negsuc n) = sign-negative (suc m * suc n) (mul-pos (omega arith) (omega arith))
sign-times (negsuc m) (pos zero) = ap sign_of (right-zero (negsuc m) (pos 0) refl)
sign-times (negsuc m) (pos (suc n)) = sign-negative (suc m * suc n) (mul-pos (omega arith) (omega arith))
sign-times (negsuc m) (negsuc n) = sign-positive (suc m * suc n) (mul-pos (omega arith) (omega arith))

-- a product is 0 only where a factor is
pub times-zero : (y z : ℤ) → y *ℤ z ≡ pos 0 → (y ≡ pos 0) ⊎ (z ≡ pos 0)
times-zero (pos zero) z e = inl refl
times-zero (pos (suc m)) (pos zero) e = inr refl
times-zero (negsuc m) (pos zero) e = inr refl
times-zero (pos (suc m)) (pos (suc n)) e = absurd (let q : pos 1 ≡ pos 0 = sym (sign-times (pos (suc m)) (pos (suc n))) ∙ ap sign_of e in cc)
times-zero (pos (suc m)) (negsuc n) e = absurd (let q : negsuc 0 ≡ pos 0 = sym (sign-times (pos (suc m)) (negsuc n)) ∙ ap sign_of e in cc)
times-zero (negsuc m) (pos (suc n)) e = absurd (let q : negsuc 0 ≡ pos 0 = sym (sign-times (negsuc m) (pos (suc n))) ∙ ap sign_of e in cc)
times-zero (negsuc m) (negsuc n) e = absurd (let q : pos 1 ≡ pos 0 = sym (sign-times (negsuc m) (negsuc n)) ∙ ap sign_of e in cc)

-- a product of numbers is 0 exactly where one of them is
pub zero-products : (zs : List ℤ) → (OneIsZero zs → multiplied_numbers zs ≡ pos 0) × (multiplied_numbers zs ≡ pos 0 → OneIsZero zs)
zero-products [] = (λ h. absurd h, λ e. absurd (let q : pos 1 ≡ pos 0 = e in cc))
zero-products (z ∷ zs) =
    let ih = zero-products zs in (
      λ h. elim h [ inl q ↦ left-zero z (multiplied_numbers zs) q | inr k ↦ right-zero z (multiplied_numbers zs) (ih.0 k) ],
      λ e. elim (times-zero z (multiplied_numbers zs) e) [ inl q ↦ inl q | inr q ↦ inr (ih.1 q) ],
    )

-- ---- one series
module _ (n : ℕ) (sites : Sites) (before : List ℕ → List ℕ → Type 0) (order : IsAdmissible n sites before) where
  -- over the variables of sites, the series is 0 before a
  abbrev ZeroBefore : Series → List ℕ → Type 0
  ZeroBefore f a = (b : List ℕ) → IsOver n sites b → before b a → f b ≡ pos 0

  -- the first vector has only zeros before it, whatever their degree
  zero_before-all : (x : ℕ → ℤ) (e : Tree) (a : List ℕ) → IsFirstIn before n sites x e a → ZeroBefore (perturbed sites x e) a
  zero_before-all x e a f b o l = by_case (cases_lt (degree_of e) (total_degree b)) where
    by_case : (degree_of e < total_degree b) ⊎ (total_degree b ≤ degree_of e) → perturbed sites x e b ≡ pos 0
    by_case (inl k) = coefficient-above (of_sites sites) x e b k
    by_case (inr k) = f.zero_before b o k l

  -- ---- two series
  module _ (f g : Series) (a d : List ℕ) (o : IsOver n sites a) (p : IsOver n sites d) (zf : ZeroBefore f a) (zg : ZeroBefore g d) where
    -- on the side of the second factor, where the first is a or later, and the whole is at most the sum
    right-before : (u v : List ℕ) → IsOver n sites u → IsOver n sites v → before a u → (plus u v ≡ plus a d) ⊎ before (plus u v) (plus a d) → before v d
    right-before u v i j l h = cancels n sites before order v d a j p o.size shifted where
      up : before (plus a v) (plus u v)
      up = order.sums a u v (o.size ∙ sym j.size) (i.size ∙ sym j.size) l

      whole : before (plus a v) (plus a d)
      whole = elim h [ inl q ↦ subst (λ (z : List ℕ). before (plus a v) z) q up | inr k ↦ order.transitive (plus a v) (plus u v) (plus a d) up k ]

      shifted : before (plus v a) (plus d a)
      shifted = subst (λ (z : List ℕ). before z (plus d a)) (plus-comm a v (o.size ∙ sym j.size))
          (subst (λ (z : List ℕ). before (plus a v) z) (plus-comm a d (o.size ∙ sym p.size)) whole)

    -- before the sum each part is 0
    part-before : (t : List ℕ) → IsOver n sites t → before t (plus a d) → (u v : List ℕ) → IsSplit t u v → f u *ℤ g v ≡ pos 0
    part-before t w l u v s = by_order (order.total u a i o) where
      i : IsOver n sites u
      i = over-left n sites t u v w s

      j : IsOver n sites v
      j = over-right n sites t u v w s

      k : before (plus u v) (plus a d)
      k = subst (λ (z : List ℕ). before z (plus a d)) (sym s.sum) l

      same : u ≡ a → before v d
      same q =
          let m : before (plus a v) (plus a d) = subst (λ (z : List ℕ). before (plus z v) (plus a d)) q k in
          cancels n sites before order v d a j p o.size (subst (λ (z : List ℕ). before z (plus d a)) (plus-comm a v (o.size ∙ sym j.size))
          (subst (λ (z : List ℕ). before (plus a v) z) (plus-comm a d (o.size ∙ sym p.size)) m))

      by_order : (u ≡ a) ⊎ (before u a ⊎ before a u) → f u *ℤ g v ≡ pos 0
      by_order (inl q) = right-zero (f u) (g v) (zg v j (same q))
      by_order (inr (inl m)) = left-zero (f u) (g v) (zf u i m)
      by_order (inr (inr m)) = right-zero (f u) (g v) (zg v j (right-before u v i j m (inr k)))

    -- so is the product
    pub product-before : ZeroBefore (product f g) (plus a d)
    product-before t w l = product_is f g t ∙ sum_splits-on t (λ u v. f u *ℤ g v) (λ u v. pos 0) (part-before t w l) ∙ sum_splits-zero t

    -- the two vectors are one way to write their sum
    here : IsSplit (plus a d) a d
    here = record { left = sym (length-plus a d (o.size ∙ sym p.size) ∙ p.size ∙ sym o.size); right = sym (length-plus a d (o.size ∙ sym p.size)); sum = refl }

    -- at the sum only this one counts
    part-at : (u v : List ℕ) → IsSplit (plus a d) u v → f u *ℤ g v ≡ (f a *ℤ g d) *ℤ one_if (same_vector u a && same_vector v d)
    part-at u v s = by_order (order.total u a i o) where
      i : IsOver n sites u
      i = over-left n sites (plus a d) u v (over-plus n sites a d o p) s

      j : IsOver n sites v
      j = over-right n sites (plus a d) u v (over-plus n sites a d o p) s

      other : (u ≡ a → ⊥) → f u *ℤ g v ≡ pos 0 → f u *ℤ g v ≡ (f a *ℤ g d) *ℤ one_if (same_vector u a && same_vector v d)
      other ne z =
          let b : same_vector u a ≡ false = same_vector-differ u a ne in
          z ∙ sym (ap (λ q. (f a *ℤ g d) *ℤ one_if (q && same_vector v d)) b ∙ right-zero (f a *ℤ g d) (pos 0) refl)

      itself : u ≡ a → f u *ℤ g v ≡ (f a *ℤ g d) *ℤ one_if (same_vector u a && same_vector v d)
      itself q =
          let r : v ≡ d = plus-left a v d (j.size ∙ sym o.size) (p.size ∙ sym o.size) (ap (λ z. plus z v) (sym q) ∙ s.sum) in
          let b : same_vector u a ≡ true = rw q (same_vector-refl a) in
          let c : same_vector v d ≡ true = rw r (same_vector-refl d) in
          ap (λ z. f z *ℤ g v) q ∙ ap (λ z. f a *ℤ g z) r
          ∙ sym (ap (λ y. (f a *ℤ g d) *ℤ one_if (y && same_vector v d)) b ∙ ap (λ y. (f a *ℤ g d) *ℤ one_if (true && y)) c ∙ mul_one (f a *ℤ g d))

      by_order : (u ≡ a) ⊎ (before u a ⊎ before a u) → f u *ℤ g v ≡ (f a *ℤ g d) *ℤ one_if (same_vector u a && same_vector v d)
      by_order (inl q) = itself q
      by_order (inr (inl m)) = other (λ q. order.irreflexive a (subst (λ (z : List ℕ). before z a) q m)) (left-zero (f u) (g v) (zf u i m))
      by_order (inr (inr m)) = other (λ q. order.irreflexive a (subst (λ (z : List ℕ). before a z) q m))
          (right-zero (f u) (g v) (zg v j (right-before u v i j m (inl s.sum))))

    -- the coefficient at the sum is the product of the two
    pub product-at : product f g (plus a d) ≡ f a *ℤ g d
    product-at =
        product_is f g (plus a d)
        ∙ sum_splits-on (plus a d) (λ u v. f u *ℤ g v) (λ u v. (f a *ℤ g d) *ℤ one_if (same_vector u a && same_vector v d)) part-at
        ∙ sum_splits-scale (plus a d) (f a *ℤ g d) (λ u v. one_if (same_vector u a && same_vector v d))
        ∙ ap (λ z. (f a *ℤ g d) *ℤ z) (sym (sum_splits_is (plus a d) (λ u v. one_if (same_vector u a && same_vector v d))) ∙ splits-once (plus a d) a d here)
        ∙ mul_one (f a *ℤ g d)

  -- ---- two factors
  module _ (x : ℕ → ℤ) where
    -- the coefficient at the sum of the first vectors
    pub times-value : (e f : Tree) (a d : List ℕ) → IsFirstIn before n sites x e a → IsFirstIn before n sites x f d
        → perturbed sites x (Mul e f) (plus a d) ≡ perturbed sites x e a *ℤ perturbed sites x f d
    times-value e f a d i j = product-at (perturbed sites x e) (perturbed sites x f) a d i.over j.over (zero_before-all x e a i) (zero_before-all x f d j)

    -- the sum of the first vectors is the first
    pub times-first : (e f : Tree) (a d : List ℕ) → IsFirstIn before n sites x e a → IsFirstIn before n sites x f d
        → IsFirstIn before n sites x (Mul e f) (plus a d)
    times-first e f a d i j = record {
      over = over-plus n sites a d i.over j.over;
      small = omega (arith, i.small, j.small, degree-plus a d (i.over.size ∙ sym j.over.size));
      nonzero = λ z. elim (times-zero (perturbed sites x e a) (perturbed sites x f d)
          (sym (times-value e f a d i j) ∙ z)) [ inl q ↦ i.nonzero q | inr q ↦ j.nonzero q ];
      zero_before =
          λ b o s l. product-before (perturbed sites x e) (perturbed sites x f) a d i.over j.over (zero_before-all x e a i) (zero_before-all x f d j) b o l;
    }

    -- where one factor has no first vector, the product has none
    abbrev Lacks : Tree → Type 0
    Lacks e = (a : List ℕ) → IsFirstIn before n sites x e a → ⊥

    -- so has the product of two
    times-lacks : (e f : Tree) → Lacks e ⊎ Lacks f → Lacks (Mul e f)
    times-lacks e f h a i = i.nonzero (product_is (perturbed sites x e) (perturbed sites x f) a
        ∙ sum_splits-on a (λ u v. perturbed sites x e u *ℤ perturbed sites x f v) (λ u v. pos 0) (λ u v s. by_case u v s h) ∙ sum_splits-zero a)
      where
        by_case : (u v : List ℕ) → IsSplit a u v → Lacks e ⊎ Lacks f → perturbed sites x e u *ℤ perturbed sites x f v ≡ pos 0
        by_case u v s (inl k) =
            left-zero (perturbed sites x e u) (perturbed sites x f v) (no-first-zero n sites before order x e k u (over-left n sites a u v i.over s))
        by_case u v s (inr k) =
            right-zero (perturbed sites x e u) (perturbed sites x f v) (no-first-zero n sites before order x f k v (over-right n sites a u v i.over s))

    -- the sign of a product of two
    times-sign : (e f : Tree) (s t : ℤ) → IsSignIn before n sites x e s → IsSignIn before n sites x f t → IsSignIn before n sites x (Mul e f) (s *ℤ t)
    times-sign e f s t (inl (a, i, q)) (inl (d, j, r)) =
        inl (
          plus a d,
          times-first e f a d i j,
          ap (λ z. z *ℤ t) q ∙ ap (λ z. sign_of (perturbed sites x e a) *ℤ z) r
              ∙ sym (sign-times (perturbed sites x e a) (perturbed sites x f d)) ∙ ap sign_of (sym (times-value e f a d i j)),
        )
    times-sign e f s t (inl i) (inr (k, r)) = inr (times-lacks e f (inr k), right-zero s t r)
    times-sign e f s t (inr (k, q)) j = inr (times-lacks e f (inl k), left-zero s t q)

    -- ---- any number of factors
    -- the first vector of a product, and its coefficient
    pub product-first : (e : Tree) (es : List Tree) (as' : List (List ℕ)) → AreFirsts before n sites x (e ∷ es) as' →
        IsFirstIn before n sites x (multiplied e es) (sum_of n as')
        × (perturbed sites x (multiplied e es) (sum_of n as') ≡ product_at (map (perturbed sites x) (e ∷ es)) as')
    product-first e es [] h = absurd h
    product-first e [] (a ∷ b ∷ as') h = absurd h.1
    product-first e [] (a ∷ []) h =
        let q : plus a (zeros n) ≡ a = ap (λ z. plus a (zeros z)) (sym h.0.over.size) ∙ plus-zeros a in
        (subst (λ (z : List ℕ). IsFirstIn before n sites x e z) (sym q) h.0, ap (perturbed sites x e) q ∙ sym (mul_one (perturbed sites x e a)))
    product-first e (f ∷ fs) (a ∷ []) h = absurd h.1
    product-first e (f ∷ fs) (a ∷ b ∷ bs) h =
        let ih = product-first (Mul e f) fs (plus a b ∷ bs) (times-first e f a b h.0 h.1.0, h.1.1) in
        let q : plus (plus a b) (sum_of n bs) ≡ plus a (plus b (sum_of n bs)) = plus-assoc a b (sum_of n bs) in
        let R : ℤ = product_at (map (perturbed sites x) fs) bs in (
          subst (λ (z : List ℕ). IsFirstIn before n sites x (multiplied (Mul e f) fs) z) q ih.0,
          ap (perturbed sites x (multiplied (Mul e f) fs)) (sym q) ∙ ih.1 ∙ ap (λ z. z *ℤ R) (times-value e f a b h.0 h.1.0)
              ∙ mul_assoc (perturbed sites x e a) (perturbed sites x f b) R,
        )

    -- where one factor has none, the product has none
    pub product-lacks : (e : Tree) (es : List Tree) → OneLacksFirst before n sites x (e ∷ es) → Lacks (multiplied e es)
    product-lacks e [] (inl k) = k
    product-lacks e [] (inr k) = absurd k
    product-lacks e (f ∷ fs) (inl k) = product-lacks (Mul e f) fs (inl (times-lacks e f (inl k)))
    product-lacks e (f ∷ fs) (inr (inl k)) = product-lacks (Mul e f) fs (inl (times-lacks e f (inr k)))
    product-lacks e (f ∷ fs) (inr (inr k)) = product-lacks (Mul e f) fs (inr k)

    -- each has a first vector, or one lacks it
    firsts-or-one : (es : List Tree) → ((as' : List (List ℕ)) × AreFirsts before n sites x es as') ⊎ OneLacksFirst before n sites x es
    firsts-or-one [] = inl ([], tt)
    firsts-or-one (e ∷ es) = by_case (first-or-zero n sites before order x e) (firsts-or-one es) where
      by_case : ((a : List ℕ) × IsFirstIn before n sites x e a) ⊎ ((b : List ℕ) → IsOver n sites b → perturbed sites x e b ≡ pos 0) →
          ((as' : List (List ℕ)) × AreFirsts before n sites x es as') ⊎ OneLacksFirst before n sites x es →
          ((as' : List (List ℕ)) × AreFirsts before n sites x (e ∷ es) as') ⊎ OneLacksFirst before n sites x (e ∷ es)
      by_case (inl f) (inl r) = inl (f.0 ∷ r.0, (f.1, r.1))
      by_case (inr z) r = inr (inl (λ a i. i.nonzero (z a i.over)))
      by_case (inl f) (inr k) = inr (inr k)

    -- each first vector of a product is such a sum
    pub product-first-sum : (e : Tree) (es : List Tree) (a : List ℕ) → IsFirstIn before n sites x (multiplied e es) a
        → (as' : List (List ℕ)) × AreFirsts before n sites x (e ∷ es) as' × (a ≡ sum_of n as')
    product-first-sum e es a i = by_case (firsts-or-one (e ∷ es)) where
      by_case : ((as' : List (List ℕ)) × AreFirsts before n sites x (e ∷ es) as') ⊎ OneLacksFirst before n sites x (e ∷ es)
          → (as' : List (List ℕ)) × AreFirsts before n sites x (e ∷ es) as' × (a ≡ sum_of n as')
      by_case (inl r) = (r.0, r.1, first-unique-in n sites before order x (multiplied e es) a (sum_of n r.0) i (product-first e es r.0 r.1).0)
      by_case (inr k) = absurd (product-lacks e es k a i)

    -- the sign of a product
    pub product-sign : (e : Tree) (es : List Tree) (ss : List ℤ) → AreSigns before n sites x (e ∷ es) ss
        → IsSignIn before n sites x (multiplied e es) (multiplied_numbers ss)
    product-sign e es [] h = absurd h
    product-sign e [] (s ∷ t ∷ ss) h = absurd h.1
    product-sign e [] (s ∷ []) h = subst (λ (z : ℤ). IsSignIn before n sites x e z) (sym (mul_one s)) h.0
    product-sign e (f ∷ fs) (s ∷ []) h = absurd h.1
    product-sign e (f ∷ fs) (s ∷ t ∷ ss) h =
        subst (λ (z : ℤ). IsSignIn before n sites x (multiplied (Mul e f) fs) z) (mul_assoc s t (multiplied_numbers ss))
        (product-sign (Mul e f) fs ((s *ℤ t) ∷ ss) (times-sign e f s t h.0 h.1.0, h.1.1))
