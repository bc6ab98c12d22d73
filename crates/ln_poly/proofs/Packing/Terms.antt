-- Terms of two polynomials as numbers: each sum of two numbers is that of a product, and they are in its order.
use Rattle.std.proofs.Common.{◌≡◌, ◌⊎◌, inl, inr, ℕ, ◌+◌, ◌-◌, ◌<◌, ◌≤◌, suc, List, [], ◌∷◌, length, get_or}
use Rattle.std.proofs.Common.{refl, ◌∙◌, ap, arith, All, Less, Equal, Greater}
use Rattle.std.proofs.Math.IntN.{ℤ, pos}
use Rattle.std.proofs.lemmas.List.Recursion.{max_bounds, max_least}
use Rattle.std.proofs.lemmas.Bool.{cases_lt}
use Rattle.std.proofs.lemmas.List.Elements.{All-cons, All-head, All-map, All-nil, All-tail}
use Rattle.std.specs.List.{AllByRecursion}
use Rattle.std.specs.List.Sorted.{IsStrictlySortedBy}
use Rattle.std.specs.Ordering.{is_eq, ordering_reverse}
use Rattle.std.specs.declared.cmp.Ordering.{Ordering}
use Rattle.ln_tree.specs.Exps.{IsAbove, IsBefore, IsRising, Pairs, exponent, pairs_cmp, pairs_cmp-total, same_pairs-is, same_pairs-ties}
use Rattle.ln_tree.proofs.Monomials.{is-before}
use Rattle.ln_poly.specs.Keyed.{AreAscending, AreOver, Has, IsSumIn, Keyed}
use Rattle.ln_poly.specs.Merge.{AllKeys, HaveFactors}
use Rattle.ln_poly.specs.Lean.{largest}
use Rattle.ln_poly.specs.Packed.{AreFields, AreSmall, ArePackable, keyed, number, opened, packed, taken, top_of, unkeyed}
use Rattle.ln_poly.specs.Rows.{PowersFit}
use Rattle.ln_poly.specs.Sparse.{AreBelow, AreRising, AreSorted, IsFactor, Sparse}
use Rattle.ln_poly.proofs.Packing.Numbers.{number-adds, number-below, number-rises, number-same}
use Rattle.ln_poly.proofs.Packing.Opened.{opened-exponent, small-rising, taken-small}
use Rattle.ln_poly.proofs.Sorting.Merging.{above-none, none-above}
use Rattle.ln_poly.proofs.TermLists.Exponents.{exponent-small}

-- ---- the largest exponents
-- no exponent exceeds the largest
pub largest-at : (f : Sparse) (i v : ℕ) (d : Pairs × ℤ) → i < length f → exponent v (get_or f i d).0 ≤ largest f v
largest-at f i v d h = max_bounds (λ g. largest g v) (λ t. exponent v t.0) refl (λ t g. refl) f i d h

-- what no exponent exceeds the largest doesn't
largest-most : (f : Sparse) (v m : ℕ) → ((i : ℕ) (d : Pairs × ℤ) → i < length f → exponent v (get_or f i d).0 ≤ m) → largest f v ≤ m
largest-most f v m h = max_least (λ g. largest g v) (λ t. exponent v t.0) refl (λ t g. refl) f ([], pos 0) m (λ i l. h i ([], pos 0) l)

-- where those of all products fit, the largest of both do
pub largest-both : (f g : Sparse) (v : ℕ) → AreRising f → AreRising g → All (λ s. PowersFit s g) f → largest f v + largest g v < 128
largest-both f g v r q h =
    let low : largest g v ≤ 127 = largest-most g v 127 (λ j e k. omega (arith, exponent-small (get_or g j e).0 v (q j e k))) in
    let each : (i : ℕ) (d : Pairs × ℤ) → i < length f → exponent v (get_or f i d).0 ≤ 127 - largest g v =
    λ i d k. omega (
      arith,
      largest-most g v (127 - exponent v (get_or f i d).0) (λ j e m. omega (arith, h i d k j e m v)),
      exponent-small (get_or f i d).0 v (r i d k),
    ) in
    omega (arith, low, largest-most f v (127 - largest g v) each)

-- in no term an exponent is above top
abbrev pub AreUpTo : (ℕ → ℕ) → Sparse → Type 0
AreUpTo top f = All (λ t. (v : ℕ) → exponent v t.0 ≤ top v) f

-- no exponent of f is above the largest of both
pub left-up-to : (f g : Sparse) → AreUpTo (top_of f g) f
left-up-to f g i d h v = omega (arith, largest-at f i v d h)

-- nor one of g
pub right-up-to : (f g : Sparse) → AreUpTo (top_of f g) g
right-up-to f g i d h v = omega (arith, largest-at g i v d h)

-- ---- one number
-- k is the number of the product of a term of f and one of g
pub record IsOpened (ws : List ℕ) (f g : Sparse) (k : ℕ) : Type 0 where
  pub small : AreSmall (taken ws k)
  pub rising : IsRising (opened ws k)
  pub within : IsAbove (opened ws k) (length ws)
  pub below : (n : ℕ) → AreBelow n f → AreBelow n g → IsAbove (opened ws k) n
  pub under : (v : ℕ) → exponent v (opened ws k) ≤ top_of f g v
  pub same : packed ws (opened ws k) ≡ k

none-from : (n v : ℕ) (f : Sparse) (i : ℕ) (d : Pairs × ℤ) → i < length f → AreBelow n f → n ≤ v → exponent v (get_or f i d).0 ≡ 0
none-from n v f i d h a l = above-none n v (get_or f i d).0 (a i d h) l

-- the product of a term of f and one of g
module _ (ws : List ℕ) (left : ℕ) (f g : Sparse) (p : ArePackable ws left f g) (i j : ℕ) (d e : Pairs × ℤ) (h : i < length f) (l : j < length g) where
  abbrev both : ℕ → ℕ
  both u = exponent u (get_or f i d).0 + exponent u (get_or g j e).0

  both-number : number ws 0 both ≡ packed ws (get_or f i d).0 + packed ws (get_or g j e).0
  both-number = number-adds ws 0 (λ u. exponent u (get_or f i d).0) (λ u. exponent u (get_or g j e).0) both (λ u. refl)

  both-high : (u : ℕ) → both u ≤ top_of f g u
  both-high u = omega (arith, largest-at f i u d h, largest-at g j u e l)

  both-none : (n u : ℕ) → AreBelow n f → AreBelow n g → n ≤ u → both u ≡ 0
  both-none n u a b k = omega (arith, none-from n u f i d h a k, none-from n u g j e l b k)

  -- the exponents of its number
  pub product-exponent : (v : ℕ) → exponent v (opened ws (packed ws (get_or f i d).0 + packed ws (get_or g j e).0))
      ≡ exponent v (get_or f i d).0 + exponent v (get_or g j e).0
  product-exponent v = rw (← both-number)
      (opened-exponent (top_of f g) left ws both p.fields both-high (λ u k. both-none (length ws) u p.left_below p.right_below k) v)

  product-small : AreSmall (taken ws (packed ws (get_or f i d).0 + packed ws (get_or g j e).0))
  product-small = rw (← both-number) (taken-small (top_of f g) left ws both p.fields both-high (λ u. p.powers i d h j e l u))

  opened-product : (k : ℕ) → packed ws (get_or f i d).0 + packed ws (get_or g j e).0 ≡ k → IsOpened ws f g k
  opened-product k q = record {
    small = small;
    rising = small-rising 0 (taken ws k) small;
    within = above (length ws) p.left_below p.right_below;
    below = above;
    under = λ v. omega (arith, powers v, both-high v);
    same = number-same ws 0 (λ v. exponent v (opened ws k)) both (λ v _ _. powers v) ∙ both-number ∙ q;
  } where
    small : AreSmall (taken ws k)
    small = rw (← q) product-small

    powers : (v : ℕ) → exponent v (opened ws k) ≡ exponent v (get_or f i d).0 + exponent v (get_or g j e).0
    powers v = rw (← q) (product-exponent v)

    above : (n : ℕ) → AreBelow n f → AreBelow n g → IsAbove (opened ws k) n
    above n a b = none-above n (opened ws k) (small-rising 0 (taken ws k) small) (λ v z. omega (arith, powers v, both-none n v a b z))

-- where a number of f's terms stands
record IsKeyAt (ws : List ℕ) (f : Sparse) (a : ℕ) : Type 0 where
  pub at : ℕ
  pub within : at < length f
  pub is : packed ws (get_or f at ([], pos 0)).0 ≡ a

key-at : (ws : List ℕ) (f : Sparse) (a : ℕ) → Has (keyed ws f) a → IsKeyAt ws f a
key-at ws [] a i = absurd i
key-at ws (t ∷ f) a (inl e) = record { at = 0; within = omega arith; is = e }
key-at ws (t ∷ f) a (inr i) = let k : IsKeyAt ws f a = key-at ws f a i in record { at = suc k.at; within = omega (arith, k.within); is = k.is }

-- a sum of a number of f and one of g is that of a product
pub sum-opened : (ws : List ℕ) (left : ℕ) (f g : Sparse) (k : ℕ) → ArePackable ws left f g → IsSumIn (keyed ws f) (keyed ws g) k → IsOpened ws f g k
sum-opened ws left f g k p s =
    let a : IsKeyAt ws f s.a = key-at ws f s.a s.left in
    let b : IsKeyAt ws g s.b = key-at ws g s.b s.right in
    opened-product ws left f g p a.at b.at ([], pos 0) ([], pos 0) a.within b.within k (omega (arith, a.is, b.is, s.sum))

-- ---- the order
-- where the first of two monomials comes before the other, it has the smaller number
packed-less : (top : ℕ → ℕ) (left : ℕ) (ws : List ℕ) (a b : Pairs) → AreFields top left 0 ws → IsRising a → IsRising b → IsAbove b (length ws)
    → ((v : ℕ) → exponent v a ≤ top v) → ((v : ℕ) → exponent v b ≤ top v) → pairs_cmp a b ≡ Less → packed ws a < packed ws b
packed-less top left ws a b f r s w x y h =
    let k : IsBefore a b = is-before a b r s h in
    number-rises top left 0 k.variable ws (λ v. exponent v a) (λ v. exponent v b) f x y k.same k.less (omega arith)
    (omega (arith, variable-within k.variable k.less (cases_lt k.variable (length ws))))
  where
    variable-within : (v : ℕ) → exponent v a < exponent v b → (v < length ws) ⊎ (length ws ≤ v) → v < length ws
    variable-within v l (inl q) = q
    variable-within v l (inr q) = absurd (omega (arith, l, above-none (length ws) v b w q))

-- numbers of products are in their order
pub opened-less : (ws : List ℕ) (left : ℕ) (f g : Sparse) (k l : ℕ) → ArePackable ws left f g → IsOpened ws f g k → IsOpened ws f g l → k < l
    → pairs_cmp (opened ws k) (opened ws l) ≡ Less
opened-less ws left f g k l p x y h = by_case (pairs_cmp (opened ws k) (opened ws l)) refl where
  by_case : (o : Ordering) → pairs_cmp (opened ws k) (opened ws l) ≡ o → o ≡ Less
  by_case Less e = refl
  by_case Equal e =
      let q : opened ws k ≡ opened ws l = same_pairs-is (opened ws k) (opened ws l) (same_pairs-ties (opened ws k) (opened ws l) ∙ ap is_eq e) in
      absurd (omega (arith, h, x.same, y.same, ap (packed ws) q))
  by_case Greater e =
      let q : pairs_cmp (opened ws l) (opened ws k) ≡ Less = pairs_cmp-total.antisymm (opened ws l) (opened ws k) ∙ ap ordering_reverse e in
      absurd (omega (
        arith,
        h,
        x.same,
        y.same,
        packed-less (top_of f g) left ws (opened ws l) (opened ws k) p.fields y.rising x.rising x.within y.under x.under q,
      ))

-- ---- lists of numbers
-- what holds of each number is known of each monomial
pub unkeyed-all : (P : Pairs → Type 0) (Q : ℕ → Type 0) (ws : List ℕ) (ks : Keyed) → ((k : ℕ) → Q k → P (opened ws k)) → AllKeys Q ks
    → All (λ t. P t.0) (unkeyed ws ks)
unkeyed-all P Q ws [] w h = All-nil (λ t. P t.0)
unkeyed-all P Q ws (t ∷ ks) w h = All-cons (λ z. P z.0) (opened ws t.0, t.1) (unkeyed ws ks) (w t.0 h.0) (unkeyed-all P Q ws ks w h.1)

before-all : (ws : List ℕ) (left : ℕ) (f g : Sparse) (k : ℕ) (ks : Keyed) → ArePackable ws left f g → IsOpened ws f g k → AllKeys (IsOpened ws f g) ks
    → AreOver k ks → AllByRecursion (λ (y : Pairs × ℤ). pairs_cmp (opened ws k) y.0 ≡ Less) (unkeyed ws ks)
before-all ws left f g k [] p x h o = tt
before-all ws left f g k (t ∷ ks) p x h o = (opened-less ws left f g k t.0 p x h.0 o.0, before-all ws left f g k ks p x h.1 o.1)

-- rising numbers are of sorted terms
pub unkeyed-sorted : (ws : List ℕ) (left : ℕ) (f g : Sparse) (ks : Keyed) → ArePackable ws left f g → AllKeys (IsOpened ws f g) ks
    → AreAscending ks → AreSorted (unkeyed ws ks)
unfolding IsStrictlySortedBy
unkeyed-sorted ws left f g [] p h a = tt
unkeyed-sorted ws left f g (t ∷ ks) p h a = (before-all ws left f g t.0 ks p h.0 h.1 a.0, unkeyed-sorted ws left f g ks p h.1 a.1)

-- ---- numbers of a list of terms
keyed-over : (top : ℕ → ℕ) (left : ℕ) (ws : List ℕ) (e : Pairs) (f : Sparse) → AreFields top left 0 ws → IsRising e → ((v : ℕ) → exponent v e ≤ top v)
    → AreRising f → AreBelow (length ws) f → AreUpTo top f → AllByRecursion (λ (y : Pairs × ℤ). pairs_cmp e y.0 ≡ Less) f
    → AreOver (packed ws e) (keyed ws f)
keyed-over top left ws e [] p r x s b u h = tt
keyed-over top left ws e (t ∷ f) p r x s b u h = (
  packed-less top left ws e t.0 p r (All-head (λ z. IsRising z.0) t f s) (All-head (λ z. IsAbove z.0 (length ws)) t f b) x
      (All-head (λ z. (v : ℕ) → exponent v z.0 ≤ top v) t f u) h.0,
  keyed-over top left ws e f p r x (All-tail (λ z. IsRising z.0) t f s) (All-tail (λ z. IsAbove z.0 (length ws)) t f b)
      (All-tail (λ z. (v : ℕ) → exponent v z.0 ≤ top v) t f u) h.1,
)

-- sorted terms have rising numbers
pub keyed-ascending : (top : ℕ → ℕ) (left : ℕ) (ws : List ℕ) (f : Sparse) → AreFields top left 0 ws → AreRising f → AreBelow (length ws) f → AreUpTo top f
    → AreSorted f → AreAscending (keyed ws f)
unfolding IsStrictlySortedBy
keyed-ascending top left ws [] p s b u h = tt
keyed-ascending top left ws (t ∷ f) p s b u h = (
  keyed-over top left ws t.0 f p (All-head (λ z. IsRising z.0) t f s) (All-head (λ z. (v : ℕ) → exponent v z.0 ≤ top v) t f u)
      (All-tail (λ z. IsRising z.0) t f s) (All-tail (λ z. IsAbove z.0 (length ws)) t f b) (All-tail (λ z. (v : ℕ) → exponent v z.0 ≤ top v) t f u) h.0,
  keyed-ascending top left ws f p (All-tail (λ z. IsRising z.0) t f s) (All-tail (λ z. IsAbove z.0 (length ws)) t f b)
      (All-tail (λ z. (v : ℕ) → exponent v z.0 ≤ top v) t f u) h.1,
)

-- they are below `left`
pub keyed-low : (top : ℕ → ℕ) (left : ℕ) (ws : List ℕ) (f : Sparse) → AreFields top left 0 ws → 0 < left → AreUpTo top f → All (λ t. t.0 < left) (keyed ws f)
keyed-low top left ws f p s u = All-map (λ (t : ℕ × ℤ). t.0 < left) (λ (t : Pairs × ℤ). (packed ws t.0, t.1)) f
    (λ i d l. number-below top left 0 ws (λ v. exponent v (get_or f i d).0) p s (u i d l))

-- no factor is 0
pub keyed-factors : (ws : List ℕ) (f : Sparse) → All (λ t. IsFactor t.1) f → HaveFactors (keyed ws f)
keyed-factors ws [] h = tt
keyed-factors ws (t ∷ f) h = ((All-head (λ z. IsFactor z.1) t f h).0, keyed-factors ws f (All-tail (λ z. IsFactor z.1) t f h))
