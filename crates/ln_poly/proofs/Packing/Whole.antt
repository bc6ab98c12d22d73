-- The product of two polynomials by their numbers.
use Rattle.std.proofs.Common.{◌≡◌, ℕ, ◌+◌, ◌-◌, ◌*◌, ◌/◌, ◌<◌, ◌≤◌, ◌^◌, zero, suc, List, [], ◌∷◌}
use Rattle.std.proofs.Common.{◌++◌, length, get_or, take, drop, refl, sym, ◌∙◌, ap}
use Rattle.std.proofs.Common.{arith, subst, All, min}
use Rattle.std.proofs.Math.Nat.{add-mul, min-le_right, mul-le-mul_right}
use Rattle.std.proofs.Math.IntN.{ℤ}
use Rattle.std.proofs.lemmas.Nat.{pow_pos}
use Rattle.std.proofs.lemmas.List.{length-drop, length-map, length-take-le, map-append, take-map, take_all, take_at, take_more}
use Rattle.std.proofs.lemmas.List.Elements.{All-from_recursion}
use Rattle.ln_tree.specs.Exps.{Pairs}
use Rattle.ln_poly.specs.Keyed.{AreAllProducts, AreAscending, IsGivenUp, IsLower, Keyed, ProductsFit}
use Rattle.ln_poly.specs.Merge.{IsMerge, weight_of}
use Rattle.ln_poly.specs.Lean.{largest}
use Rattle.ln_poly.specs.Packed.{AreFields, ArePackable, AreSmall, keyed, opened, packed, taken, top_of, unkeyed, weights}
use Rattle.ln_poly.specs.Rows.{IsRows, PowersFit}
use Rattle.ln_poly.specs.Sparse.{AreBelow, AreRising, IsPoly, Sparse, size_of}
use Rattle.ln_poly.specs.Within.{TakesMore}
use Rattle.ln_poly.specs.Words.{IsPlace, half}
use Rattle.ln_poly.proofs.Packing.Back.{rows-numbers, rows-poly, rows-unkeyed, weight-keyed}
use Rattle.ln_poly.proofs.Packing.Fields.{fields-same, weights-length}
use Rattle.ln_poly.proofs.Packing.Rows.{no-row, rows-joined, weight-append}
use Rattle.ln_poly.proofs.Packing.Terms.{IsOpened, keyed-ascending, keyed-factors, keyed-low, largest-both, left-up-to, right-up-to}
use Rattle.ln_poly.proofs.Sorting.Merges.{keys-weaker}
use Rattle.ln_poly.proofs.TermLists.Bounded.{take-take, takes-more}

-- ---- what there is to pack
-- fields lie in words
pub some-half : (n : ℕ) (ss : List ℕ) → All (IsPlace n) ss → length ss ≡ 256 → 0 < half n
some-half n ss h e = by_case n (h 0 0 (omega (arith, e))).within where
  by_case : (m : ℕ) → get_or ss 0 0 / 127 < m → 0 < half m
  by_case zero l = absurd (omega (arith, l))
  by_case (suc m) l = pow_pos (127 * m + 126)

-- fields for the largest exponents of f and g are for their products
pub packable : (n : ℕ) (f g : Sparse) (a b ss : List ℕ) → ((v : ℕ) → v < 256 → get_or a v 0 ≡ largest f v) → ((v : ℕ) → v < 256 → get_or b v 0 ≡ largest g v)
    → AreBelow 256 f → AreBelow 256 g → All (λ s. PowersFit s g) f → length ss ≡ 256
    → AreFields (λ v. get_or a v 0 + get_or b v 0) (half n) 0 (weights ss) → ArePackable (weights ss) (half n) f g
packable n f g a b ss p q x y h l w = record {
  fields = fields-same (λ v. get_or a v 0 + get_or b v 0) (top_of f g) (half n) 0 (weights ss)
      (λ u _ k. let m : u < 256 = omega (arith, k, weights-length ss, l) in omega (arith, p u m, q u m)) w;
  left_below = subst (λ n. AreBelow n f) (sym (weights-length ss ∙ l)) x;
  right_below = subst (λ n. AreBelow n g) (sym (weights-length ss ∙ l)) y;
  powers = h;
}

-- the same, where the largest exponents are those of lists that are f and g
pub packable-at : (n : ℕ) (f' g' f g : Sparse) (a b ss : List ℕ) → f' ≡ f → g' ≡ g → ((v : ℕ) → v < 256 → get_or a v 0 ≡ largest f' v)
    → ((v : ℕ) → v < 256 → get_or b v 0 ≡ largest g' v) → AreBelow 256 f' → AreBelow 256 g' → All (λ s. PowersFit s g) f → length ss ≡ 256
    → AreFields (λ v. get_or a v 0 + get_or b v 0) (half n) 0 (weights ss) → ArePackable (weights ss) (half n) f g
packable-at n f' g' f g a b ss e d p q x y h l w = packable n f g a b ss (λ v k. p v k ∙ ap (λ z. largest z v) e) (λ v k. q v k ∙ ap (λ z. largest z v) d)
    (subst (AreBelow 256) e x) (subst (AreBelow 256) d y) h l w

-- the largest exponents of lists that are f and g fit together
pub fit-at : (f' g' f g : Sparse) (a b : List ℕ) → f' ≡ f → g' ≡ g → ((v : ℕ) → v < 256 → get_or a v 0 ≡ largest f' v)
    → ((v : ℕ) → v < 256 → get_or b v 0 ≡ largest g' v) → AreRising f' → AreRising g' → All (λ s. PowersFit s g) f
    → (v : ℕ) → v < 256 → get_or a v 0 + get_or b v 0 < 128
fit-at f' g' f g a b e d p q x y h v k = omega (
  arith,
  p v k,
  q v k,
  ap (λ z. largest z v) e,
  ap (λ z. largest z v) d,
  largest-both f g v (subst AreRising e x) (subst AreRising d y) h,
)

module _ (n : ℕ) (ws : List ℕ) (f g : Sparse) (p : ArePackable ws (half n) f g) where
  -- the numbers of f are in that half
  pub left-low : 0 < half n → All (λ t. t.0 < half n) (keyed ws f)
  left-low s = keyed-low (top_of f g) (half n) ws f p.fields s (left-up-to f g)

  -- so are those of g
  pub right-low : 0 < half n → All (λ t. t.0 < half n) (keyed ws g)
  right-low s = keyed-low (top_of f g) (half n) ws g p.fields s (right-up-to f g)

  -- they rise
  right-ascending : IsPoly g → AreAscending (keyed ws g)
  right-ascending h = keyed-ascending (top_of f g) (half n) ws g p.fields h.rising p.right_below (right-up-to f g) h.sorted

  -- so their products fit
  pub keyed-fit : 0 < half n → IsPoly f → IsPoly g → size_of f * size_of g < 2 ^ 127 → ProductsFit (half n) (keyed ws f) (keyed ws g)
  keyed-fit s p q room = record {
    low = left-low s;
    low_all = right-low s;
    room = omega (arith, room, ap (λ z. z * weight_of (keyed ws g)) (weight-keyed ws f), ap (λ z. size_of f * z) (weight-keyed ws g));
    factors = keyed-factors ws f p.factors;
    right = keyed-factors ws g q.factors;
    ascending = right-ascending q;
  }

  all-rows : (h : Keyed) → AreAllProducts h (keyed ws f) (keyed ws g) → AreAllProducts h (keyed ws (take (length f) f)) (keyed ws g)
  all-rows h a = subst (λ z. AreAllProducts h (keyed ws z) (keyed ws g)) (sym (take_all (length f) f (omega arith))) a

  -- the numbers of a product are those of monomials
  pub product-small : (h : Keyed) → AreAllProducts h (keyed ws f) (keyed ws g) → All (λ t. AreSmall (taken ws t.0)) h
  product-small h a = All-from_recursion (λ (t : ℕ × ℤ). AreSmall (taken ws t.0)) h
      (keys-weaker (IsOpened ws f g) (λ k. AreSmall (taken ws k)) h (λ k o. o.small) (rows-numbers ws (half n) h f g (length f) p (all-rows h a)))

  -- the terms of a product
  pub product-rows : (h : Keyed) → AreAllProducts h (keyed ws f) (keyed ws g) → IsRows (unkeyed ws h) f g (length f)
  product-rows h a = rows-unkeyed ws (half n) h f g (length f) p (all-rows h a)

  -- they are a polynomial
  pub product-poly : (h : Keyed) → AreAllProducts h (keyed ws f) (keyed ws g) → size_of f * size_of g < 2 ^ 127 → IsPoly (unkeyed ws h)
  product-poly h a room = rows-poly ws (half n) h f g (length f) p (all-rows h a) room

  keyed-length : (e : Sparse) → length (keyed ws e) ≡ length e
  keyed-length e = length-map e (λ t. (packed ws t.0, t.1))

  -- a product that is given up has more terms
  pub given-up : (most : ℕ) → size_of f * size_of g < 2 ^ 127 → IsGivenUp (keyed ws f) (keyed ws g) most → TakesMore f g most
  given-up most room u =
      let a : AreAllProducts u.done (keyed ws (take u.rows f)) (keyed ws g) =
      subst (λ z. AreAllProducts u.done z (keyed ws g)) (take-map _ u.rows f) u.products in
      let terms : length (unkeyed ws u.done) ≡ length u.done = length-map u.done (λ t. (opened ws t.0, t.1)) in
      let many : most + (length f - u.rows) * length g < length (unkeyed ws u.done) = omega (
        arith,
        u.many,
        terms,
        ap (λ z. (z - u.rows) * length (keyed ws g)) (keyed-length f),
        ap (λ z. (length f - u.rows) * z) (keyed-length g),
      ) in
      takes-more (unkeyed ws u.done) (unkeyed ws u.done) f g f g u.rows most (rows-unkeyed ws (half n) u.done f g u.rows p a)
      (rows-poly ws (half n) u.done f g u.rows p a room) refl refl refl many

-- a further term has its number
pub keyed-next : (ws : List ℕ) (f : Sparse) (done done' : Keyed) (i : ℕ) (t : Pairs × ℤ) → done ≡ keyed ws (take i f) → i < length f
    → t ≡ get_or f i t → done' ≡ done ++ ((packed ws t.0, t.1) ∷ []) → done' ≡ keyed ws (take (i + 1) f)
keyed-next ws f done done' i t e l q p = p ∙ ap (λ z. z ++ ((packed ws t.0, t.1) ∷ [])) e
    ∙ sym (ap (keyed ws) (take_more f i t l ∙ ap (λ z. take i f ++ (z ∷ [])) (sym q))
    ∙ map-append (λ (z : Pairs × ℤ). (packed ws z.0, z.1)) (take i f) (t ∷ []))

-- and its monomial
pub unkeyed-next : (ws : List ℕ) (f : Keyed) (done done' : Sparse) (i : ℕ) (t : ℕ × ℤ) → done ≡ unkeyed ws (take i f) → i < length f
    → t ≡ get_or f i t → done' ≡ done ++ ((opened ws t.0, t.1) ∷ []) → done' ≡ unkeyed ws (take (i + 1) f)
unkeyed-next ws f done done' i t e l q p = p ∙ ap (λ z. z ++ ((opened ws t.0, t.1) ∷ [])) e
    ∙ sym (ap (unkeyed ws) (take_more f i t l ∙ ap (λ z. take i f ++ (z ∷ [])) (sym q))
    ∙ map-append (λ (z : ℕ × ℤ). (opened ws z.0, z.1)) (take i f) (t ∷ []))

-- they are as many
pub unkeyed-length : (ws : List ℕ) (ks : Keyed) → length (unkeyed ws ks) ≡ length ks
unkeyed-length ws ks = length-map ks (λ t. (opened ws t.0, t.1))

-- ---- parts of the rows
weight-take : (i : ℕ) (f : Keyed) → weight_of (take i f) ≤ weight_of f
weight-take zero f = omega arith
weight-take (suc i) [] = omega arith
weight-take (suc i) (t ∷ f) = omega (arith, weight-take i f)

-- what there is of the first rows
pub record ArePartsDone (out aside f g done : Keyed) (i most : ℕ) : Type 0 where
  pub products : AreAllProducts done (take i f) g
  pub within : i ≤ length f
  pub few : length done ≤ most + (length f - i) * length g
  pub long : min (length f) 64 * length g ≤ length out
  pub long_aside : min (length f) 64 * length g ≤ length aside

-- no row yet
pub parts-begin : (out aside f g done : Keyed) (most n : ℕ) → done ≡ [] → n ≡ min (length f) 64 → n * length g ≤ length out
    → n * length g ≤ length aside → ArePartsDone out aside f g done 0 most
parts-begin out aside f g done most n e q l k = record {
  products = subst (λ z. AreAllProducts z [] g) (sym e) (no-row g);
  within = omega arith;
  few = omega (arith, ap length e);
  long = subst (λ z. z * length g ≤ length out) q l;
  long_aside = subst (λ z. z * length g ≤ length aside) q k;
}

-- and room for their factors
pub next-room : (done f f' g : Keyed) (i j : ℕ) → AreAllProducts done (take i f) g → f' ≡ take (j - i) (drop i f) → i ≤ j
    → weight_of f * weight_of g < 2 ^ 127 → weight_of done + weight_of f' * weight_of g < 2 ^ 127
next-room done f f' g i j p e l room =
    let w : weight_of (take i f) + weight_of f' ≡ weight_of (take j f) =
    sym (weight-append (take i f) f') ∙ ap weight_of (ap (λ z. take i f ++ z) e ∙ take-take i (j - i) j f (omega (arith, l))) in
    let m : (weight_of (take i f) + weight_of f') * weight_of g ≤ weight_of f * weight_of g =
    mul-le-mul_right (weight_of g) (omega (arith, w, weight-take j f)) in
    omega (arith, p.size, m, room, add-mul (weight_of (take i f)) (weight_of f') (weight_of g))

-- there is memory for the next rows
pub next-long : (f f' g : Keyed) (i j l : ℕ) → f' ≡ take (j - i) (drop i f) → j ≤ length f → j - i ≤ 64 → min (length f) 64 * length g ≤ l
    → length f' * length g ≤ l
next-long f f' g i j l e k s h =
    let q : length f' ≡ j - i = ap length e ∙ length-take-le (j - i) (drop i f) (omega (arith, length-drop i f, k)) in
    let a : length f' ≤ min (length f) 64 = omega (arith, q, k, s) in
    omega (arith, h, mul-le-mul_right (length g) a)

-- the rows up to j
pub next-products : (next f f' g : Keyed) (i j : ℕ) → AreAllProducts next (take i f ++ f') g → f' ≡ take (j - i) (drop i f) → i ≤ j
    → AreAllProducts next (take j f) g
next-products next f f' g i j p e l =
    subst (λ z. AreAllProducts next z g) (ap (λ z. take i f ++ z) e ∙ take-take i (j - i) j f (omega (arith, l))) p

-- the next rows are done
pub parts-next : (out aside out' aside' f f' g done next : Keyed) (i j most n : ℕ) → ArePartsDone out aside f g done i most
    → ((e : Keyed) → AreAllProducts done e g → AreAllProducts next (e ++ f') g) → f' ≡ take (j - i) (drop i f) → i < j → j ≤ length f
    → length out' ≡ length out → length aside' ≡ length aside → n ≡ length next → (most + (length f - j) * length g < n → ⊥)
    → ArePartsDone out' aside' f g next j most
parts-next out aside out' aside' f f' g done next i j most n r p e l k a b q h = record {
  products = next-products next f f' g i j (p (take i f) r.products) e (omega (arith, l));
  within = k;
  few = omega (arith, q, h);
  long = omega (arith, a, r.long);
  long_aside = omega (arith, b, r.long_aside);
}

-- all rows
pub parts-end : (out aside f g done : Keyed) (i most : ℕ) → ArePartsDone out aside f g done i most → length f ≤ i → AreAllProducts done f g
parts-end out aside f g done i most r l = subst (λ z. AreAllProducts done z g) (take_all i f l) r.products

-- the rows up to j have more terms than are wanted
pub given-up-at : (f f' g done next : Keyed) (i j most n : ℕ) → AreAllProducts done (take i f) g
    → ((e : Keyed) → AreAllProducts done e g → AreAllProducts next (e ++ f') g) → f' ≡ take (j - i) (drop i f) → i < j
    → n ≡ length next → most + (length f - j) * length g < n → n < 2 ^ 64 → IsGivenUp f g most
given-up-at f f' g done next i j most n p q e l d h small = record {
  done = next;
  rows = j;
  products = next-products next f f' g i j (q (take i f) p) e (omega (arith, l));
  many = omega (arith, d, h);
  limit = omega (arith, h, small);
}

-- the size of the memory fits
pub size-small : (f g : Keyed) (n : ℕ) → n ≡ min (length f) 64 → length g * 32 < 2 ^ 63 → n * length g < 2 ^ 64
size-small f g n e h =
    let l : n ≤ 64 = omega (arith, e, min-le_right (length f) 64) in
    omega (arith, h, mul-le-mul_right (length g) l)

-- the products so far and the next ones, merged
pub with-next : (done f g e d p x t : Keyed) (n a : ℕ) → AreAllProducts done e g → AreAllProducts (take n p) f g
    → IsMerge IsLower done (take n d) t → d ≡ take a (p ++ x) → length p ≡ a → AreAllProducts t (e ++ f) g
with-next done f g e d p x t n a u v w q l =
    rows-joined done (take n p) t e f g u v (subst (λ z. IsMerge IsLower done (take n z) t) (q ∙ take_at p x a l) w)
