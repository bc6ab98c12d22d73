-- The steps of the loops over terms whose monomials are numbers.
use Rattle.std.proofs.Common.{◌≡◌, ℕ, ◌+◌, ◌*◌, ◌<◌, ◌≤◌, ◌^◌, zero, suc, [], ◌∷◌, ◌++◌, length, get_or, set, ◌-◌, ◌/◌, sym}
use Rattle.std.proofs.Common.{◌∙◌, ap, arith, subst, take, drop, unsigned_abs, Fits, ◌≢◌}
use mir.Syntax.{w64}
use Rattle.std.proofs.Math.IntN.{ℤ, pos, ◌*ℤ◌}
use Rattle.std.proofs.Math.Nat.{add-mul, mul-le-mul_left, mul-le-mul_right}
use Rattle.std.proofs.lemmas.Int.{unsigned_abs-mul}
use Rattle.std.proofs.lemmas.List.{length-append, length-drop, length-set, length-take-le, map-append, take-append-drop, take_all, take_more, take_more_set}
use Rattle.ln_poly.specs.Keyed.{AreAllProducts, AreAscending, IsLower, Keyed, ProductsFit}
use Rattle.ln_poly.specs.Merge.{HaveFactors, IsMerge, weight_of}
use Rattle.ln_poly.specs.Keyed.{row}
use Rattle.std.proofs.lemmas.List.Elements.{All-drop, All-from_recursion, All-take, recursion_from_All}
use Rattle.ln_poly.proofs.Packing.Rows.{one-row, rows-joined, weight-append}

-- ---- sizes
-- the factor of a term is at most the size
pub factor-low : (f : Keyed) (i : ℕ) (d : ℕ × ℤ) → i < length f → unsigned_abs (get_or f i d).1 ≤ weight_of f
factor-low [] i d l = absurd (omega arith)
factor-low (t ∷ f) zero d l = omega arith
factor-low (t ∷ f) (suc i) d l = omega (arith, factor-low f i d (omega arith))

-- a place in a list that has memory is in memory
pub place-fits : (k n s : ℕ) → k ≤ n → n * s < 2 ^ 63 → Fits w64 (k * s)
place-fits k n s l room = omega (arith, mul-le-mul_right s l, room)

-- ---- a row
-- the products so far
abbrev pub IsRowPut : Keyed → Keyed → ℕ × ℤ → Keyed → ℕ → Type 0
IsRowPut old out s g i = (take i out ≡ row s (take i g)) × (length out ≡ length old)

-- the product of two factors has room
pub product-room : (g : Keyed) (i : ℕ) (s t : ℕ × ℤ) → t ≡ get_or g i t → i < length g → unsigned_abs s.1 * weight_of g < 2 ^ 127
    → unsigned_abs (s.1 *ℤ t.1) < 2 ^ 127
product-room g i s t e l room = omega (
  arith,
  unsigned_abs-mul s.1 t.1,
  mul-le-mul_left (unsigned_abs s.1) (factor-low g i t l),
  ap (λ z. unsigned_abs s.1 * unsigned_abs z.1) e,
  room,
)

-- a further product
pub row-next : (old out g : Keyed) (s t x : ℕ × ℤ) (i : ℕ) → IsRowPut old out s g i → t ≡ get_or g i t → i < length g → length g ≤ length old
    → x ≡ (s.0 + t.0, s.1 *ℤ t.1) → IsRowPut old (set out i x) s g (i + 1)
row-next old out g s t x i p e l k q = (
  take_more_set out i x (omega (arith, l, k, p.1)) ∙ ap (λ z. z ++ (x ∷ [])) p.0 ∙ ap (λ z. row s (take i g) ++ (z ∷ [])) q
      ∙ sym (ap (row s) (take_more g i t l ∙ ap (λ z. take i g ++ (z ∷ [])) (sym e))
      ∙ map-append (λ (z : ℕ × ℤ). (s.0 + z.0, s.1 *ℤ z.1)) (take i g) (t ∷ [])),
  length-set out i x ∙ p.1,
)

-- the whole row
pub row-end : (out g : Keyed) (s : ℕ × ℤ) (i : ℕ) → take i out ≡ row s (take i g) → i ≡ length g → take (length g) out ≡ row s g
row-end out g s i e q = ap (λ z. take z out) (sym q) ∙ e ∙ ap (row s) (take_all i g (omega (arith, q)))

-- ---- halves
-- the size of the products of a list in two parts
whole-weight : (f f' f'' g : Keyed) → f ≡ f' ++ f'' → weight_of f * weight_of g ≡ weight_of f' * weight_of g + weight_of f'' * weight_of g
whole-weight f f' f'' g e =
    ap (λ z. z * weight_of g) (ap weight_of e ∙ weight-append f' f'') ∙ add-mul (weight_of f') (weight_of f'') (weight_of g)

-- there is room for the sum of the products of both parts
pub sum-room : (a b f f' f'' g : Keyed) → AreAllProducts a f' g → AreAllProducts b f'' g → f ≡ f' ++ f'' → weight_of f * weight_of g < 2 ^ 127
    → weight_of a + weight_of b < 2 ^ 127
sum-room a b f f' f'' g p q e room = omega (arith, p.size, q.size, whole-weight f f' f'' g e, room)

-- the products of both parts, merged
pub halves-joined : (a b h f f' f'' g : Keyed) → AreAllProducts a f' g → AreAllProducts b f'' g → IsMerge IsLower a b h → f ≡ f' ++ f'' → AreAllProducts h f g
halves-joined a b h f f' f'' g p q m e = subst (λ z. AreAllProducts h z g) (sym e) (rows-joined a b h f' f'' g p q m)

abbrev has_factor : ℕ × ℤ → Type 0
has_factor t = t.1 ≢ pos 0

-- no factor of a half is 0
factors-take : (k : ℕ) (f : Keyed) → HaveFactors f → HaveFactors (take k f)
factors-take k f h = recursion_from_All has_factor (take k f) (All-take has_factor k f (All-from_recursion has_factor f h))

-- nor of the other
factors-drop : (k : ℕ) (f : Keyed) → HaveFactors f → HaveFactors (drop k f)
factors-drop k f h = recursion_from_All has_factor (drop k f) (All-drop has_factor k f (All-from_recursion has_factor f h))

-- ---- the two halves
-- one term
pub one-product : (out f g : Keyed) (s : ℕ × ℤ) → s ≡ get_or f 0 s → length f ≡ 1 → HaveFactors f → AreAscending g → HaveFactors g → out ≡ row s g
    → AreAllProducts out f g
one-product out [] g s q l h a k e = absurd (omega (arith, l))
one-product out (t ∷ []) g s q l h a k e = subst (λ z. AreAllProducts z (t ∷ []) g) (sym (e ∙ ap (λ z. row z g) q)) (one-row t g h.0 a k)
one-product out (t ∷ u ∷ f) g s q l h a k e = absurd (omega (arith, l))

-- there is room for its products
pub one-room : (f g : Keyed) (s : ℕ × ℤ) → s ≡ get_or f 0 s → length f ≡ 1 → weight_of f * weight_of g < 2 ^ 127
    → unsigned_abs s.1 * weight_of g < 2 ^ 127
one-room f g s e l room =
    let d : s ≡ get_or f 0 s = e in
    let k : unsigned_abs s.1 ≤ weight_of f = omega (arith, ap (λ z. unsigned_abs z.1) d, factor-low f 0 s (omega (arith, l))) in
    omega (arith, mul-le-mul_right (weight_of g) k, room)

-- and memory
pub one-long : (f g : Keyed) → length f ≡ 1 → length f * length g ≡ length g
one-long f g l = omega (arith, ap (λ z. z * length g) l)

-- the second half is shorter, too
pub second-shorter : (f f' : Keyed) → 2 ≤ length f → f' ≡ drop (length f / 2) f → length f' < length f
second-shorter f f' o e =
    let b : 0 < length f / 2 = omega (arith, o) in
    omega (arith, b, o, ap length e, length-drop (length f / 2) f)

-- how many products the first half has
pub halves-first : (f g : Keyed) → (length f / 2) * length g ≡ length (take (length f / 2) f) * length g
halves-first f g = let k : length f / 2 ≤ length f = omega arith in ap (λ z. z * length g) (sym (length-take-le (length f / 2) f k))

-- the products of both parts are as many as all
pub parts-long : (f f' f'' g : Keyed) → f ≡ f' ++ f'' → length f * length g ≡ length f' * length g + length f'' * length g
parts-long f f' f'' g e = ap (λ z. z * length g) (ap length e ∙ length-append f' f'') ∙ add-mul (length f') (length f'') (length g)

-- the products of the first terms fit
pub first-fit : (left k : ℕ) (f g : Keyed) → ProductsFit left f g → ProductsFit left (take k f) g
first-fit left k f g p = record {
  low = All-take (λ (x : ℕ × ℤ). x.0 < left) k f p.low;
  low_all = p.low_all;
  room = omega (arith, whole-weight f (take k f) (drop k f) g (sym (take-append-drop k f)), p.room);
  factors = factors-take k f p.factors;
  right = p.right;
  ascending = p.ascending;
}

-- so do those of the others
pub rest-fit : (left k : ℕ) (f g : Keyed) → ProductsFit left f g → ProductsFit left (drop k f) g
rest-fit left k f g p = record {
  low = All-drop (λ (x : ℕ × ℤ). x.0 < left) k f p.low;
  low_all = p.low_all;
  room = omega (arith, whole-weight f (take k f) (drop k f) g (sym (take-append-drop k f)), p.room);
  factors = factors-drop k f p.factors;
  right = p.right;
  ascending = p.ascending;
}

-- and those of a part
pub part-fit : (left i j : ℕ) (f f' g : Keyed) → f' ≡ take (j - i) (drop i f) → ProductsFit left f g → ProductsFit left f' g
part-fit left i j f f' g e p = subst (λ (z : Keyed). ProductsFit left z g) (sym e) (first-fit left (j - i) (drop i f) g (rest-fit left i f g p))
