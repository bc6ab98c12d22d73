-- The steps of the nested form, with their ranges.
use Rattle.std.proofs.Common.{◌≡◌, ℕ, ℤ, ◌+◌, ◌-◌, ◌*◌, ◌/◌, ◌^◌, ◌≤◌, ◌<◌, max, true, false, List, [], ◌∷◌, length, refl, zero, suc, ap, arith}
use Rattle.std.proofs.Common.{pos, ◌+ℤ◌, ◌∙◌, sym, subst, unsigned_abs, slice_index_or, take}
use Rattle.std.specs.Prelude.{FitsSigned, Option, Some, None, negsuc, slice_get, ◌==◌}
use mir.Syntax.{w128}
use Rattle.std.proofs.Math.Nat.{mul-le-mul_left, one-le-pow}
use Rattle.std.proofs.lemmas.Nat.{mul-le}
use Rattle.std.proofs.lemmas.Bool.{eqb-false, eqb-true}
use Rattle.std.proofs.lemmas.Int.{ints, fits_signed_from_abs}
use Rattle.std.proofs.lemmas.List.{nil_from_length}
use Rattle.ln_algebra.specs.Terms.{Term}
use Rattle.ln_algebra.specs.Tree.{Tree, Num, Input, Neg, Add, Mul, Pow}
use Rattle.ln_algebra.specs.Weights.{weighted_sum}
use Rattle.ln_interval.specs.Range.{Range, point, magnitude, product, sum}
use Rattle.ln_interval.specs.Range as ranged
use Rattle.ln_interval.proofs.Magnitudes.{sum_magnitude, opposite_magnitude, power_magnitude, product_magnitude}
use Rattle.ln_tree.specs.declared.shape.VarInfo.{VarInfo}
use Rattle.ln_bound.specs.Light.{most}
use Rattle.ln_bound.specs.Exact.{IsExact}
use Rattle.ln_bound.specs.Typed.{Typed, TNum, TInput, pair, untyped}
use Rattle.ln_bound.specs.Ranges.{range_or, range_over, ranges}
use Rattle.ln_bound.specs.Value.{size_or, sizes}
use Rattle.ln_bound.specs.Widths.{least}
use Rattle.ln_bound.proofs.Soundness.ExactLaws.{exact_range}
use Rattle.ln_poly.proofs.Loads.Weighing.{size-some}
use Rattle.ln_nest.specs.declared.work.Work.{Work}
use Rattle.ln_nest.specs.Nested.{power_at_once, divided, free_of, is_square, joined, horner, nested, power, scaled, total}
use Rattle.ln_nest.specs.View.{Has, IsScaled, abs_total, opposite_of, plus_of, product_of, scale, square_of, term_in, terms_in, times_of}
use Rattle.ln_nest.proofs.Terms.Scaled.{product_cases}
use Rattle.ln_nest.specs.Lean.{HasNoZero}
use Rattle.ln_nest.proofs.Forms.Bounds.{parts_some, parts_weight, some_weight, sum_weight}
use Rattle.ln_nest.proofs.Terms.Parts.{HavePower, at_once_is}
use Rattle.ln_nest.proofs.Terms.Powers.{halves, multiplies, power_one, power_sum, power_two, squares}

-- M of a variable, and 1 past the last, is at least 1
pub scale_some : (vars : List VarInfo) (v : ℕ) → 1 ≤ scale vars v
scale_some vars v = omega arith

-- of a variable it is its M
pub scale_is : (vars : List VarInfo) (v : ℕ) → v < length vars → scale vars v ≡ sizes vars v
scale_is vars v h = let s = size-some vars v h in omega (arith, s)

-- the declared range of a variable is within it
pub range_scale : (vars : List VarInfo) (v : ℕ) → magnitude (ranges vars v) ≤ scale vars v
range_scale vars v = by_there (slice_get vars v)
  where
    by_there : (o : Option VarInfo) → magnitude (range_or o) ≤ max 1 (size_or o)
    by_there None = omega arith
    by_there (Some i) = omega arith

-- ---- nodes with their ranges and widths
-- a number
pub number_has : (vars : List VarInfo) (c : ℤ) (t : Typed) → t ≡ TNum c (point c) (least (magnitude (point c))) → Has vars t (Num c) (unsigned_abs c)
number_has vars c t e = rw e (record { same = refl; exact = (refl, refl); small = omega arith })

-- variable v, as a tree
abbrev pub input_of : List VarInfo → ℕ → Typed
input_of vars v = TInput v (ranges vars v) (least (magnitude (ranges vars v)))

-- the tree of a variable is exact, and its magnitude is that of the variable's range
pub input_has : (vars : List VarInfo) (v : ℕ) (t : Typed) → t ≡ input_of vars v → Has vars t (Input v) (magnitude (ranges vars v))
input_has vars v t e = rw e (record { same = refl; exact = (refl, refl); small = omega arith })

-- its opposite
pub opposite_has : (vars : List VarInfo) (x : Typed) (e : Tree) (a b : ℕ) → Has vars x e a → magnitude (pair x) ≤ b → Has vars (opposite_of x) (Neg e) b
opposite_has vars x e a b h k =
    let m = opposite_magnitude (pair x) in
    record { same = ap Neg h.same; exact = (h.exact, refl, refl); small = omega (arith, m, k) }

-- a product
pub times_has : (vars : List VarInfo) (x y : Typed) (e g : Tree) (a b : ℕ) → Has vars x e a → Has vars y g b
    → Has vars (times_of x y) (Mul e g) (magnitude (pair x) * magnitude (pair y))
times_has vars x y e g a b h i =
    let m = product_magnitude (pair x) (pair y) in
    record { same = rw (h.same, i.same) refl; exact = (h.exact, i.exact, refl, refl); small = omega (arith, m) }

-- a sum
pub plus_has : (vars : List VarInfo) (x y : Typed) (e g : Tree) (a b : ℕ) → Has vars x e a → Has vars y g b
    → Has vars (plus_of x y) (Add e g) (magnitude (pair x) + magnitude (pair y))
plus_has vars x y e g a b h i =
    let m = sum_magnitude (pair x) (pair y) in
    record { same = rw (h.same, i.same) refl; exact = (h.exact, i.exact, refl, refl); small = omega (arith, m) }

-- the same tree under another name and a larger bound
pub has_as : (vars : List VarInfo) (t : Typed) (e g : Tree) (a b : ℕ) → e ≡ g → a ≤ b → Has vars t e a → Has vars t g b
has_as vars t e g a b q l h = record { same = h.same ∙ q; exact = h.exact; small = let s = h.small in omega (arith, s, l) }

-- where a variable is left, the nested form is by its powers
pub by_powers : (vars : List VarInfo) (t : Typed) (d n v b : ℕ) (f : List Term) → v < n
    → Has vars t (horner (nested d (n - (v + 1)) (v + 1)) v d f) b → Has vars t (nested d (n - v) v f) b
by_powers vars t d n v b f l h =
    let e : n - v ≡ suc (n - (v + 1)) = omega (arith, l) in
    let m : v + 1 ≡ suc v = omega arith in
    let k : Has vars t (horner (nested d (n - (v + 1)) (suc v)) v d f) b = subst (λ z. Has vars t (horner (nested d (n - (v + 1)) z) v d f) b) m h in
    rw e k

-- where an exact tree is the number 1 or -1 the magnitude of its range is 1
unit_magnitude : (vars : List VarInfo) (y : Typed) (z : ℤ) → IsExact vars [] y → untyped y ≡ Num z → unsigned_abs z ≡ 1 → magnitude (pair y) ≡ 1
unit_magnitude vars y z h e u =
    let r : pair y ≡ range_over (ranges vars) [] (untyped y) = exact_range vars [] y h in
    let q : pair y ≡ point z = r ∙ ap (λ t. range_over (ranges vars) [] t) e in
    let m : magnitude (pair y) ≡ magnitude (point z) = ap magnitude_of q in
    omega (arith, m, u)
  where
    magnitude_of : Range → ℕ
    magnitude_of p = magnitude p

-- a tree times another
pub product_has : (vars : List VarInfo) (x y : Typed) (g e : Tree) (a b : ℕ) → Has vars x g a → Has vars y e b
    → Has vars (product_of x y) (scaled g e) (magnitude (pair x) * magnitude (pair y))
product_has vars x y g e a b k h =
    let own : Has vars x (untyped x) (magnitude (pair x)) = record { same = refl; exact = k.exact; small = omega arith } in
    let one = λ (z : ℤ) (q : untyped y ≡ Num z) (u : unsigned_abs z ≡ 1). within (magnitude (pair y)) (unit_magnitude vars y z h.exact q u) in
    rw (← k.same, ← h.same) (product_cases x y (λ t g. Has vars t g (magnitude (pair x) * magnitude (pair y)))
    (λ q. has_as vars x (untyped x) (untyped x) (magnitude (pair x)) (magnitude (pair x) * magnitude (pair y)) refl (one (pos 1) q refl) own)
    (λ q. opposite_has vars x (untyped x) (magnitude (pair x)) (magnitude (pair x) * magnitude (pair y)) own (one (negsuc 0) q refl))
    (times_has vars x y (untyped x) (untyped y) (magnitude (pair x)) (magnitude (pair y)) own (record { same = refl; exact = h.exact; small = omega arith })))
  where
    within : (n : ℕ) → n ≡ 1 → magnitude (pair x) ≤ magnitude (pair x) * n
    within n e = rw e (omega arith)

-- a product of trees within a and b is within their product
pub times_fits : (x y : Typed) (a : ℕ) → magnitude (pair x) ≤ a → a * magnitude (pair y) ≤ most → magnitude (product (pair x) (pair y)) ≤ most
times_fits x y a h l =
    let q = product_magnitude (pair x) (pair y) in
    let m : magnitude (pair y) * magnitude (pair x) ≤ magnitude (pair y) * a = mul-le-mul_left (magnitude (pair y)) h in
    omega (arith, q, m, l)

-- ---- powers of a variable
module _ (vars : List VarInfo) (v : ℕ) where
  -- the variable
  pub variable_has : (k e : ℕ) (t : Typed) → t ≡ input_of vars v → 1 ≤ e → e ≤ k + 1 → (1 ≤ k → e ≤ 1) → Has vars t (power k v e) (scale vars v ^ e)
  variable_has k e t q l h s =
      let r : 1 ≡ e = first k e l h s in
      let i = has_as vars t (Input v) (Input v) (magnitude (ranges vars v)) (scale vars v ^ 1) refl (rw (power_one (scale vars v)) (range_scale vars v))
      (input_has vars v t q) in
      subst (λ n. Has vars t (power k v n) (scale vars v ^ n)) r (rw (is_input k) i)
    where
      first : (k e : ℕ) → 1 ≤ e → e ≤ k + 1 → (1 ≤ k → e ≤ 1) → 1 ≡ e
      first zero e l h s = omega (arith, l, h)
      first (suc k) e l h s = let g = s (omega arith) in omega (arith, l, g)

      is_input : (k : ℕ) → power k v 1 ≡ Input v
      is_input zero = refl
      is_input (suc k) = refl

  -- the square of the half
  pub square_has : (k e : ℕ) (h t : Typed) → 1 ≤ k → 2 ≤ e → is_square e ≡ true → Has vars h (power (k - 1) v (e / 2)) (scale vars v ^ (e / 2))
      → t ≡ square_of h → Has vars t (power k v e) (scale vars v ^ e)
  square_has zero e h t l g q i r = absurd (omega (arith, l))
  square_has (suc k) e h t l g q i r =
      let s : scale vars v ^ e ≡ scale vars v ^ (e / 2) * scale vars v ^ (e / 2) =
      ap (λ n. scale vars v ^ n) (sym (halves e q).1) ∙ power_sum (scale vars v) (e / 2) (e / 2) in
      let m = power_magnitude (pair h) 2 ∙ power_two (magnitude (pair h)) in
      let b : magnitude (pair h) * magnitude (pair h) ≤ scale vars v ^ (e / 2) * scale vars v ^ (e / 2) = mul-le _ _ _ _ i.small i.small in
      let z : suc k - 1 ≡ k = omega arith in
      let y : untyped h ≡ power k v (e / 2) = i.same ∙ ap (λ n. power n v (e / 2)) z in
      rw r (record {
        same = ap (λ x. Pow x 2) y ∙ sym (squares k v e g q);
        exact = (i.exact, refl, refl);
        small = omega (arith, s, m, b);
      })

  -- the product with the variable
  pub again_has : (k e : ℕ) (h i t : Typed) → 1 ≤ k → 2 ≤ e → is_square e ≡ false → Has vars h (power (k - 1) v (e - 1)) (scale vars v ^ (e - 1))
      → i ≡ input_of vars v → t ≡ times_of h i → Has vars t (power k v e) (scale vars v ^ e)
  again_has zero e h i t l g q j r s = absurd (omega (arith, l))
  again_has (suc k) e h i t l g q j r s =
      let n : e - 1 + 1 ≡ e = omega (arith, g) in
      let p : scale vars v ^ e ≡ scale vars v ^ (e - 1) * scale vars v =
      ap (λ n. scale vars v ^ n) (sym n) ∙ power_sum (scale vars v) (e - 1) 1 ∙ ap (λ x. scale vars v ^ (e - 1) * x) (power_one (scale vars v)) in
      let u = input_has vars v i r in
      let w : magnitude (pair i) ≤ scale vars v = omega (arith, u.small, range_scale vars v) in
      let b : magnitude (pair h) * magnitude (pair i) ≤ scale vars v ^ (e - 1) * scale vars v = mul-le _ _ _ _ j.small w in
      let z : suc k - 1 ≡ k = omega arith in
      let y : Mul (power (suc k - 1) v (e - 1)) (Input v) ≡ power (suc k) v e = ap (λ n. Mul (power n v (e - 1)) (Input v)) z ∙ sym (multiplies k v e g q) in
      rw s (has_as vars (times_of h i) _ _ _ _ y (omega (arith, p, b)) (times_has vars h i _ _ _ _ j u))

  -- what they are made of is within the limit
  pub half_fits : (e : ℕ) (h : Typed) (t : Tree) → is_square e ≡ true → Has vars h t (scale vars v ^ (e / 2)) → scale vars v ^ e ≤ most
      → magnitude (ranged.power (pair h) 2) ≤ most
  half_fits e h t q i l =
      let s : scale vars v ^ e ≡ scale vars v ^ (e / 2) * scale vars v ^ (e / 2) =
      ap (λ n. scale vars v ^ n) (sym (halves e q).1) ∙ power_sum (scale vars v) (e / 2) (e / 2) in
      let m = power_magnitude (pair h) 2 ∙ power_two (magnitude (pair h)) in
      let b : magnitude (pair h) * magnitude (pair h) ≤ scale vars v ^ (e / 2) * scale vars v ^ (e / 2) = mul-le _ _ _ _ i.small i.small in
      omega (arith, s, m, b, l)

  -- a smaller power of M is no larger
  pub lower_fits : (a e : ℕ) → a ≤ e → scale vars v ^ e ≤ most → scale vars v ^ a ≤ most
  lower_fits a e h l =
      let n : a + (e - a) ≡ e = omega (arith, h) in
      let p : scale vars v ^ e ≡ scale vars v ^ a * scale vars v ^ (e - a) = ap (λ n. scale vars v ^ n) (sym n) ∙ power_sum (scale vars v) a (e - a) in
      let m : scale vars v ^ a * 1 ≤ scale vars v ^ a * scale vars v ^ (e - a) =
      mul-le-mul_left (scale vars v ^ a) (one-le-pow (e - a) (scale vars v) (scale_some vars v)) in
      omega (arith, p, m, l)

  -- the product with the variable is within the limit
  pub again_fits : (e : ℕ) (h i : Typed) (t : Tree) → 2 ≤ e → Has vars h t (scale vars v ^ (e - 1)) → i ≡ input_of vars v → scale vars v ^ e ≤ most
      → magnitude (product (pair h) (pair i)) ≤ most
  again_fits e h i t g j r l =
      let n : e - 1 + 1 ≡ e = omega (arith, g) in
      let p : scale vars v ^ e ≡ scale vars v ^ (e - 1) * scale vars v =
      ap (λ n. scale vars v ^ n) (sym n) ∙ power_sum (scale vars v) (e - 1) 1 ∙ ap (λ x. scale vars v ^ (e - 1) * x) (power_one (scale vars v)) in
      let u = input_has vars v i r in
      let w : magnitude (pair i) ≤ scale vars v = omega (arith, u.small, range_scale vars v) in
      let b : scale vars v ^ (e - 1) * magnitude (pair i) ≤ scale vars v ^ (e - 1) * scale vars v = mul-le-mul_left (scale vars v ^ (e - 1)) w in
      times_fits h i (scale vars v ^ (e - 1)) j.small (omega (arith, p, b, l))

-- ---- the weight of the parts of a step
module _ (vars : List VarInfo) (v e : ℕ) (f : List Term) (o : (1 ≤ e) × (e ≤ 126) × HavePower e v f) where
  -- the remaining terms at a step have no more weight
  pub free_weight : (n : ℕ) (q : List Work) → terms_in q ≡ free_of v f → weighted_sum (scale vars) f ≤ n → weighted_sum (scale vars) (terms_in q) ≤ n
  free_weight n q r h = let s = parts_weight (scale vars) e v f o.2 in rw r (omega (arith, s, h))

  -- a power of M weighs at least 1
  some : 1 ≤ scale vars v ^ e
  some = one-le-pow e (scale vars v) (scale_some vars v)

  -- nor have the divided terms
  pub divided_weight : (n : ℕ) (p : List Work) → terms_in p ≡ divided e v f → weighted_sum (scale vars) f ≤ n → weighted_sum (scale vars) (terms_in p) ≤ n
  divided_weight n p r h =
      let s = parts_weight (scale vars) e v f o.2 in
      let m : weighted_sum (scale vars) (divided e v f) * 1 ≤ weighted_sum (scale vars) (divided e v f) * scale vars v ^ e =
      mul-le-mul_left (weighted_sum (scale vars) (divided e v f)) some in
      rw r (omega (arith, s, h, m))

  -- v^e times a tree of the divided terms, and a tree of the others, weigh no more than the terms
  product_bound : (p : List Work) (b : ℕ) → terms_in p ≡ divided e v f → b ≤ weighted_sum (scale vars) (terms_in p)
      → scale vars v ^ e * b + weighted_sum (scale vars) (free_of v f) ≤ weighted_sum (scale vars) f
  product_bound p b r h =
      let s = parts_weight (scale vars) e v f o.2 in
      let g : b ≤ weighted_sum (scale vars) (divided e v f) = rw r at h in
      let m : scale vars v ^ e * b ≤ scale vars v ^ e * weighted_sum (scale vars) (divided e v f) = mul-le-mul_left (scale vars v ^ e) g in
      omega (arith, s, m)

  -- neither the divided terms nor those without v have a zero factor
  pub divided_some : (p : List Work) → terms_in p ≡ divided e v f → HasNoZero f → HasNoZero (terms_in p)
  divided_some p r z = rw r (parts_some e v f z).0

  -- nor have those without v
  pub free_some : (q : List Work) → terms_in q ≡ free_of v f → HasNoZero f → HasNoZero (terms_in q)
  free_some q r z = rw r (parts_some e v f z).1

  -- where some terms have v, the power of M is within the weight
  pub power_fits : (p : List Work) → (p ≡ [] → ⊥) → terms_in p ≡ divided e v f → HasNoZero f → weighted_sum (scale vars) f ≤ most → scale vars v ^ e ≤ most
  power_fits p n r z h =
      let k = weighs_some p n (divided_some p r z) in
      let m = product_bound p 1 r k in
      omega (arith, m, h)
    where
      weighs_some : (p : List Work) → (p ≡ [] → ⊥) → HasNoZero (terms_in p) → 1 ≤ weighted_sum (scale vars) (terms_in p)
      weighs_some [] n z = absurd (n refl)
      weighs_some (x ∷ p) n z = some_weight (scale vars) (scale_some vars) (term_in x) (terms_in p) z

  -- so is the product with a tree of the divided terms
  pub scaled_fits : (p : List Work) (h : Typed) (t : Tree) → terms_in p ≡ divided e v f → Has vars h t (weighted_sum (scale vars) (terms_in p))
      → weighted_sum (scale vars) f ≤ most → scale vars v ^ e * magnitude (pair h) ≤ most
  scaled_fits p h t r k l = let m = product_bound p (magnitude (pair h)) r k.small in omega (arith, m, l)

-- ---- each way a step ends
-- some working terms are some terms
not_empty : (p : List Work) → (p ≡ [] → ⊥) → terms_in p ≡ [] → ⊥
not_empty [] y r = y refl
not_empty (x ∷ p) y r = cc

-- a step where no term has v
joined_free : (y : Tree) (ds fs : List Term) (x i : Tree) → ds ≡ [] → i ≡ joined y x i ds fs
joined_free y [] fs x i r = refl
joined_free y (d ∷ ds) fs x i r = cc

-- a step where each term has v
joined_product : (y : Tree) (ds fs : List Term) (x i : Tree) → (ds ≡ [] → ⊥) → fs ≡ [] → scaled y x ≡ joined y x i ds fs
joined_product y [] fs x i n r = absurd (n refl)
joined_product y (d ∷ ds) [] x i n r = refl
joined_product y (d ∷ ds) (z ∷ fs) x i n r = cc

-- a step where some have v and some have not
joined_sum : (y : Tree) (ds fs : List Term) (x i : Tree) → (ds ≡ [] → ⊥) → (fs ≡ [] → ⊥) → Add (scaled y x) i ≡ joined y x i ds fs
joined_sum y [] fs x i n r = absurd (n refl)
joined_sum y (d ∷ ds) [] x i n r = absurd (r refl)
joined_sum y (d ∷ ds) (z ∷ fs) x i n r = refl

-- a step of the nested form by the power e of v: the tree of the divided terms in b steps, and that of the others
abbrev pub step : (List Term → Tree) → ℕ → ℕ → ℕ → List Term → Tree
step inner v b e f = joined (power e v e) (horner inner v b (divided e v f)) (inner (free_of v f)) (divided e v f) (free_of v f)

module _ (vars : List VarInfo) (inner : List Term → Tree) (v b e : ℕ) (f : List Term) (o : (1 ≤ e) × (e ≤ 126) × HavePower e v f)
    (p q : List Work) (d : terms_in p ≡ divided e v f) (g : terms_in q ≡ free_of v f) where
  -- the code ends a step with the tree of the others
  pub ends_free : (t : Typed) → p ≡ [] → Has vars t (inner (terms_in q)) (weighted_sum (scale vars) (terms_in q))
      → Has vars t (step inner v b e f) (weighted_sum (scale vars) f)
  ends_free t z h =
      let n : divided e v f ≡ [] = sym d ∙ ap terms_in z in
      has_as vars t _ _ _ _ (ap inner g ∙ joined_free (power e v e) (divided e v f) (free_of v f) (horner inner v b (divided e v f)) (inner (free_of v f)) n)
      (free_weight vars v e f o (weighted_sum (scale vars) f) q g (omega arith)) h

  -- the magnitude of the product and of the others
  product_small : (x h : Typed) (t u : Tree) → Has vars x u (scale vars v ^ e) → Has vars h t (weighted_sum (scale vars) (terms_in p))
      → magnitude (pair x) * magnitude (pair h) + weighted_sum (scale vars) (free_of v f) ≤ weighted_sum (scale vars) f
  product_small x h t u i k =
      let m = product_bound vars v e f o p (magnitude (pair h)) d k.small in
      let s = i.small in
      let l : magnitude (pair h) * magnitude (pair x) ≤ magnitude (pair h) * scale vars v ^ e = mul-le-mul_left (magnitude (pair h)) s in
      omega (arith, m, l)

  -- the parts of the sum are within the weight of the terms
  parts_small : (h s i : Typed) (t u : Tree) → Has vars h t (weighted_sum (scale vars) (terms_in p)) → IsScaled vars v e h s
      → Has vars i u (weighted_sum (scale vars) (terms_in q)) → magnitude (pair s) + magnitude (pair i) ≤ weighted_sum (scale vars) f
  parts_small h s i t u k z j =
      let m = product_small z.by h t _ z.own k in
      let w : weighted_sum (scale vars) (terms_in q) ≡ weighted_sum (scale vars) (free_of v f) = ap (weighted_sum (scale vars)) g in
      let n = product_has vars z.by h _ t _ _ z.own k in
      let r = z.is in
      let b : magnitude (pair s) ≤ magnitude (pair z.by) * magnitude (pair h) = rw r n.small in
      let c = j.small in
      omega (arith, m, w, b, c)

  -- so the sum is within 2^127 - 1
  pub sum_fits_most : (h s i : Typed) (t u : Tree) → Has vars h t (weighted_sum (scale vars) (terms_in p)) → IsScaled vars v e h s
      → Has vars i u (weighted_sum (scale vars) (terms_in q)) → weighted_sum (scale vars) f ≤ most → magnitude (sum (pair s) (pair i)) ≤ most
  sum_fits_most h s i t u k z j l =
      let m = parts_small h s i t u k z j in
      let n = sum_magnitude (pair s) (pair i) in
      omega (arith, m, n, l)

  -- with the product
  pub ends_product : (h t : Typed) → (p ≡ [] → ⊥) → q ≡ [] → Has vars h (horner inner v b (terms_in p)) (weighted_sum (scale vars) (terms_in p))
      → IsScaled vars v e h t → Has vars t (step inner v b e f) (weighted_sum (scale vars) f)
  ends_product h t y z a j =
      let m = product_small j.by h _ _ j.own a in
      let r = j.is in
      let n : Has vars t (scaled (power e v e) (horner inner v b (terms_in p))) (magnitude (pair j.by) * magnitude (pair h)) =
      rw r (product_has vars j.by h _ _ _ _ j.own a) in
      has_as vars t _ _ _ _ (ap (λ u. scaled (power e v e) (horner inner v b u)) d ∙ joined_product (power e v e) (divided e v f) (free_of v f)
      (horner inner v b (divided e v f)) (inner (free_of v f)) (λ r. not_empty p y (d ∙ r)) (sym g ∙ ap terms_in z)) (omega (arith, m)) n

  -- with the sum
  pub ends_sum : (h i s t : Typed) → (p ≡ [] → ⊥) → (q ≡ [] → ⊥) → Has vars h (horner inner v b (terms_in p)) (weighted_sum (scale vars) (terms_in p))
      → IsScaled vars v e h s → Has vars i (inner (terms_in q)) (weighted_sum (scale vars) (terms_in q)) → t ≡ plus_of s i
      → Has vars t (step inner v b e f) (weighted_sum (scale vars) f)
  ends_sum h i s t y z a j c r =
      let m = parts_small h s i _ _ a j c in
      let u = j.is in
      let n : Has vars s (scaled (power e v e) (horner inner v b (terms_in p))) (magnitude (pair j.by) * magnitude (pair h)) =
      rw u (product_has vars j.by h _ _ _ _ j.own a) in
      let k : Has vars t (Add (scaled (power e v e) (horner inner v b (terms_in p))) (inner (terms_in q))) (magnitude (pair s) + magnitude (pair i)) =
      rw r (plus_has vars s i _ _ _ _ n c) in
      has_as vars t _ _ _ _ (both (ap (horner inner v b) d) (ap inner g) ∙ joined_sum (power e v e) (divided e v f) (free_of v f)
      (horner inner v b (divided e v f)) (inner (free_of v f)) (λ a. not_empty p y (d ∙ a)) (λ a. not_empty q z (g ∙ a))) m k
    where
      both : {a c d g : Tree} → a ≡ c → d ≡ g → Add (scaled (power e v e) a) d ≡ Add (scaled (power e v e) c) g
      both p q = rw (p, q) refl

-- ---- lists that are empty or not
-- the test of an empty vector
pub is_empty : (n : ℕ) (ws : List Work) → true ≡ (n == 0) → n ≡ length ws → ws ≡ []
is_empty n ws e l = nil_from_length ws (sym l ∙ eqb-true n 0 (sym e))

-- the test of a vector that is not empty
pub is_some : (n : ℕ) (ws : List Work) → false ≡ (n == 0) → n ≡ length ws → ws ≡ [] → ⊥
is_some n ws e l r = eqb-false n 0 (sym e) (l ∙ ap length r)

-- ---- where the forms of the code and of the definition meet
-- b + 1 steps are a step, by the power at once
pub at_count : (vars : List VarInfo) (inner : List Term → Tree) (v b e c n : ℕ) (f : List Term) (t : Typed) → c ≡ suc b → e ≡ power_at_once v f
    → Has vars t (step inner v b e f) n → Has vars t (horner inner v c f) n
at_count vars inner v b e c n f t q r h = rw q (subst (λ k. Has vars t (step inner v b k f) n) r h)

-- the code's power is one that the terms have
pub code_power : (v e : ℕ) (f : List Term) → e ≡ power_at_once v f → (1 ≤ e) × (e ≤ 126) × HavePower e v f
code_power v e f r = rw r (at_once_is v f)

-- the sum of the factors is within 2^127 - 1
pub total_fits : (vars : List VarInfo) (f : List Term) (c : ℤ) → c ≡ total f → weighted_sum (scale vars) f ≤ most → unsigned_abs c ≤ most
total_fits vars f c g o =
    let s = sum_weight (scale vars) (scale_some vars) f in
    let k : unsigned_abs c ≡ unsigned_abs (total f) = ap unsigned_abs g in
    omega (arith, s, k, o)

-- where no variable remains the tree is a number
pub constant_has : (vars : List VarInfo) (d n v : ℕ) (f : List Term) (t : Typed) (c : ℤ) → n ≡ v → c ≡ total f
    → t ≡ TNum c (point c) (least (magnitude (point c))) → Has vars t (nested d (n - v) v f) (weighted_sum (scale vars) f)
constant_has vars d n v f t c e g h =
    let z : n - v ≡ 0 = omega arith in
    let s = sum_weight (scale vars) (scale_some vars) f in
    let k : unsigned_abs c ≡ unsigned_abs (total f) = ap unsigned_abs g in
    rw z (has_as vars t (Num c) (Num (total f)) (unsigned_abs c) (weighted_sum (scale vars) f) (ap Num g) (omega (arith, s, k)) (number_has vars c t h))

-- ---- the sum of the factors, one by one
first : (x : Work) (ws : List Work) (n : ℕ) → n ≡ suc zero → total (terms_in (take n (x ∷ ws))) ≡ pos 0 +ℤ x.factor
first x ws n e = rw e (turned x.factor)
  where
    turned : (z : ℤ) → z +ℤ pos 0 ≡ pos 0 +ℤ z
    turned z = omega (arith, ints)

-- one factor more
pub sum_step : (ws : List Work) (i : ℕ) (w : Work) → i < length ws → w ≡ slice_index_or ws i w
    → total (terms_in (take (i + 1) ws)) ≡ total (terms_in (take i ws)) +ℤ w.factor
sum_step [] i w h e = absurd (omega arith)
sum_step (x ∷ ws) zero w h e = let f : w ≡ x = e in rw f (first x ws (0 + 1) (omega arith))
sum_step (x ∷ ws) (suc i) w h e =
    let ih = sum_step ws i w (omega arith) e in
    let g : suc i + 1 ≡ suc (i + 1) = omega arith in
    rw g (omega (arith, ints, ih))

-- a part of the sum and the next factor are within the absolute factors together
pub sum_fits : (ws : List Work) (i : ℕ) (w : Work) → i < length ws → w ≡ slice_index_or ws i w
    → unsigned_abs (total (terms_in (take i ws))) + unsigned_abs w.factor ≤ abs_total (terms_in ws)
sum_fits [] i w h e = absurd (omega arith)
sum_fits (x ∷ ws) zero w h e = let f : w ≡ x = e in rw f (omega arith)
sum_fits (x ∷ ws) (suc i) w h e =
    let ih = sum_fits ws i w (omega arith) e in
    let a : unsigned_abs (x.factor +ℤ total (terms_in (take i ws))) ≤ unsigned_abs x.factor + unsigned_abs (total (terms_in (take i ws))) =
    omega (arith, ints) in
    omega (arith, ih, a)

-- so the next sum fits 128 bits
pub small_sum : (a b s f : ℤ) (m : ℕ) → a ≡ s → b ≡ f → unsigned_abs s + unsigned_abs f ≤ m → m ≤ most → FitsSigned w128 (a +ℤ b)
small_sum a b s f m p q h l = fits_signed_from_abs w128 (a +ℤ b) (rw (p, q) (plain s f m h l))
  where
    plain : (s f : ℤ) (m : ℕ) → unsigned_abs s + unsigned_abs f ≤ m → m ≤ most → unsigned_abs (s +ℤ f) < 2 ^ 127
    plain s f m h l = omega (arith, ints)

-- and is the sum of one term more
pub sum_next : (a b s f r : ℤ) → a ≡ s → b ≡ f → r ≡ s +ℤ f → a +ℤ b ≡ r
sum_next a b s f r p q e = rw (p, q) (sym e)
