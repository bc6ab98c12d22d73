-- Rows of points: one is written after the others, and the row of three is in range.
use Rattle.std.proofs.Common.{◌≡◌, ◌≢◌, inl, inr, ℕ, suc, ◌+◌, ◌*◌, ◌/◌, ◌<◌, ◌≤◌, List, [], ◌∷◌, ◌++◌, length}
use Rattle.std.proofs.Common.{map, take}
use Rattle.std.proofs.Common.{set, get_or, ℤ, pos, refl, ap, sym, ◌∙◌, subst, arith, append_assoc, length-append}
use Rattle.std.proofs.Common.{AllPairs}
use Rattle.std.specs.Prelude.{flat_map, ◌≤ℤ◌, ◌^◌, ◌-◌}
use Rattle.std.proofs.Math.Nat.{mul-div_cancel_left, mul-le-mul_right}
use Rattle.std.proofs.Math.Arith.{lt_of_le-ne}
use Rattle.std.proofs.Math.Seq.{take-append_seam}
use Rattle.std.proofs.lemmas.List.{append-nil, get_or-map, map-append, length-map, length-take-le, take_more_set}
use Rattle.std.proofs.lemmas.List.Concat.{flat_map-append}
use Rattle.std.proofs.lemmas.List.Elements.{All-nil, All-cons, All-get_or}
use Rattle.std.proofs.lemmas.Bool.{cases_lt}
use Rattle.std.proofs.lemmas.List.Kept.{AllPairs-cons}
use Rattle.ln_tree.specs.declared.shape.VarInfo.{VarInfo}
use Rattle.ln_tree.specs.Row.{AreWithin, InRange}
use Rattle.ln_tree.specs.Table.{CoordOf}
use Rattle.ln_tree.specs.Whole.{site_vars}
use Rattle.ln_code.specs.declared.row.Row as code
use Rattle.ln_code.specs.RowOf.{row_of}
use Rattle.ln_base.specs.declared.sign.Sign.TheVariants.{Plus}
use Rattle.ln_tree.specs.Row as tree
use Rattle.ln_parse.proofs.Building.LaidOut.{site_length}
use Rattle.ln_code.specs.declared.verdict.Verdict.{Verdict}
use Rattle.ln_code.specs.Part.{Part}
use Rattle.ln_code.specs.Verdict.{IsVerdict}
use Rattle.ln_code.proofs.Verdicts.Machine.{verdict-unique}
use Rattle.ln_edges.specs.declared.point.Point.{Point}
use Rattle.ln_edges.specs.Points.{Holds, IsPoint, PointOf, no_point, point_of, row_with}
use Rattle.ln_edges.specs.Edges.{AreFor, ArePoints, IsPlusOn, point_at, points_in, three_of, width}

-- ---- a point is written into a row
index_more : (before : List PointOf) (c : PointOf) (xs : List ℤ) (place : ℕ) → length before ≡ place → place < length xs
    → take (length before) xs ≡ map (λ p. p.index) before
    → take (length (before ++ c ∷ [])) (set xs place c.index) ≡ map (λ p. p.index) (before ++ c ∷ [])
index_more before c xs place e h k =
    let n : length (before ++ c ∷ []) ≡ place + 1 = length-append before (c ∷ []) ∙ ap (λ (m : ℕ). m + 1) e in
    rw n (take_more_set xs place c.index h ∙ ap (λ (ys : List ℤ). ys ++ c.index ∷ []) (rw e at k)
    ∙ sym (map-append (λ p. p.index) before (c ∷ [])))

-- each row holds no points in its first places
pub holds_none : (n : ℕ) (r : code.Row) → Holds n [] r
holds_none n r = record { index = refl; values = let z : 0 * n ≡ 0 = omega arith in ap (λ (k : ℕ). take k r.values) z }

-- what is written after the first places
pub put_behind : (xs ys zs : List ℤ) (from n : ℕ) → length xs ≡ from → length ys ≡ n
    → take (from + n) (xs ++ (ys ++ zs)) ≡ xs ++ ys
put_behind xs ys zs from n e h =
    let size : length (xs ++ ys) ≡ from + n = length-append xs ys ∙ rw (e, h) refl in
    ap (take (from + n)) (sym (append_assoc xs ys zs)) ∙ rw (← size) (take-append_seam (xs ++ ys) zs)

values_more : (before : List PointOf) (c : PointOf) (xs zs : List ℤ) (place n : ℕ) → length before ≡ place
    → length c.coords ≡ n
    → place * n ≤ length xs → take (length before * n) xs ≡ flat_map (λ p. p.coords) before
    → take (length (before ++ c ∷ []) * n) (take (place * n) xs ++ (c.coords ++ zs))
    ≡ flat_map (λ p. p.coords) (before ++ c ∷ [])
values_more before c xs zs place n e h l k =
    let size : length (before ++ c ∷ []) * n ≡ place * n + n =
    ap (λ (m : ℕ). m * n) (length-append before (c ∷ []) ∙ ap (λ (m : ℕ). m + 1) e) ∙ omega arith in
    let one : flat_map (λ (p : PointOf). p.coords) (c ∷ []) ≡ c.coords = append-nil c.coords in
    rw size (put_behind (take (place * n) xs) c.coords zs (place * n) n (length-take-le (place * n) xs l) h
    ∙ ap (λ (ys : List ℤ). ys ++ c.coords) (rw e at k)
    ∙ sym (flat_map-append (λ p. p.coords) before (c ∷ [])
    ∙ ap (λ (ys : List ℤ). flat_map (λ (p : PointOf). p.coords) before ++ ys) one))

-- the row holds one point more
pub holds_more : (n place : ℕ) (before : List PointOf) (p : Point) (old new : code.Row) (zs : List ℤ)
    → length before ≡ place → Holds n before old → place < length old.index → place * n ≤ length old.values
    → length (take n p.values) ≡ n → new.index ≡ set old.index place p.index
    → new.values ≡ take (place * n) old.values ++ (take n p.values ++ zs) → Holds n (before ++ point_of n p ∷ []) new
holds_more n place before p old new zs e h i l w a b = record {
  index = rw a (index_more before (point_of n p) old.index place e i h.index);
  values = rw b (values_more before (point_of n p) old.values zs place n e w l h.values);
}

-- ---- three sites of one type
three_size : (cs : List CoordOf) → length (three_of cs) ≡ 3 * length cs
three_size cs =
    length-append (site_vars 0 0 0 cs) (site_vars 1 1 0 cs ++ (site_vars 2 2 0 cs ++ []))
    ∙ rw (
      length-append (site_vars 1 1 0 cs) (site_vars 2 2 0 cs ++ []),
      append-nil (site_vars 2 2 0 cs),
      site_length 0 0 0 cs,
      site_length 1 1 0 cs,
      site_length 2 2 0 cs,
    ) (omega arith)

-- each of three sites of one type has as many variables as the type has coordinates
pub three_width : (cs : List CoordOf) → width (three_of cs) ≡ length cs
three_width cs = ap (λ (n : ℕ). n / 3) (three_size cs) ∙ mul-div_cancel_left (length cs) (omega arith)

-- values in range for a first site of a type are in range for another one of it
within_site : (k s c : ℕ) (cs : List CoordOf) (zs : List ℤ) → AreWithin (site_vars 0 0 c cs) zs → AreWithin (site_vars k s c cs) zs
within_site k s c [] [] h = tt
within_site k s c (x ∷ xs) (z ∷ zs) h = (h.0, h.1, within_site k s (suc c) xs zs h.2)
within_site k s c cs zs h = absurd h

within_both : (is js : List VarInfo) (ys zs : List ℤ) → AreWithin is ys → AreWithin js zs
    → AreWithin (is ++ js) (ys ++ zs)
within_both [] js [] zs h g = g
within_both (i ∷ is) js (y ∷ ys) zs h g = (h.0, h.1, within_both is js ys zs h.2 g)
within_both is js ys zs h g = absurd h

three_within : (cs : List CoordOf) (a b c : PointOf) → IsPoint cs a → IsPoint cs b → IsPoint cs c
    → AreWithin (three_of cs) (row_with (a ∷ b ∷ c ∷ [])).values
three_within cs a b c x y z =
    within_both (site_vars 0 0 0 cs) (site_vars 1 1 0 cs ++ (site_vars 2 2 0 cs ++ [])) a.coords
    (b.coords ++ (c.coords ++ []))
    x.within
    (within_both (site_vars 1 1 0 cs) (site_vars 2 2 0 cs ++ []) b.coords (c.coords ++ [])
    (within_site 1 1 0 cs b.coords y.within)
    (within_both (site_vars 2 2 0 cs) [] c.coords [] (within_site 2 2 0 cs c.coords z.within) tt))

-- the indices at two places differ
differ_at : (ps : List PointOf) (i j : ℕ) → AllPairs (λ p q. p.index ≢ q.index) ps → i < length ps → j < length ps
    → i ≢ j → (point_at ps i).index ≢ (point_at ps j).index
differ_at ps i j d h k n = elim (cases_lt i j) [
  | inl l ↦ d i j no_point l k
  | inr l ↦ λ e. d j i no_point (lt_of_le-ne l (λ q. n (sym q))) h (sym e)
]

three_indices : (a b c : PointOf) → a.index ≢ b.index → a.index ≢ c.index → b.index ≢ c.index
    → AllPairs (λ y z. y ≢ z) (a.index ∷ b.index ∷ c.index ∷ [])
three_indices a b c x y z =
    AllPairs-cons (λ y z. y ≢ z) a.index (b.index ∷ c.index ∷ []) (All-cons (λ q. a.index ≢ q) b.index (c.index ∷ []) x
    (All-cons (λ q. a.index ≢ q) c.index [] y (All-nil (λ q. a.index ≢ q))))
    (AllPairs-cons (λ y z. y ≢ z) b.index (c.index ∷ [])
    (All-cons (λ q. b.index ≢ q) c.index [] z (All-nil (λ q. b.index ≢ q)))
    (AllPairs-cons (λ y z. y ≢ z) c.index [] (All-nil (λ q. c.index ≢ q)) (λ i j d h k. absurd (omega (arith, k)))))

-- the row of three different points is in range
pub three_in_range : (cs : List CoordOf) (ps : List PointOf) (i j k : ℕ) → ArePoints cs ps → i < length ps
    → j < length ps → k < length ps → i ≢ j → k ≢ i → k ≢ j
    → InRange 3 (three_of cs) (row_with (point_at ps i ∷ point_at ps j ∷ point_at ps k ∷ []))
three_in_range cs ps i j k a h g f n m l =
    let x = All-get_or (IsPoint cs) ps i no_point h a.each in
    let y = All-get_or (IsPoint cs) ps j no_point g a.each in
    let z = All-get_or (IsPoint cs) ps k no_point f a.each in
    let in_it : ℤ → Type 0 = λ q. (pos 0 ≤ℤ q) × (q ≤ℤ pos (2 ^ 63 - 1)) in
    record {
      size = refl;
      indices = All-cons in_it (point_at ps i).index ((point_at ps j).index ∷ (point_at ps k).index ∷ [])
          (x.low, x.high) (All-cons in_it (point_at ps j).index ((point_at ps k).index ∷ []) (y.low, y.high)
          (All-cons in_it (point_at ps k).index [] (z.low, z.high) (All-nil in_it)));
      differ = three_indices (point_at ps i) (point_at ps j) (point_at ps k) (differ_at ps i j a.differ h g n)
          (differ_at ps i k a.differ h f (λ q. m (sym q))) (differ_at ps j k a.differ g f (λ q. l (sym q)));
      values = three_within cs (point_at ps i) (point_at ps j) (point_at ps k) x y z;
    }

-- the row of three different points is in range for a part over three sites of their type
pub for_in_range : (sites : ℕ) (vars : List VarInfo) (ps : List PointOf) (i j k : ℕ) → AreFor sites vars ps
    → i < length ps → j < length ps → k < length ps → i ≢ j → k ≢ i → k ≢ j
    → InRange sites vars (row_with (point_at ps i ∷ point_at ps j ∷ point_at ps k ∷ []))
for_in_range sites vars ps i j k a h g f n m l =
    rw (a.three, a.are) (three_in_range a.type ps i j k a.points h g f n m l)

-- a part over three sites of one type has at most 32 coordinates for each
pub few : (sites : ℕ) (vars : List VarInfo) (ps : List PointOf) → AreFor sites vars ps → width vars ≤ 32
few sites vars ps a = rw (ap width a.are ∙ three_width a.type) a.narrow

-- there are as many points as are kept in memory
pub points_size : (vars : List VarInfo) (ps : List Point) → length (points_in vars ps) ≡ length ps
points_size vars ps = length-map ps (point_of (width vars))

-- the row that is held is the row of the three points
pub row_held : (sites : ℕ) (vars : List VarInfo) (a b c : PointOf) (r : code.Row) (type : List CoordOf) → sites ≡ 3
    → vars ≡ three_of type → Holds (width vars) (a ∷ b ∷ c ∷ []) r → row_of sites vars r ≡ row_with (a ∷ b ∷ c ∷ [])
row_held sites vars a b c r type e f h =
    let size : length vars ≡ 3 * width vars = ap length f ∙ three_size type
    ∙ ap (λ (n : ℕ). 3 * n) (sym (ap width f ∙ three_width type)) in
    rw (e, size, h.index, h.values) refl

-- the machine's verdict is the one that was found
pub plus_of : (part : Part) (row : tree.Row) (v w : Verdict) → IsVerdict part row v → IsVerdict part row w
    → w.sign ≡ Plus → v.sign ≡ Plus
plus_of part row v w a b e = ap (λ (x : Verdict). x.sign) (verdict-unique part row v w a b) ∙ e

-- the point that is kept at a place is the point at that place
pub point_there : (vars : List VarInfo) (ps : List Point) (k : ℕ) (d : Point) → k < length ps
    → point_of (width vars) (get_or ps k d) ≡ point_at (points_in vars ps) k
point_there vars ps k d h = sym (get_or-map (point_of (width vars)) ps k d no_point h)

-- one place more of those that are passed
pub passed_more : (part : Part) (ps : List PointOf) (i j k : ℕ)
    → ((m : ℕ) → m < k → m ≢ i → m ≢ j → IsPlusOn part ps i j m)
    → (k ≢ i → k ≢ j → IsPlusOn part ps i j k) → (m : ℕ) → m < k + 1 → m ≢ i → m ≢ j → IsPlusOn part ps i j m
passed_more part ps i j k f g m h x y = elim (cases_lt m k) [
  | inl l ↦ f m l x y
  | inr l ↦ let e : k ≡ m = omega (arith, h, l) in
      subst (λ (n : ℕ). n ≢ i → n ≢ j → IsPlusOn part ps i j n) e g x y
]

-- where each of five sites has at most 32 coordinates, those of the first sites end within the 168 places of a row
pub place_fits : (place n : ℕ) → place < 5 → n ≤ 32 → place * n ≤ 168
place_fits place n h k =
    let a : place * n ≤ 5 * n = mul-le-mul_right n (omega (arith, h)) in
    omega (arith, a, k)

-- a third point is written after two: the row is that of the three
pub third_row : (sites : ℕ) (vars : List VarInfo) (points : List Point) (i j k : ℕ) (d : Point) (w : ℕ) (r s : code.Row)
    → AreFor sites vars (points_in vars points) → w ≡ width vars → k < length points
    → Holds (width vars) (point_at (points_in vars points) i ∷ point_at (points_in vars points) j ∷ []) r
    → ((before : List PointOf) → length before ≡ 2 → Holds w before r
    → Holds w (before ++ point_of w (get_or points k d) ∷ []) s)
    → row_of sites vars s ≡ row_with (point_at (points_in vars points) i ∷ point_at (points_in vars points) j ∷ point_at
    (points_in vars points) k ∷ [])
third_row sites vars points i j k d w r s a e h held more =
    let a1 = point_at (points_in vars points) i in
    let b1 = point_at (points_in vars points) j in
    let here : Holds (width vars) (a1 ∷ b1 ∷ point_of (width vars) (get_or points k d) ∷ []) s =
    subst (λ (n : ℕ). (before : List PointOf) → length before ≡ 2 → Holds n before r
    → Holds n (before ++ point_of n (get_or points k d) ∷ []) s)
    e more (a1 ∷ b1 ∷ []) refl held in
    row_held sites vars a1 b1 (point_at (points_in vars points) k) s a.type a.three a.are
    (subst (λ (p : PointOf). Holds (width vars) (a1 ∷ b1 ∷ p ∷ []) s) (point_there vars points k d h) here)
