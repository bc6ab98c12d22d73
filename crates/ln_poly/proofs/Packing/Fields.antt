-- The steps of the loops over fields.
use Rattle.std.proofs.Common.{◌≡◌, ◌⊎◌, inl, inr, ℕ, ◌+◌, ◌-◌, ◌*◌, ◌/◌, ◌<◌, ◌≤◌, ◌^◌, zero, suc, List, [], ◌∷◌, ◌++◌, append_assoc, length, get_or}
use Rattle.std.proofs.Common.{set, refl, sym, ◌∙◌, ap, arith, subst, take, drop, All, max, add-one, append-nil, replicate}
use Rattle.std.proofs.Math.IntN.{ℤ}
use Rattle.std.proofs.Math.Nat.{max-le, max-zero, max_comm, mul-le-mul_right, pow-le-pow_right, zero-div, zero-max}
use Rattle.std.proofs.lemmas.Grind.{get_or-set_at}
use Rattle.std.proofs.lemmas.Nat.{pow-add, pow_pos}
use Rattle.std.proofs.lemmas.Bool.{cases_eq, cases_lt}
use Rattle.std.proofs.lemmas.List.{drop_all, drop_more, get_or_default, get_or-map, get_or-replicate, length-map, length-replicate}
use Rattle.std.proofs.lemmas.List.{length-set, get_or-set_other, length-take-le, map-append, take_all, take_more, take_more_set}
use Rattle.std.proofs.lemmas.List.Elements.{All-get_or, All-head, All-nil, All-push, All-replicate, All-set, All-tail}
use Rattle.ln_tree.specs.Exps.{AllAbove, IsAbove, IsRising, Pairs, exponent}
use Rattle.ln_tree.proofs.Powers.{all_above-none, power, power-apart, power-here}
use Rattle.ln_poly.specs.Lean.{largest}
use Rattle.ln_poly.specs.Packed.{AreFields, AreSmall, keyed, number, packed, pairs_from, taken, weights}
use Rattle.ln_poly.specs.Sparse.{AreBelow, AreRising, Sparse}
use Rattle.ln_poly.proofs.TermLists.Products.{drop-read}
use Rattle.ln_poly.specs.Words.{IsPlace, fields_below, half}
use Rattle.ln_poly.proofs.Packing.Numbers.{number-adds}
use Rattle.ln_poly.proofs.Packing.Words.{half-le}

-- ---- the number of a monomial, pair by pair
number-zero : (ws : List ℕ) (v : ℕ) (m : ℕ → ℕ) → ((u : ℕ) → v ≤ u → m u ≡ 0) → number ws v m ≡ 0
number-zero [] v m h = refl
number-zero (w ∷ ws) v m h = omega (arith, ap (λ z. z * w) (h v (omega arith)), number-zero ws (suc v) m (λ u l. h u (omega arith)))

-- one variable alone
number-alone : (ws : List ℕ) (v i : ℕ) (p : ℕ × ℕ) → p.0 ≡ v + i → i < length ws → number ws v (λ u. power u p) ≡ p.1 * get_or ws i 0
number-alone [] v i p e l = absurd (omega arith)
number-alone (w ∷ ws) v zero p e l = omega (
  arith,
  ap (λ z. z * w) (power-here v p (omega (arith, e))),
  number-zero ws (suc v) (λ u. power u p) (λ u g. power-apart u p (λ q. absurd (omega (arith, q, e, g)))),
)
number-alone (w ∷ ws) v (suc i) p e l = omega (
  arith,
  ap (λ z. z * w) (power-apart v p (λ q. absurd (omega (arith, q, e)))),
  number-alone ws (suc v) i p (omega (arith, e)) (omega (arith, l)),
)

-- one pair more
packed-cons : (ws : List ℕ) (p : ℕ × ℕ) (ps : Pairs) → p.0 < length ws → packed ws (p ∷ ps) ≡ p.1 * get_or ws p.0 0 + packed ws ps
packed-cons ws p ps l =
    number-adds ws 0 (λ u. power u p) (λ u. exponent u ps) (λ u. exponent u (p ∷ ps)) (λ u. refl)
    ∙ ap (λ z. z + packed ws ps) (number-alone ws 0 p.0 p (omega arith) l)

weights-get : (ss : List ℕ) (i : ℕ) → i < length ss → get_or (weights ss) i 0 ≡ 2 ^ get_or ss i 0
weights-get ss i l = get_or-map (λ s. 2 ^ s) ss i 0 0 l

-- there are as many weights as fields
pub weights-length : (ss : List ℕ) → length (weights ss) ≡ length ss
weights-length ss = length-map ss (λ s. 2 ^ s)

-- what is packed before place i and what remains is the whole; one more pair is packed
pub packed-step : (ss : List ℕ) (ps : Pairs) (i n s : ℕ) (p : ℕ × ℕ) → n + packed (weights ss) (drop i ps) ≡ packed (weights ss) ps → i < length ps
    → p ≡ get_or ps i p → p.0 < length ss → s ≡ get_or ss p.0 0
    → (n + p.1 * 2 ^ s) + packed (weights ss) (drop (i + 1) ps) ≡ packed (weights ss) ps
packed-step ss ps i n s p h l e k q =
    let c : packed (weights ss) (p ∷ drop (i + 1) ps) ≡ p.1 * get_or (weights ss) p.0 0 + packed (weights ss) (drop (i + 1) ps) =
    packed-cons (weights ss) p (drop (i + 1) ps) (omega (arith, k, weights-length ss)) in
    let w : p.1 * get_or (weights ss) p.0 0 ≡ p.1 * 2 ^ s = ap (λ z. p.1 * z) (weights-get ss p.0 k ∙ ap (λ z. 2 ^ z) (sym q)) in
    omega (arith, h, c, w, ap (packed (weights ss)) (drop-read ps i p l e))

-- ---- the largest exponents
-- what is raised so far, and the remaining pairs
pub record IsRaised (tops old : List ℕ) (ps : Pairs) (i : ℕ) : Type 0 where
  pub largest : (v : ℕ) → v < 256 → max (exponent v (drop i ps)) (get_or tops v 0) ≡ max (exponent v ps) (get_or old v 0)
  pub rising : IsRising (drop i ps)
  pub above : IsAbove (drop i ps) 256 → IsAbove ps 256
  pub long : length tops ≡ length old
  pub small : All (λ t. t < 128) tops

-- of three numbers the largest, whichever two come first
max-turned : (a b c : ℕ) → max a (max b c) ≡ max (max b a) c
max-turned a b c = omega arith

all-above : (v : ℕ) (p : ℕ × ℕ) (r : Pairs) → p.0 ≡ v → AllAbove p.0 r → exponent v r ≡ 0
all-above v p r e a = all_above-none v r (subst (λ z. AllAbove z r) e a)

-- one pair more is raised
pub raised-step : (tops old : List ℕ) (ps : Pairs) (i x : ℕ) (p : ℕ × ℕ) → IsRaised tops old ps i → i < length ps → get_or ps i (0, 0) ≡ p → p.0 < 256
    → length tops ≡ 256 → x ≡ max (get_or tops p.0 0) p.1 → IsRaised (set tops p.0 x) old ps (i + 1)
raised-step tops old ps i x p r l e k z q = record {
  largest = λ v h. by_case v h (cases_eq p.0 v);
  rising = rest.3;
  above = λ h. r.above (subst (λ y. IsAbove y 256) (sym d) (k, h));
  long = length-set tops p.0 x ∙ r.long;
  small = All-set (λ t. t < 128) tops p.0 x (omega (arith, q, largest-small)) r.small;
} where
  d : drop i ps ≡ p ∷ drop (i + 1) ps
  d = drop_more ps i (0, 0) l ∙ ap (λ y. y ∷ drop (i + 1) ps) e

  rest : IsRising (p ∷ drop (i + 1) ps)
  rest = subst IsRising d r.rising

  old-small : get_or tops p.0 0 < 128
  old-small = All-get_or (λ t. t < 128) tops p.0 0 (omega (arith, k, z)) r.small

  largest-small : max (get_or tops p.0 0) p.1 ≤ 127
  largest-small = max-le (omega (arith, old-small)) (omega (arith, rest.1))

  before : (v : ℕ) → v < 256 → max (exponent v (p ∷ drop (i + 1) ps)) (get_or tops v 0) ≡ max (exponent v ps) (get_or old v 0)
  before v h = subst (λ y. max (exponent v y) (get_or tops v 0) ≡ max (exponent v ps) (get_or old v 0)) d (r.largest v h)

  by_case : (v : ℕ) → v < 256 → (p.0 ≡ v) ⊎ (p.0 ≡ v → ⊥)
      → max (exponent v (drop (i + 1) ps)) (get_or (set tops p.0 x) v 0) ≡ max (exponent v ps) (get_or old v 0)
  by_case v h (inl n) =
      let none : exponent v (drop (i + 1) ps) ≡ 0 = all-above v p (drop (i + 1) ps) n rest.2 in
      let here : exponent v (p ∷ drop (i + 1) ps) ≡ p.1 = omega (arith, power-here v p n, none) in
      let now : get_or (set tops p.0 x) v 0 ≡ x = ap (λ y. get_or (set tops p.0 x) y 0) (sym n) ∙ get_or-set_at tops p.0 p.0 x 0 refl (omega (arith, k, z)) in
      let top : x ≡ max p.1 (get_or tops v 0) = q ∙ max_comm (get_or tops p.0 0) p.1 ∙ ap (λ y. max p.1 (get_or tops y 0)) n in
      rw (none, now) (zero-max x ∙ top ∙ ap (λ y. max y (get_or tops v 0)) (sym here) ∙ before v h)
  by_case v h (inr n) =
      let gone : exponent v (drop (i + 1) ps) ≡ exponent v (p ∷ drop (i + 1) ps) = omega (arith, power-apart v p n) in
      let now : get_or (set tops p.0 x) v 0 ≡ get_or tops v 0 = get_or-set_other tops p.0 v x 0 (λ z. n (sym z)) in
      rw (gone, now) (before v h)

-- the same, at the places that the code reads
pub raised-next : (tops old : List ℕ) (ps : Pairs) (i x v : ℕ) → IsRaised tops old ps i → i < length ps → v ≡ (get_or ps i (0, 0)).0 → v < 256
    → length old ≡ 256 → x ≡ max (get_or tops v 0) (get_or ps i (0, 0)).1 → IsRaised (set tops v x) old ps (i + 1)
raised-next tops old ps i x v r l e k z q =
    subst (λ y. IsRaised (set tops y x) old ps (i + 1)) (sym e) (raised-step tops old ps i x (get_or ps i (0, 0)) r l refl (omega (arith, k, e))
    (r.long ∙ z) (q ∙ ap (λ y. max (get_or tops y 0) (get_or ps i (0, 0)).1) e))

-- the largest exponents of the terms so far, and the remaining terms
pub record IsLargest (tops : List ℕ) (f : Sparse) (i : ℕ) : Type 0 where
  pub largest : (v : ℕ) → v < 256 → max (largest (drop i f) v) (get_or tops v 0) ≡ largest f v
  pub below : AreBelow 256 (take i f)
  pub rising : AreRising (take i f)
  pub small : All (λ t. t < 128) tops

-- no term yet
pub largest-begin : (tops : List ℕ) (f : Sparse) → tops ≡ replicate 256 0 → IsLargest tops f 0
largest-begin tops f e = record {
  largest = λ v h. rw (e, get_or-replicate {A = ℕ} 256 v 0 0 h) (max-zero (largest f v));
  below = All-nil (λ t. IsAbove t.0 256);
  rising = All-nil (λ t. IsRising t.0);
  small = subst (All (λ t. t < 128)) (sym e) (All-replicate (λ t. t < 128) 256 0 (omega arith));
}

-- one term more
pub largest-step : (tops tops' : List ℕ) (f : Sparse) (i : ℕ) (t : Pairs × ℤ) → IsLargest tops f i → i < length f → t ≡ get_or f i t
    → ((v : ℕ) → v < 256 → get_or tops' v 0 ≡ max (exponent v t.0) (get_or tops v 0)) → All (λ x. x < 128) tops' → IsAbove t.0 256 → IsRising t.0
    → IsLargest tops' f (i + 1)
largest-step tops tops' f i t r l e h s a w = record {
  largest = λ v k.
      ap (max (largest (drop (i + 1) f) v)) (h v k) ∙ max-turned (largest (drop (i + 1) f) v) (exponent v t.0) (get_or tops v 0)
      ∙ subst (λ y. max (largest y v) (get_or tops v 0) ≡ largest f v) d (r.largest v k);
  below = subst (AreBelow 256) (sym more) (All-push (λ z. IsAbove z.0 256) (take i f) t r.below a);
  rising = subst AreRising (sym more) (All-push (λ z. IsRising z.0) (take i f) t r.rising w);
  small = s;
} where
  d : drop i f ≡ t ∷ drop (i + 1) f
  d = drop-read f i t l e

  more : take (i + 1) f ≡ take i f ++ (t ∷ [])
  more = take_more f i t l ∙ ap (λ z. take i f ++ (z ∷ [])) (sym e)

-- all terms
pub largest-end : (tops : List ℕ) (f : Sparse) (i : ℕ) → length f ≤ i → IsLargest tops f i → (v : ℕ) → v < 256 → get_or tops v 0 ≡ largest f v
largest-end tops f i l r v h =
    let none : drop i f ≡ [] = drop_all i f l in
    sym (zero-max (get_or tops v 0)) ∙ subst (λ y. max (largest y v) (get_or tops v 0) ≡ largest f v) none (r.largest v h)

-- the variables of all terms are below 256
pub largest-below : (tops : List ℕ) (f : Sparse) (i : ℕ) → length f ≤ i → IsLargest tops f i → AreBelow 256 f
largest-below tops f i l r = subst (AreBelow 256) (take_all i f l) r.below

-- their pairs rise
pub largest-rising : (tops : List ℕ) (f : Sparse) (i : ℕ) → length f ≤ i → IsLargest tops f i → AreRising f
largest-rising tops f i l r = subst AreRising (take_all i f l) r.rising

-- ---- the fields
-- where the last field begins
abbrev pub end_of : ℕ → List ℕ → ℕ
end_of left [] = left
end_of left (w ∷ ws) = end_of w ws

end-push : (left w : ℕ) (ws : List ℕ) → end_of left (ws ++ (w ∷ [])) ≡ w
end-push left w [] = refl
end-push left w (x ∷ ws) = end-push x w ws

fields-push : (top : ℕ → ℕ) (left v u w : ℕ) (ws : List ℕ) → AreFields top left v ws → 0 < w → u ≡ v + length ws → top u * w + w ≤ end_of left ws
    → AreFields top left v (ws ++ (w ∷ []))
fields-push top left v u w [] f p e h = (p, subst (λ z. top z * w + w ≤ left) (omega (arith, e)) h, tt)
fields-push top left v u w (x ∷ ws) f p e h = (f.0, f.1, fields-push top x (suc v) u w ws f.2 p (omega (arith, e)) h)

-- equal largest exponents have the same fields
pub fields-same : (top top' : ℕ → ℕ) (left v : ℕ) (ws : List ℕ) → ((u : ℕ) → v ≤ u → u < v + length ws → top u ≡ top' u) → AreFields top left v ws
    → AreFields top' left v ws
fields-same top top' left v [] h f = tt
fields-same top top' left v (w ∷ ws) h f = (
  f.0,
  subst (λ z. z * w + w ≤ left) (h v (omega arith) (omega arith)) f.1,
  fields-same top top' w (suc v) ws (λ u k l. h u (omega (arith, k)) (omega (arith, l))) f.2,
)

-- the fields of the first v variables are laid in n words, down to the bit `left`
pub record AreLaid (top : ℕ → ℕ) (n : ℕ) (shifts : List ℕ) (left v : ℕ) : Type 0 where
  pub fields : AreFields top (half n) 0 (weights (take v shifts))
  pub end : end_of (half n) (weights (take v shifts)) ≡ 2 ^ left
  pub small : left < 127 * n
  pub places : All (IsPlace n) shifts
  pub long : length shifts ≡ 256
  pub many : ((u : ℕ) → u < 256 → top u < 128) → 15 ≤ n → 256 ≤ v + fields_below left

half-is : (n : ℕ) → 0 < n → half n ≡ 2 ^ (127 * n - 1)
half-is zero s = absurd (omega (arith, s))
half-is (suc n) s = ap (λ z. 2 ^ z) {x = 127 * n + 126} {y = 127 * suc n - 1} (omega arith)

-- no field yet
pub laid-begin : (top : ℕ → ℕ) (n left : ℕ) (shifts : List ℕ) → 0 < n → left ≡ 127 * n - 1 → shifts ≡ replicate 256 0 → AreLaid top n shifts left 0
laid-begin top n left shifts s l e = record {
  fields = tt;
  end = half-is n s ∙ ap (λ z. 2 ^ z) (sym l);
  small = omega (arith, l, s);
  places = subst (All (IsPlace n)) (sym e) (All-replicate (IsPlace n) 256 0 first);
  long = rw e (length-replicate {A = ℕ} 256 0);
  many = λ t h. omega (arith, l, h);
} where
  first : IsPlace n 0
  first = record { within = s; room = λ _. omega arith }

-- one field more
pub laid-step : (top : ℕ → ℕ) (n : ℕ) (shifts : List ℕ) (left left' width v : ℕ) → AreLaid top n shifts left v → v < 256 → top v < 2 ^ width
    → left' + width ≤ left → IsPlace n left' → (top v < 128 → width ≤ 7) → (width ≤ 7 → fields_below left ≤ fields_below left' + 1)
    → AreLaid top n (set shifts v left') left' (v + 1)
laid-step top n shifts left left' width v r h t e i k m = record {
  fields = subst (λ z. AreFields top (half n) 0 z) (sym more)
      (fields-push top (half n) 0 v (2 ^ left') (weights (take v shifts)) r.fields (pow_pos left') long fits);
  end = ap (end_of (half n)) more ∙ end-push (half n) (2 ^ left') (weights (take v shifts));
  small = omega (arith, e, r.small);
  places = All-set (IsPlace n) shifts v left' i r.places;
  long = length-set shifts v left' ∙ r.long;
  many = λ f l. omega (arith, m (k (f v h)), r.many f l);
} where
  more : weights (take (v + 1) (set shifts v left')) ≡ weights (take v shifts) ++ (2 ^ left' ∷ [])
  more = ap weights (take_more_set shifts v left' (omega (arith, h, r.long))) ∙ map-append (λ s. 2 ^ s) (take v shifts) (left' ∷ [])

  long : v ≡ 0 + length (weights (take v shifts))
  long = omega (arith, weights-length (take v shifts), length-take-le v shifts (omega (arith, h, r.long)))

  fits : top v * 2 ^ left' + 2 ^ left' ≤ end_of (half n) (weights (take v shifts))
  fits =
      let p : (top v + 1) * 2 ^ left' ≤ 2 ^ width * 2 ^ left' = mul-le-mul_right (2 ^ left') (omega (arith, t)) in
      let k : width + left' ≤ left = omega (arith, e) in
      let q : 2 ^ (width + left') ≤ 2 ^ left = pow-le-pow_right (omega arith) k in
      omega (arith, p, q, pow-add 2 width left', r.end)

-- all fields
pub laid-end : (top : ℕ → ℕ) (n : ℕ) (shifts : List ℕ) (left v : ℕ) → AreLaid top n shifts left v → 256 ≤ v → AreFields top (half n) 0 (weights shifts)
laid-end top n shifts left v r h = subst (λ z. AreFields top (half n) 0 (weights z)) (take_all v shifts (omega (arith, h, r.long))) r.fields

-- ---- the monomial of a number
-- out has the exponents of the number n before variable v, and `rest` remains
pub record IsOpening (ss : List ℕ) (n : ℕ) (out : Pairs) (rest v : ℕ) : Type 0 where
  pub pairs : out ++ pairs_from v (taken (drop v (weights ss)) rest) ≡ pairs_from 0 (taken (weights ss) n)
  pub small : AreSmall (taken (drop v (weights ss)) rest)
  pub above : IsAbove out v
  pub within : v ≤ 256

pairs-more : (v e : ℕ) (m : List ℕ) → pairs_from v (e ∷ m) ≡ pairs_from v (e ∷ []) ++ pairs_from (v + 1) m
pairs-more v zero m = rw add-one refl
pairs-more v (suc e) m = rw add-one refl

above-push : (out : Pairs) (v e : ℕ) → IsAbove out v → IsAbove (out ++ pairs_from v (e ∷ [])) (v + 1)
above-push [] v zero a = tt
above-push [] v (suc e) a = (omega arith, tt)
above-push (p ∷ out) v e a = (omega (arith, a.0), above-push out v e a.1)

field-taken : (ss : List ℕ) (v s rest : ℕ) → v < length ss → s ≡ get_or ss v 0
    → taken (drop v (weights ss)) rest ≡ (rest / 2 ^ s) ∷ taken (drop (v + 1) (weights ss)) (rest - (rest / 2 ^ s) * 2 ^ s)
field-taken ss v s rest h e =
    let l : v < length (weights ss) = omega (arith, h, weights-length ss) in
    let w : get_or (weights ss) v 0 ≡ 2 ^ s = weights-get ss v h ∙ ap (λ z. 2 ^ z) (sym e) in
    let d : drop v (weights ss) ≡ 2 ^ s ∷ drop (v + 1) (weights ss) = drop_more (weights ss) v 0 l ∙ ap (λ z. z ∷ drop (v + 1) (weights ss)) w in
    ap (λ z. taken z rest) d

-- the exponent of the next variable is small
pub opening-small : (ss : List ℕ) (n : ℕ) (out : Pairs) (rest v s : ℕ) → IsOpening ss n out rest v → v < length ss → s ≡ get_or ss v 0 → rest / 2 ^ s < 128
opening-small ss n out rest v s r h e = let a : AreSmall ((rest / 2 ^ s) ∷ taken (drop (v + 1) (weights ss)) (rest - (rest / 2 ^ s) * 2 ^ s)) =
    subst AreSmall (field-taken ss v s rest h e) r.small in a.0

-- one variable more
pub opening-step : (ss : List ℕ) (n : ℕ) (out out' : Pairs) (rest rest' v s : ℕ) → IsOpening ss n out rest v → v < 256 → v < length ss → s ≡ get_or ss v 0
    → out' ≡ out ++ pairs_from v ((rest / 2 ^ s) ∷ []) → rest' ≡ rest - (rest / 2 ^ s) * 2 ^ s → IsOpening ss n out' rest' (v + 1)
opening-step ss n out out' rest rest' v s r k h e o q = record {
  pairs =
      ap (λ z. z ++ pairs_from (v + 1) next) o
      ∙ append_assoc out (pairs_from v (x ∷ [])) (pairs_from (v + 1) next)
      ∙ ap (λ z. out ++ z) (sym (pairs-more v x next))
      ∙ ap (λ z. out ++ pairs_from v z) (sym field)
      ∙ r.pairs;
  small = a.1;
  above = subst (λ z. IsAbove z (v + 1)) (sym o) (above-push out v x r.above);
  within = omega (arith, k);
} where
  x : ℕ
  x = rest / 2 ^ s

  next : List ℕ
  next = taken (drop (v + 1) (weights ss)) rest'

  field : taken (drop v (weights ss)) rest ≡ x ∷ next
  field = field-taken ss v s rest h e ∙ ap (λ z. x ∷ taken (drop (v + 1) (weights ss)) z) (sym q)

  a : AreSmall (x ∷ next)
  a = subst AreSmall field r.small

zero-none : (v : ℕ) (ws : List ℕ) → pairs_from v (taken ws 0) ≡ []
zero-none v [] = refl
zero-none v (w ∷ ws) = let e : 0 - 0 * w ≡ 0 = omega arith in rw (zero-div w, e) (zero-none (suc v) ws)

-- nothing remains
pub opening-end : (ss : List ℕ) (n : ℕ) (out : Pairs) (rest v : ℕ) → IsOpening ss n out rest v → (v < 256 → 0 < rest → ⊥) → length ss ≡ 256
    → out ≡ pairs_from 0 (taken (weights ss) n)
opening-end ss n out rest v r h e = by_case (cases_lt v 256) (cases_eq rest 0) where
  none : pairs_from v (taken (drop v (weights ss)) rest) ≡ [] → out ≡ pairs_from 0 (taken (weights ss) n)
  none z = sym (append-nil out) ∙ ap (λ y. out ++ y) (sym z) ∙ r.pairs

  by_case : (v < 256) ⊎ (256 ≤ v) → (rest ≡ 0) ⊎ (rest ≡ 0 → ⊥) → out ≡ pairs_from 0 (taken (weights ss) n)
  by_case (inr g) _ = none (ap (λ z. pairs_from v (taken z rest)) (drop_all v (weights ss) (omega (arith, g, e, weights-length ss))))
  by_case (inl l) (inl z) = none (ap (λ y. pairs_from v (taken (drop v (weights ss)) y)) z ∙ zero-none v (drop v (weights ss)))
  by_case (inl l) (inr z) = absurd (h l (omega (arith, z)))

-- all pairs are packed
pub packed-end : (ws : List ℕ) (ps : Pairs) (i n : ℕ) → n + packed ws (drop i ps) ≡ packed ws ps → length ps ≤ i → n ≡ packed ws ps
packed-end ws ps i n e l = omega (arith, e, ap (packed ws) (drop_all i ps l), packed-none ws) where
  packed-none : (ws : List ℕ) → packed ws [] ≡ 0
  packed-none ws = number-zero ws 0 (λ v. 0) (λ u l. refl)

-- what is packed so far, and the remaining pairs
pub record IsPacking (ss : List ℕ) (ps : Pairs) (i n : ℕ) : Type 0 where
  pub whole : n + packed (weights ss) (drop i ps) ≡ packed (weights ss) ps
  pub rising : IsRising (drop i ps)

module _ (ss : List ℕ) (ps : Pairs) (i n e v s : ℕ) (r : IsPacking ss ps i n) (l : i < length ps) (a : e ≡ (get_or ps i (0, 0)).1)
    (b : v ≡ (get_or ps i (0, 0)).0) (k : v < length ss) (q : s ≡ get_or ss v 0) where
  pair-first : IsRising (get_or ps i (0, 0) ∷ drop (i + 1) ps)
  pair-first = subst IsRising (drop_more ps i (0, 0) l) r.rising

  -- the next exponent is small
  pub packing-small : e < 128
  packing-small = omega (arith, a, pair-first.1)

  -- one more pair is packed
  pub packing-step : (x : ℕ) → x ≡ e * 2 ^ s → IsPacking ss ps (i + 1) (n + x)
  packing-step x y = record {
    whole =
        let p : ℕ × ℕ = get_or ps i (0, 0) in
        let w : (n + p.1 * 2 ^ s) + packed (weights ss) (drop (i + 1) ps) ≡ packed (weights ss) ps =
        packed-step ss ps i n s p r.whole l (get_or_default ps i (0, 0) p l) (omega (arith, k, b)) (q ∙ ap (λ z. get_or ss z 0) b) in
        omega (arith, w, y, ap (λ z. z * 2 ^ s) a);
    rising = pair-first.3;
  }

  -- there is room for it
  pub packing-room : (w x : ℕ) → packed (weights ss) ps < half w → x ≡ e * 2 ^ s → n + x < 2 ^ (127 * w)
  packing-room w x h y = omega (arith, (packing-step x y).whole, h, half-le w)

-- the number of a term is as those of all are
pub keyed-at : (ws : List ℕ) (f : Sparse) (i left : ℕ) (d : Pairs × ℤ) → i < length f → All (λ t. t.0 < left) (keyed ws f)
    → packed ws (get_or f i d).0 < left
keyed-at ws [] i left d l a = absurd (omega arith)
keyed-at ws (t ∷ f) zero left d l a = All-head (λ (x : ℕ × ℤ). x.0 < left) (packed ws t.0, t.1) (keyed ws f) a
keyed-at ws (t ∷ f) (suc i) left d l a =
    keyed-at ws f i left d (omega arith) (All-tail (λ (x : ℕ × ℤ). x.0 < left) (packed ws t.0, t.1) (keyed ws f) a)
