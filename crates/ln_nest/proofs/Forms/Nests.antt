-- No node of the nested form weighs more than the terms, whatever the weights from 1 on: so its ranges are within the M-weighted sum, and
-- its running sizes within the sum of the absolute factors.
use Rattle.std.proofs.Common.{◌≡◌, ℕ, ◌+◌, ◌*◌, ◌^◌, ◌≤◌, length, List, [], ◌∷◌, refl, ap, arith, ◌∙◌, sym}
use Rattle.std.proofs.Math.Nat.{mul-le-mul_left, one-le-pow}
use Rattle.ln_algebra.specs.Terms.{Term}
use Rattle.ln_algebra.specs.Tree.{Tree, Num, Input, Name, Neg, Add, Sub, Mul, Pow, InputsBelow}
use Rattle.ln_algebra.specs.Weights.{weighted_sum}
use Rattle.ln_bound.specs.Light.{most}
use Rattle.ln_bound.specs.Room.{HasRoom}
use Rattle.ln_tree.specs.declared.shape.VarInfo.{VarInfo}
use Rattle.ln_bound.proofs.Measures.RoomLaws.{weight_grows}
use Rattle.ln_nest.specs.Lean.{HasNoZero}
use Rattle.ln_nest.specs.Nested.{divided, free_of, joined, nested, power, scaled}
use Rattle.ln_nest.proofs.Forms.Bounds.{parts_some, parts_weight, some_weight, sum_weight}
use Rattle.ln_nest.proofs.Terms.Parts.{nested_has}
use Rattle.ln_nest.proofs.Terms.Powers.{power_has, power_one, power_sum, power_two, weight_power}
use Rattle.ln_nest.proofs.Terms.Scaled.{scaled_cases}
use Rattle.ln_nest.proofs.Forms.Steps.{range_scale, scale_some}
use Rattle.ln_nest.proofs.Forms.Leans.{nested_inputs}
use Rattle.ln_nest.specs.View.{scale}
use Rattle.ln_interval.specs.Range.{Range, IsOrdered, magnitude}
use Rattle.ln_bound.specs.Ranges.{ranges, HaveRange}
use Rattle.ln_bound.specs.Typed.{Typed, TNum, TInput, TLet, TNeg, TTwo, TPow, need, pair, untyped}
use Rattle.ln_bound.specs.declared.fitted.Two.TheVariants.{Plus, Minus, Times}
use Rattle.ln_bound.specs.Sound.{Sound}
use Rattle.ln_bound.specs.Exact.{AreWithinPairs, IsExact}
use Rattle.ln_bound.proofs.Soundness.ExactLaws.{exact_nodes, exact_range}
use Rattle.ln_bound.specs.UpTo.{AreUpTo}
use Rattle.ln_nest.specs.Reach.{reaches, weighs}
use Rattle.ln_algebra.specs.Sizes.{one}
use Rattle.ln_bound.proofs.Measures.LoadLaws.{range_weight}

-- ---- ranges of exact trees
small_in : (vars : List VarInfo) (n : ℕ) (t : Typed) → IsExact vars [] t → reaches (ranges vars) (untyped t) ≤ n → magnitude (pair t) ≤ n
small_in vars n t x h =
    let e = exact_range vars [] t x in
    let f : magnitude (pair t) ≡ reaches (ranges vars) (untyped t) = ap magnitude_of e in
    omega (arith, f, h)
  where
    magnitude_of : Range → ℕ
    magnitude_of r = magnitude r

-- each range of an exact tree without lets is within n where those of its expression are
pub exact_within : (vars : List VarInfo) (n : ℕ) (t : Typed) → IsExact vars [] t → AreUpTo (reaches (ranges vars)) n (untyped t) → AreWithinPairs n t
exact_within vars n (TNum c p w) x a = small_in vars n (TNum c p w) x a
exact_within vars n (TInput v p w) x a = small_in vars n (TInput v p w) x a
exact_within vars n (TLet j p w) x a = small_in vars n (TLet j p w) x a
exact_within vars n (TNeg t p w) x a = (exact_within vars n t x.0 a.0, small_in vars n (TNeg t p w) x a.1)
exact_within vars n (TTwo Plus s t p w) x a = (exact_within vars n s x.0 a.0, exact_within vars n t x.1 a.1, small_in vars n (TTwo Plus s t p w) x a.2)
exact_within vars n (TTwo Minus s t p w) x a = (exact_within vars n s x.0 a.0, exact_within vars n t x.1 a.1, small_in vars n (TTwo Minus s t p w) x a.2)
exact_within vars n (TTwo Times s t p w) x a = (exact_within vars n s x.0 a.0, exact_within vars n t x.1 a.1, small_in vars n (TTwo Times s t p w) x a.2)
exact_within vars n (TPow t k p w) x a = (exact_within vars n t x.0 a.0, small_in vars n (TPow t k p w) x a.1)

-- ---- nodes up to a number
-- the root is one of the nodes
pub root_up : (by : Tree → ℕ) (n : ℕ) (e : Tree) → AreUpTo by n e → by e ≤ n
root_up by n (Num c) a = a
root_up by n (Input v) a = a
root_up by n (Name j) a = a
root_up by n (Neg e) a = a.1
root_up by n (Add e f) a = a.2
root_up by n (Sub e f) a = a.2
root_up by n (Mul e f) a = a.2
root_up by n (Pow e k) a = a.1

-- up to a larger number, of smaller numbers
pub up_more : (by c : Tree → ℕ) (n m : ℕ) → ((e : Tree) → c e ≤ by e) → n ≤ m → (e : Tree) → AreUpTo by n e → AreUpTo c m e
up_more by c n m h l (Num z) a = let g = h (Num z) in omega (arith, g, a, l)
up_more by c n m h l (Input v) a = let g = h (Input v) in omega (arith, g, a, l)
up_more by c n m h l (Name j) a = let g = h (Name j) in omega (arith, g, a, l)
up_more by c n m h l (Neg e) a = (up_more by c n m h l e a.0, let g = h (Neg e) in omega (arith, g, a.1, l))
up_more by c n m h l (Add e f) a = (up_more by c n m h l e a.0, up_more by c n m h l f a.1, let g = h (Add e f) in omega (arith, g, a.2, l))
up_more by c n m h l (Sub e f) a = (up_more by c n m h l e a.0, up_more by c n m h l f a.1, let g = h (Sub e f) in omega (arith, g, a.2, l))
up_more by c n m h l (Mul e f) a = (up_more by c n m h l e a.0, up_more by c n m h l f a.1, let g = h (Mul e f) in omega (arith, g, a.2, l))
up_more by c n m h l (Pow e k) a = (up_more by c n m h l e a.0, let g = h (Pow e k) in omega (arith, g, a.1, l))

-- ---- weights
module _ (w : ℕ → ℕ) (one_each : (v : ℕ) → 1 ≤ w v) where
  -- each node of a power of v weighs no more than the power
  power_up : (v k e : ℕ) → 1 ≤ e → e ≤ k + 1 → (n : ℕ) → w v ^ e ≤ n → AreUpTo (weighs w) n (power k v e)
  power_up v k e l h = (power_has v Rises (power_one (w v), λ n l. rw (power_one (w v)) at l) again twice k e l h).1
    where
      Rises : ℕ → Tree → Type 0
      Rises e t = (w v ^ e ≡ weighs w t) × ((n : ℕ) → w v ^ e ≤ n → AreUpTo (weighs w) n t)

      again : (e : ℕ) (t : Tree) → 1 ≤ e → Rises e t → Rises (e + 1) (Mul t (Input v))
      again e t o h =
          let s = power_sum (w v) e 1 in
          let f = power_one (w v) in
          let p : w v ^ (e + 1) ≡ w v ^ e * w v = s ∙ ap (λ x. w v ^ e * x) f in
          let q : w v ^ (e + 1) ≡ weighs w (Mul t (Input v)) = p ∙ ap (λ x. x * w v) h.0 in
          let a : w v ^ e * 1 ≤ w v ^ e * w v = mul-le-mul_left (w v ^ e) (one_each v) in
          let b : w v * 1 ≤ w v * w v ^ e = mul-le-mul_left (w v) (one-le-pow e (w v) (one_each v)) in
          (q, λ n l. (h.1 n (omega (arith, l, p, a)), omega (arith, l, p, b), omega (arith, l, q)))

      twice : (e : ℕ) (t : Tree) → 2 ≤ e → Rises e t → Rises (e + e) (Pow t 2)
      twice e t o h =
          let p : w v ^ (e + e) ≡ w v ^ e * w v ^ e = power_sum (w v) e e in
          let q : w v ^ (e + e) ≡ weighs w (Pow t 2) = p ∙ sym (power_two (w v ^ e)) ∙ ap (λ x. x ^ 2) h.0 in
          let a : w v ^ e * 1 ≤ w v ^ e * w v ^ e = mul-le-mul_left (w v ^ e) (one-le-pow e (w v) (one_each v)) in
          (q, λ n l. (h.1 n (omega (arith, l, p, a)), omega (arith, l, q)))

  -- x times a tree that is up to d, where x weighs c, and both are at least 1
  scaled_up : (x h : Tree) (c d n : ℕ) → 1 ≤ c → 1 ≤ d → c * d ≤ n → weighs w x ≡ c → ((m : ℕ) → c ≤ m → AreUpTo (weighs w) m x)
      → AreUpTo (weighs w) d h → AreUpTo (weighs w) n (scaled x h)
  scaled_up x h c d n o s l p u a =
      let one : c * 1 ≤ c * d = mul-le-mul_left c s in
      let at : c ≤ n = omega (arith, one, l) in
      let r = root_up (weighs w) d h a in
      let m : c * weighs w h ≤ c * d = mul-le-mul_left c r in
      let k : d * 1 ≤ d * c = mul-le-mul_left d o in
      scaled_cases x h (AreUpTo (weighs w) n)
      (λ e. u n at)
      (λ e. (u n at, omega (arith, at, p)))
      (u n at, up_more (weighs w) (weighs w) d n (λ e. omega arith) (omega (arith, k, l)) h a, rw p (omega (arith, m, l)))

  -- the root of x times a tree
  scaled_root : (x h : Tree) → weighs w (scaled x h) ≤ weighs w x * weighs w h
  scaled_root x h = scaled_cases x h (λ e. weighs w e ≤ weighs w x * weighs w h) (λ e. rw e (omega arith)) (λ e. rw e (omega arith)) (omega arith)

  -- a step: a tree of weight c times one of the divided terms, and a tree of the others
  joined_up : (x h i : Tree) (ds fs : List Term) (c n : ℕ) → 1 ≤ c → weighs w x ≡ c → ((m : ℕ) → c ≤ m → AreUpTo (weighs w) m x) → HasNoZero ds
      → c * weighted_sum w ds + weighted_sum w fs ≤ n → AreUpTo (weighs w) (weighted_sum w ds) h → AreUpTo (weighs w) (weighted_sum w fs) i
      → AreUpTo (weighs w) n (joined x h i ds fs)
  joined_up x h i [] fs c n o p u z l a b = up_more (weighs w) (weighs w) (weighted_sum w fs) n (λ e. omega arith) (omega (arith, l)) i b
  joined_up x h i (t ∷ ds) [] c n o p u z l a b = scaled_up x h c (weighted_sum w (t ∷ ds)) n o (some_weight w one_each t ds z) (omega (arith, l)) p u a
  joined_up x h i (t ∷ ds) (s ∷ fs) c n o p u z l a b =
      let d = weighted_sum w (t ∷ ds) in
      let g = weighted_sum w (s ∷ fs) in
      let y = scaled_up x h c d n o (some_weight w one_each t ds z) (omega (arith, l)) p u a in
      let q = up_more (weighs w) (weighs w) g n (λ e. omega arith) (omega (arith, l)) i b in
      let r = root_up (weighs w) d h a in
      let j = root_up (weighs w) g i b in
      let k : weighs w (scaled x h) ≤ c * weighs w h = rw p at (scaled_root x h) in
      let m : c * weighs w h ≤ c * d = mul-le-mul_left c r in
      (y, q, omega (arith, l, j, k, m))

  -- no node of the nested form weighs more than the terms
  pub nested_up : (d k v : ℕ) (f : List Term) → HasNoZero f → AreUpTo (weighs w) (weighted_sum w f) (nested d k v f)
  nested_up d k v =
      nested_has (k + v) (λ f e. HasNoZero f → AreUpTo (weighs w) (weighted_sum w f) e) (λ f z. sum_weight w one_each f)
      (λ v e f h i l q a b z.
      let s = parts_some e v f z in
      let r : e ≤ e + 1 = omega (arith, q.1) in
      joined_up (power e v e) h i (divided e v f) (free_of v f) (w v ^ e) (weighted_sum w f) (one-le-pow e (w v) (one_each v))
      (weight_power w v e e q.0 r) (power_up v e e q.0 r) s.0 (omega (arith, parts_weight w e v f q.2)) (a s.0) (b s.1)) d k v refl

-- so the range of each node is within the M-weighted sum
pub nested_ranges : (r : ℕ → Range) (m : ℕ → ℕ) → ((v : ℕ) → 1 ≤ m v) → ((v : ℕ) → magnitude (r v) ≤ m v) → (d k v : ℕ) (f : List Term)
    → HasNoZero f → AreUpTo (reaches r) (weighted_sum m f) (nested d k v f)
nested_ranges r m o h d k v f z = up_more (weighs m) (reaches r) (weighted_sum m f) (weighted_sum m f)
    (λ e. range_weight r m [] [] h (λ j. omega arith) e) (omega arith) (nested d k v f) (nested_up m o d k v f z)

-- and its running size within the same sum
pub nested_sizes : (m : ℕ → ℕ) → ((v : ℕ) → 1 ≤ m v) → (d k v : ℕ) (f : List Term) → HasNoZero f → AreUpTo (weighs one) (weighted_sum m f) (nested d k v f)
nested_sizes m o d k v f z = up_more (weighs m) (weighs one) (weighted_sum m f) (weighted_sum m f)
    (λ e. weight_grows one m [] [] o (λ j. omega arith) e) (omega arith) (nested d k v f) (nested_up m o d k v f z)

-- ---- the typed tree
room_up : (e : Tree) → AreUpTo (weighs one) most e → HasRoom one [] e
room_up (Num c) a = a
room_up (Input v) a = a
room_up (Name j) a = a
room_up (Neg e) a = (room_up e a.0, a.1)
room_up (Add e f) a = (room_up e a.0, room_up f a.1, a.2)
room_up (Sub e f) a = (room_up e a.0, room_up f a.1, a.2)
room_up (Mul e f) a = (room_up e a.0, room_up f a.1, a.2)
room_up (Pow e k) a = (room_up e a.0, a.1)

-- an exact tree no node of which weighs more than m is sound, with its ranges within m
pub up_sound : (vars : List VarInfo) (e : Tree) (m : ℕ) (t : Typed) → ((v : ℕ) → IsOrdered (ranges vars v)) → m ≤ most
    → AreUpTo (weighs (scale vars)) m e → InputsBelow (length vars) e → untyped t ≡ e → IsExact vars [] t → need t ≤ 2048
    → Sound vars [] t × AreWithinPairs m t
up_sound vars e m t o l a i q x n =
    let scales = λ (v : ℕ). scale_some vars v in
    let r = up_more (weighs (scale vars)) (reaches (ranges vars)) m m
    (λ e. range_weight (ranges vars) (scale vars) [] [] (range_scale vars) (λ j. omega arith) e) (omega arith) e a in
    let s = up_more (weighs (scale vars)) (weighs one) m m (λ e. weight_grows one (scale vars) [] [] scales (λ j. omega arith) e) (omega arith) e a in
    let rm = up_more (reaches (ranges vars)) (reaches (ranges vars)) m most (λ e. omega arith) l e r in
    let sm = up_more (weighs one) (weighs one) m most (λ e. omega arith) l e s in
    let ii : InputsBelow (length vars) (untyped t) = rw q i in
    let hr : HaveRange vars [] (untyped t) = rw q rm in
    let hs : HasRoom one [] (untyped t) = rw q (room_up e sm) in
    (record { nodes = exact_nodes vars [] o (λ j u q. cc) t ii x hr; sizes = hs; deep = n }, exact_within vars m t x (rw q r))

-- so is one in nested form, with its ranges within the M-weighted sum
pub nested_sound : (vars : List VarInfo) (d : ℕ) (f : List Term) (t : Typed) → ((v : ℕ) → IsOrdered (ranges vars v)) → HasNoZero f
    → weighted_sum (scale vars) f ≤ most → untyped t ≡ nested d (length vars) 0 f → IsExact vars [] t → need t ≤ 2048
    → Sound vars [] t × AreWithinPairs (weighted_sum (scale vars) f) t
nested_sound vars d f t o z l e x n =
    up_sound vars (nested d (length vars) 0 f) (weighted_sum (scale vars) f) t o l
    (nested_up (scale vars) (λ v. scale_some vars v) d (length vars) 0 f z) (nested_inputs (length vars) d (length vars) 0 (omega arith) f) e x n
