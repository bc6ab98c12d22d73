-- Where no node has too large a load, its range and its running size are within 2^127 - 1, and so is its value.
use Rattle.std.proofs.Common.{◌≡◌, ℕ, ℤ, ◌≤◌, max, List, [], ◌∷◌, ◌++◌, length, map, refl, arith, unsigned_abs}
use Rattle.std.specs.Prelude.{slice_index_or}
use Rattle.ln_algebra.specs.Sizes.{one, two}
use Rattle.ln_algebra.specs.Tree.{Tree, Num, Input, Name, Neg, Add, Sub, Mul, Pow}
use Rattle.ln_tree.specs.declared.shape.VarInfo.{VarInfo}
use Rattle.ln_tree.specs.Formula.{Formula, FNum, FInput, FName, FNeg, FAdd, FSub, FMul, FPow, tree}
use Rattle.ln_interval.specs.Range.{Range, Holds, magnitude, power}
use Rattle.ln_interval.proofs.Magnitudes.{holds_magnitude, power_magnitude}
use Rattle.ln_interval.proofs.Pairs.{power_holds}
use Rattle.ln_bound.specs.Light.{most, AreLight, LetsFit, ValuesFit, let_values}
use Rattle.ln_bound.specs.Loads.{load_of, loaded, loaded_lets, loaded_pred, nodes_by, ranges_of_lets, sizes_of_lets}
use Rattle.ln_bound.specs.Ranges.{HaveRange, LetsHaveRange, let_ranges, range_over, ranges, size_over}
use Rattle.ln_bound.specs.Room.{HasRoom, HaveRoom, let_bounds}
use Rattle.ln_bound.specs.UpTo.{AreUpTo}
use Rattle.ln_bound.specs.Value.{value, weight_over}
use Rattle.ln_bound.specs.Value as plain
use Rattle.ln_bound.proofs.Measures.Fitting.{light_parts, lower}
use Rattle.ln_bound.proofs.Measures.LoadLaws.{long_more, more_sizes}
use Rattle.ln_bound.proofs.Soundness.RangeLaws.{AllHold, lets_hold, more_held, more_long, value_held}
use Rattle.std.specs.Prelude.{◌^◌}
use Rattle.std.proofs.Common.{zero, suc, ◌*◌}
use Rattle.std.proofs.lemmas.Nat.{mul-le}
use Rattle.std.proofs.Math.Nat.{pow-suc, pow-zero}

power_le : (a b n : ℕ) → a ≤ b → a ^ n ≤ b ^ n
power_le a b zero h = omega (arith, pow-zero a, pow-zero b)
power_le a b (suc n) h =
    let ih : a ^ n ≤ b ^ n = power_le a b n h in
    let m : a ^ n * a ≤ b ^ n * b = mul-le _ _ _ _ ih h in
    omega (arith, pow-suc a n, pow-suc b n, m)

-- a weight grows with those of the variables and lets
pub weight_grows : (m w : ℕ → ℕ) (ms ws : List ℕ) → ((v : ℕ) → m v ≤ w v) → ((j : ℕ) → slice_index_or ms j 0 ≤ slice_index_or ws j 0)
    → (e : Tree) → weight_over m ms e ≤ weight_over w ws e
weight_grows m w ms ws h l (Num c) = omega arith
weight_grows m w ms ws h l (Input v) = h v
weight_grows m w ms ws h l (Name j) = l j
weight_grows m w ms ws h l (Neg e) = weight_grows m w ms ws h l e
weight_grows m w ms ws h l (Add e f) = let p = weight_grows m w ms ws h l e in let q = weight_grows m w ms ws h l f in omega (arith, p, q)
weight_grows m w ms ws h l (Sub e f) = let p = weight_grows m w ms ws h l e in let q = weight_grows m w ms ws h l f in omega (arith, p, q)
weight_grows m w ms ws h l (Mul e f) = mul-le _ _ _ _ (weight_grows m w ms ws h l e) (weight_grows m w ms ws h l f)
weight_grows m w ms ws h l (Pow e n) = power_le _ _ n (weight_grows m w ms ws h l e)

less : (a b : ℕ) → a ≤ b → b ≤ most → a ≤ most
less a b h l = omega (arith, h, l)

-- where the number of each node is at most what is tested of it, no number is too large where no node is
up_to : (vars : List VarInfo) (num : Tree → ℕ) (by : Formula → ℕ) → ((f : Formula) → num (tree vars f) ≤ by f) → (f : Formula)
    → AreLight (nodes_by by f) → AreUpTo num most (tree vars f)
up_to vars num by h (FNum at c) l = less _ _ (h (FNum at c)) l.0
up_to vars num by h (FInput at a c) l = less _ _ (h (FInput at a c)) l.0
up_to vars num by h (FName at j) l = less _ _ (h (FName at j)) l.0
up_to vars num by h (FNeg at e) l =
    let p = light_parts (nodes_by by e) _ l in
    (up_to vars num by h e p.0, less _ _ (h (FNeg at e)) p.1.0)
up_to vars num by h (FAdd at e f) l =
    let p = light_parts (nodes_by by e ++ nodes_by by f) _ l in
    let q = light_parts (nodes_by by e) _ p.0 in
    (up_to vars num by h e q.0, up_to vars num by h f q.1, less _ _ (h (FAdd at e f)) p.1.0)
up_to vars num by h (FSub at e f) l =
    let p = light_parts (nodes_by by e ++ nodes_by by f) _ l in
    let q = light_parts (nodes_by by e) _ p.0 in
    (up_to vars num by h e q.0, up_to vars num by h f q.1, less _ _ (h (FSub at e f)) p.1.0)
up_to vars num by h (FMul at e f) l =
    let p = light_parts (nodes_by by e ++ nodes_by by f) _ l in
    let q = light_parts (nodes_by by e) _ p.0 in
    (up_to vars num by h e q.0, up_to vars num by h f q.1, less _ _ (h (FMul at e f)) p.1.0)
up_to vars num by h (FPow at e n) l =
    let p = light_parts (nodes_by by e) _ l in
    (up_to vars num by h e p.0, less _ _ (h (FPow at e n)) p.1.0)

-- room is said of each node
room_of : (m : ℕ → ℕ) (ms : List ℕ) (e : Tree) → AreUpTo (weight_over m ms) most e → HasRoom m ms e
room_of m ms (Num c) h = h
room_of m ms (Input v) h = h
room_of m ms (Name j) h = h
room_of m ms (Neg e) h = (room_of m ms e h.0, h.1)
room_of m ms (Add e f) h = (room_of m ms e h.0, room_of m ms f h.1, h.2)
room_of m ms (Sub e f) h = (room_of m ms e h.0, room_of m ms f h.1, h.2)
room_of m ms (Mul e f) h = (room_of m ms e h.0, room_of m ms f h.1, h.2)
room_of m ms (Pow e n) h = (room_of m ms e h.0, h.1)

left : (a b : ℕ) → a ≤ max a b
left a b = omega arith

-- the range of each node is within the limit
pub light_ranges : (vars : List VarInfo) (ps : List Range) (ss : List ℕ) (f : Formula) → AreLight (loaded vars ps ss f) → HaveRange vars ps (tree vars f)
light_ranges vars ps ss f l = up_to vars (λ n. magnitude (range_over (ranges vars) ps n)) (load_of vars ps ss)
    (λ g. left (magnitude (range_over (ranges vars) ps (tree vars g))) (size_over ss (tree vars g))) f l

right : (a b c : ℕ) → a ≤ c → a ≤ max b c
right a b c h = omega (arith, h)

-- a running size is at most the size, where those of lets are
running_below : (rs ss : List ℕ) → ((j : ℕ) → slice_index_or rs j 0 ≤ slice_index_or ss j 0) → (e : Tree) → weight_over one rs e ≤ size_over ss e
running_below rs ss l e = weight_grows one two rs ss (λ v. omega arith) l e

-- and so is the running size of each node
pub light_running : (vars : List VarInfo) (ps : List Range) (rs ss : List ℕ) → ((j : ℕ) → slice_index_or rs j 0 ≤ slice_index_or ss j 0)
    → (f : Formula) → AreLight (loaded vars ps ss f) → HasRoom one rs (tree vars f)
light_running vars ps rs ss l f a =
    room_of one rs (tree vars f) (up_to vars (weight_over one rs) (load_of vars ps ss) (λ g. right (weight_over one rs (tree vars g))
    (magnitude (range_over (ranges vars) ps (tree vars g))) (size_over ss (tree vars g)) (running_below rs ss l (tree vars g))) f a)

-- ---- lets
lets_ranges : (vars : List VarInfo) (ps : List Range) (ss : List ℕ) (fs : List Formula) → AreLight (loaded_lets vars ps ss fs)
    → LetsHaveRange vars ps (map (tree vars) fs)
lets_ranges vars ps ss [] l = tt
lets_ranges vars ps ss (f ∷ fs) l =
    let p = light_parts (loaded vars ps ss f) _ l in
    (light_ranges vars ps ss f p.0, lets_ranges vars (ps ++ range_over (ranges vars) ps (tree vars f) ∷ []) (ss ++ size_over ss (tree vars f) ∷ []) fs p.1)

-- the running sizes of lets are within the limit, and at most their sizes
record RunningLets (vars : List VarInfo) (rs ss : List ℕ) (fs : List Formula) : Type 0 where
  pub room : HaveRoom one rs (map (tree vars) fs)
  pub below : (j : ℕ) → slice_index_or (let_bounds one rs (map (tree vars) fs)) j 0 ≤ slice_index_or (sizes_of_lets vars ss fs) j 0

lets_running : (vars : List VarInfo) (ps : List Range) (rs ss : List ℕ) → length rs ≡ length ss
    → ((j : ℕ) → slice_index_or rs j 0 ≤ slice_index_or ss j 0) → (fs : List Formula) → AreLight (loaded_lets vars ps ss fs) → RunningLets vars rs ss fs
lets_running vars ps rs ss e l [] a = record { room = tt; below = l }
lets_running vars ps rs ss e l (f ∷ fs) a =
    let p = light_parts (loaded vars ps ss f) _ a in
    let r = weight_over one rs (tree vars f) in
    let s = size_over ss (tree vars f) in
    let ih = lets_running vars (ps ++ range_over (ranges vars) ps (tree vars f) ∷ []) (rs ++ r ∷ []) (ss ++ s ∷ []) (long_more rs ss r s e)
    (more_sizes rs ss r s e (running_below rs ss l (tree vars f)) l) fs p.1 in
    record { room = (light_running vars ps rs ss l f p.0, ih.room); below = ih.below }

-- the ranges of lets are those of their trees
pub same_ranges : (vars : List VarInfo) (ps : List Range) (fs : List Formula) → ranges_of_lets vars ps fs ≡ let_ranges (ranges vars) ps (map (tree vars) fs)
same_ranges vars ps [] = refl
same_ranges vars ps (f ∷ fs) = same_ranges vars (ps ++ range_over (ranges vars) ps (tree vars f) ∷ []) fs

-- what a predicate's loads give: the ranges and the running sizes of all nodes are within the limit
pub record PredRoom (vars : List VarInfo) (lets : List Formula) (root : Formula) : Type 0 where
  pub lets_ranges : LetsHaveRange vars [] (map (tree vars) lets)
  pub root_range : HaveRange vars (let_ranges (ranges vars) [] (map (tree vars) lets)) (tree vars root)
  pub lets_running : HaveRoom one [] (map (tree vars) lets)
  pub root_running : HasRoom one (let_bounds one [] (map (tree vars) lets)) (tree vars root)

-- where no load of a predicate is too large, the ranges and the running sizes of its nodes are within the limit
pub pred_room : (vars : List VarInfo) (lets : List Formula) (root : Formula) → AreLight (loaded_pred vars lets root) → PredRoom vars lets root
pred_room vars lets root l =
    let p = light_parts (loaded_lets vars [] [] lets) _ l in
    let r = lets_running vars [] [] [] refl (λ j. omega arith) lets p.0 in
    let e = same_ranges vars [] lets in
    record {
      lets_ranges = lets_ranges vars [] [] lets p.0;
      root_range = rw (← e) (light_ranges vars (ranges_of_lets vars [] lets) (sizes_of_lets vars [] lets) root p.1);
      lets_running = r.room;
      root_running = light_running vars (ranges_of_lets vars [] lets) (let_bounds one [] (map (tree vars) lets)) (sizes_of_lets vars [] lets) r.below root p.1;
    }

-- ---- values
module _ (vars : List VarInfo) (x : ℕ → ℤ) (h : (v : ℕ) → Holds (ranges vars v) (x v)) where
  -- a value is within the limit where the range of its node is
  fits : (ps : List Range) (zs : List ℤ) → AllHold ps zs → (e : Tree) → magnitude (range_over (ranges vars) ps e) ≤ most → unsigned_abs (value x zs e) ≤ most
  fits ps zs l e m = let a = holds_magnitude (range_over (ranges vars) ps e) (value x zs e) (value_held x (ranges vars) h zs ps l e) in omega (arith, a, m)

  -- so is each lower power
  lower_fits : (ps : List Range) (zs : List ℤ) → AllHold ps zs → (e : Tree) (n k : ℕ)
      → magnitude (range_over (ranges vars) ps (Pow e n)) ≤ most → k ≤ n → unsigned_abs (plain.power (value x zs e) k) ≤ most
  lower_fits ps zs l e n k m g =
      let p = range_over (ranges vars) ps e in
      let a = holds_magnitude (power p k) (plain.power (value x zs e) k) (power_holds p k (value x zs e) (value_held x (ranges vars) h zs ps l e)) in
      let b = power_magnitude p n in
      let c = power_magnitude p k in
      let d = lower (magnitude p) k n g (omega (arith, b, m)) in
      omega (arith, a, c, d)

  -- the value of each node fits where the range of each is within the limit
  ranges_fit : (ps : List Range) (zs : List ℤ) → AllHold ps zs → (e : Tree) → HaveRange vars ps e → ValuesFit x zs e
  ranges_fit ps zs l (Num c) a = fits ps zs l (Num c) a
  ranges_fit ps zs l (Input v) a = fits ps zs l (Input v) a
  ranges_fit ps zs l (Name j) a = fits ps zs l (Name j) a
  ranges_fit ps zs l (Neg e) a = (ranges_fit ps zs l e a.0, fits ps zs l (Neg e) a.1)
  ranges_fit ps zs l (Add e f) a = (ranges_fit ps zs l e a.0, ranges_fit ps zs l f a.1, fits ps zs l (Add e f) a.2)
  ranges_fit ps zs l (Sub e f) a = (ranges_fit ps zs l e a.0, ranges_fit ps zs l f a.1, fits ps zs l (Sub e f) a.2)
  ranges_fit ps zs l (Mul e f) a = (ranges_fit ps zs l e a.0, ranges_fit ps zs l f a.1, fits ps zs l (Mul e f) a.2)
  ranges_fit ps zs l (Pow e n) a = (ranges_fit ps zs l e a.0, λ k g. lower_fits ps zs l e n k a.1 g)

  lets_ranges_fit : (ps : List Range) (zs : List ℤ) → length ps ≡ length zs → AllHold ps zs → (es : List Tree) → LetsHaveRange vars ps es → LetsFit x zs es
  lets_ranges_fit ps zs n l [] a = tt
  lets_ranges_fit ps zs n l (e ∷ es) a =
      let p = range_over (ranges vars) ps e in
      let z = value x zs e in (
        ranges_fit ps zs l e a.0,
        lets_ranges_fit (ps ++ p ∷ []) (zs ++ z ∷ []) (more_long ps zs p z n) (more_held ps zs p z n (value_held x (ranges vars) h zs ps l e) l) es a.1,
      )

  nothing_held : AllHold [] []
  nothing_held j = (omega arith, omega arith)

  all_fit : (lets : List Formula) (root : Formula) → AreLight (loaded_pred vars lets root)
      → LetsFit x [] (map (tree vars) lets) × ValuesFit x (let_values x [] (map (tree vars) lets)) (tree vars root)
  all_fit lets root a =
      let r = pred_room vars lets root a in
      let l = lets_hold x (ranges vars) h [] [] refl nothing_held (map (tree vars) lets) in (
        lets_ranges_fit [] [] refl nothing_held (map (tree vars) lets) r.lets_ranges,
        ranges_fit (let_ranges (ranges vars) [] (map (tree vars) lets)) (let_values x [] (map (tree vars) lets)) l.all (tree vars root) r.root_range,
      )

-- the values of a predicate whose loads are within the limit fit
pub pred_fits : (vars : List VarInfo) (x : ℕ → ℤ) (lets : List Formula) (root : Formula) → ((v : ℕ) → Holds (ranges vars v) (x v))
    → AreLight (loaded_pred vars lets root) → LetsFit x [] (map (tree vars) lets) × ValuesFit x (let_values x [] (map (tree vars) lets)) (tree vars root)
pred_fits vars x lets root h a = all_fit vars x h lets root a
