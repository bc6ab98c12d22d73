-- Exact ranges are those of the nodes, and sound where they are within 2^127 - 1.
use Rattle.std.proofs.Common.{◌≡◌, ℕ, ℤ, ◌≤◌, true, List, [], ◌∷◌, ◌++◌, length, map, append_assoc, append-nil, refl, zero, suc, ap, arith, pos, ◌∙◌, sym, ap₂}
use Rattle.std.specs.Prelude.{Option, Some, None, slice_get, slice_index_or}
use Rattle.std.proofs.lemmas.Int.{ints}
use Rattle.std.proofs.lemmas.Bool.{and_parts}
use Rattle.std.proofs.lemmas.List.{map-append}
use Rattle.ln_algebra.specs.Tree.{InputsBelow, Tree, Num, Input, Name, Neg, Add, Sub, Mul, Pow}
use Rattle.ln_tree.specs.Fits.{is_fit, lets_fit}
use Rattle.ln_tree.specs.declared.shape.VarInfo.{VarInfo}
use Rattle.ln_bound.specs.declared.fitted.Width.{Width}
use Rattle.ln_bound.specs.declared.fitted.Two.{Two}
use Rattle.ln_bound.specs.declared.fitted.Two.TheVariants.{Plus, Minus, Times}
use Rattle.ln_bound.specs.Widths.{least, wider}
use Rattle.ln_bound.proofs.Soundness.WidthLaws.{least_fits, wider_fits, left_no_wider, first_no_wider, second_no_wider, lt_test}
use Rattle.ln_interval.specs.Range.{Range, Holds, Covers, IsOrdered, point, sum, difference, product, opposite, power, magnitude, most}
use Rattle.ln_bound.specs.Ranges.{HaveRange, LetsHaveRange, let_ranges, ranges, range_over}
use Rattle.ln_bound.specs.Typed.{Typed, TNum, TInput, TLet, TNeg, TTwo, TPow, pair, width, two_of, untyped, range_of}
use Rattle.ln_bound.specs.Sound.{IsIn, CoversLet, SoundNodes}
use Rattle.ln_bound.specs.Exact.{AreExact, IsExact, IsOfLet}
use Rattle.ln_interval.proofs.Monotone.{covers_self}
use Rattle.ln_interval.proofs.Magnitudes.{sum_ordered, difference_ordered, opposite_ordered, product_ordered, power_ordered}

-- the range of a let in the list of ranges
let_range : (lets : List Typed) (j : ℕ) (u : Typed) → slice_get lets j ≡ Some u → slice_index_or (map pair lets) j (point (pos 0)) ≡ pair u
let_range [] j u h = cc
let_range (t ∷ ts) zero u h = let e : t ≡ u = cc in ap pair e
let_range (t ∷ ts) (suc j) u h = let_range ts j u h

of_let : (lets : List Typed) (j : ℕ) (o : Option Typed) (p : Range) (w : Width) → slice_get lets j ≡ o → IsOfLet o p w
    → p ≡ slice_index_or (map pair lets) j (point (pos 0))
of_let lets j None p w e h = absurd h
of_let lets j (Some u) p w e h = h.0 ∙ sym (let_range lets j u e)

-- the range of an exact tree is that of its expression
pub exact_range : (vars : List VarInfo) (lets : List Typed) (t : Typed) → IsExact vars lets t → pair t ≡ range_over (ranges vars) (map pair lets) (untyped t)
exact_range vars lets (TNum c p w) h = h.0
exact_range vars lets (TInput v p w) h = h.0
exact_range vars lets (TLet j p w) h = of_let lets j (slice_get lets j) p w refl h
exact_range vars lets (TNeg t p w) h = h.1 ∙ ap opposite (exact_range vars lets t h.0)
exact_range vars lets (TTwo Plus s t p w) h = let a = exact_range vars lets s h.0 in let b = exact_range vars lets t h.1 in h.2 ∙ ap₂ sum a b
exact_range vars lets (TTwo Minus s t p w) h = let a = exact_range vars lets s h.0 in let b = exact_range vars lets t h.1 in h.2 ∙ ap₂ difference a b
exact_range vars lets (TTwo Times s t p w) h = let a = exact_range vars lets s h.0 in let b = exact_range vars lets t h.1 in h.2 ∙ ap₂ product a b
exact_range vars lets (TPow t n p w) h = h.1 ∙ ap (λ q. power q n) (exact_range vars lets t h.0)

-- a range that is another covers it
same_covers : (p q : Range) → p ≡ q → Covers p q
same_covers p q e = rw e (covers_self q)

-- a sum, a difference or a product of ordered ranges is ordered
pub two_ordered : (k : Two) (p q : Range) → IsOrdered p → IsOrdered q → IsOrdered (range_of k p q)
two_ordered Plus p q h g = sum_ordered p q h g
two_ordered Minus p q h g = difference_ordered p q h g
two_ordered Times p q h g = product_ordered p q

number_held : (c : ℤ) → Holds (point c) c
number_held c = (omega (arith, ints), omega (arith, ints))

-- the range of a node is one, where the magnitude is within 2^127 - 1 and the width is the least
least_in : (p q : Range) (w : Width) → p ≡ q → IsOrdered q → magnitude p ≤ most → w ≡ least (magnitude p) → IsIn p w
least_in p q w e o m s = (rw e o, rw s (least_fits (magnitude p) m))

wider_in : (p q : Range) (v w : Width) → p ≡ q → IsOrdered q → magnitude p ≤ most → w ≡ wider v (least (magnitude p)) → IsIn p w
wider_in p q v w e o m s = (rw e o, rw s (wider_fits v (magnitude p) m))

-- a range that is another is as small
small : (p q : Range) → p ≡ q → magnitude q ≤ most → magnitude p ≤ most
small p q e l = rw e l

-- the node of a let whose range is in order
let_sound : (o : Option Typed) (p : Range) (w : Width) → ((u : Typed) → o ≡ Some u → IsOrdered (pair u)) → IsOfLet o p w
    → magnitude p ≤ most → CoversLet o p w × IsIn p w
let_sound None p w l h m = absurd h
let_sound (Some u) p w l h m =
    ((same_covers p (pair u) h.0, rw h.1 (left_no_wider (width u) (least (magnitude p)))), wider_in p (pair u) (width u) w h.0 (l u refl) m h.1)

-- ---- the ranges of variables and of lets are in order
module _ (vars : List VarInfo) (lets : List Typed) (h : (v : ℕ) → IsOrdered (ranges vars v))
    (l : (j : ℕ) (u : Typed) → slice_get lets j ≡ Some u → IsOrdered (pair u)) where
  -- an exact node is in order where variables and lets are
  pub exact_ordered : (t : Typed) → IsExact vars lets t → IsOrdered (pair t)
  exact_ordered (TNum c p w) x = let e : p ≡ point c = x.0 in rw e (omega (arith, ints))
  exact_ordered (TInput v p w) x = let e : p ≡ ranges vars v = x.0 in rw e (h v)
  exact_ordered (TLet j p w) x = by_let (slice_get lets j) refl x
    where
      by_let : (o : Option Typed) → slice_get lets j ≡ o → IsOfLet o p w → IsOrdered p
      by_let None q y = absurd y
      by_let (Some u) q y = let e : p ≡ pair u = y.0 in rw e (l j u q)
  exact_ordered (TNeg t p w) x =
      let e : p ≡ opposite (pair t) = x.1 in
      let i = opposite_ordered (pair t) (exact_ordered t x.0) in
      rw e i
  exact_ordered (TTwo k s t p w) x =
      let e : p ≡ range_of k (pair s) (pair t) = x.2 in
      let i = two_ordered k (pair s) (pair t) (exact_ordered s x.0) (exact_ordered t x.1) in
      rw e i
  exact_ordered (TPow t n p w) x = let e : p ≡ power (pair t) n = x.1 in let i = power_ordered (pair t) n in rw e i

  -- an operation on two exact nodes
  exact_two : (k : Two) (s t : Typed) (p : Range) (w : Width)
      → IsExact vars lets (TTwo k s t p w) → SoundNodes vars lets s → SoundNodes vars lets t → magnitude p ≤ most → SoundNodes vars lets (TTwo k s t p w)
  exact_two k s t p w x a b m =
      let o = exact_ordered s x.0 in
      let n = exact_ordered t x.1 in (
        a,
        b,
        same_covers p (range_of k (pair s) (pair t)) x.2,
        wider_in p (range_of k (pair s) (pair t)) (wider (width s) (width t)) w x.2 (two_ordered k (pair s) (pair t) o n) m x.3,
        rw x.3 (first_no_wider (width s) (width t) (least (magnitude p))),
        rw x.3 (second_no_wider (width s) (width t) (least (magnitude p))),
      )

  -- exact nodes are sound where the ranges are within 2^127 - 1
  pub exact_nodes : (t : Typed) → InputsBelow (length vars) (untyped t)
      → IsExact vars lets t → HaveRange vars (map pair lets) (untyped t) → SoundNodes vars lets t
  exact_nodes (TNum c p w) f x r =
      (let e : p ≡ point c = x.0 in rw e (number_held c), least_in p (point c) w x.0 (omega (arith, ints)) (small p (point c) x.0 r) x.1)
  exact_nodes (TInput v p w) f x r =
      (f, same_covers p (ranges vars v) x.0, least_in p (ranges vars v) w x.0 (h v) (small p (ranges vars v) x.0 r) x.1)
  exact_nodes (TLet j p w) f x r = let_sound (slice_get lets j) p w (λ u e. l j u e) x (small p _ (of_let lets j (slice_get lets j) p w refl x) r)
  exact_nodes (TNeg t p w) f x r =
      let m = small p _ (exact_range vars lets (TNeg t p w) x) r.1 in
      let o = exact_ordered t x.0 in (
        exact_nodes t f x.0 r.0,
        same_covers p (opposite (pair t)) x.1,
        wider_in p (opposite (pair t)) (width t) w x.1 (opposite_ordered (pair t) o) m x.2,
        rw x.2 (left_no_wider (width t) (least (magnitude p))),
      )
  exact_nodes (TTwo Plus s t p w) f x r =
      exact_two Plus s t p w x (exact_nodes s f.0 x.0 r.0) (exact_nodes t f.1 x.1 r.1)
      (small p _ (exact_range vars lets (TTwo Plus s t p w) x) r.2)
  exact_nodes (TTwo Minus s t p w) f x r =
      exact_two Minus s t p w x (exact_nodes s f.0 x.0 r.0) (exact_nodes t f.1 x.1 r.1)
      (small p _ (exact_range vars lets (TTwo Minus s t p w) x) r.2)
  exact_nodes (TTwo Times s t p w) f x r =
      exact_two Times s t p w x (exact_nodes s f.0 x.0 r.0) (exact_nodes t f.1 x.1 r.1)
      (small p _ (exact_range vars lets (TTwo Times s t p w) x) r.2)
  exact_nodes (TPow t n p w) f x r =
      let m = small p _ (exact_range vars lets (TPow t n p w) x) r.1 in (
        exact_nodes t f x.0 r.0,
        same_covers p (power (pair t) n) x.1,
        wider_in p (power (pair t) n) (width t) w x.1 (power_ordered (pair t) n) m x.2,
        rw x.2 (left_no_wider (width t) (least (magnitude p))),
      )

-- the inputs of a fit tree are variables
pub inputs_below : (n k : ℕ) (e : Tree) → is_fit n k e ≡ true → InputsBelow n e
inputs_below n k (Num c) h = tt
inputs_below n k (Input v) h = lt_test v n h
inputs_below n k (Name j) h = tt
inputs_below n k (Neg e) h = inputs_below n k e h
inputs_below n k (Add e f) h = let p = and_parts (is_fit n k e) _ h in (inputs_below n k e p.0, inputs_below n k f p.1)
inputs_below n k (Sub e f) h = let p = and_parts (is_fit n k e) _ h in (inputs_below n k e p.0, inputs_below n k f p.1)
inputs_below n k (Mul e f) h = let p = and_parts (is_fit n k e) _ h in (inputs_below n k e p.0, inputs_below n k f p.1)
inputs_below n k (Pow e m) h = let p = and_parts (is_fit n k e) _ h in inputs_below n k e p.0

-- ---- lets
-- one more let among the ranges
pub pairs_more : (vars : List VarInfo) (done : List Typed) (t : Typed) → IsExact vars done t
    → map pair (done ++ t ∷ []) ≡ map pair done ++ range_over (ranges vars) (map pair done) (untyped t) ∷ []
pairs_more vars done t h = map-append pair done (t ∷ []) ∙ ap (λ (p : Range). map pair done ++ p ∷ []) (exact_range vars done t h)

-- with one more let at the end, a list of lets is longer by one
pub length_more : (done : List Typed) (t : Typed) → length (done ++ t ∷ []) ≡ suc (length done)
length_more [] t = refl
length_more (u ∷ us) t = ap suc (length_more us t)

-- the ranges of exact lets
pub exact_lets : (vars : List VarInfo) (done ts : List Typed) → AreExact vars done ts
    → map pair (done ++ ts) ≡ let_ranges (ranges vars) (map pair done) (map untyped ts)
exact_lets vars done [] h = ap (λ (us : List Typed). map pair us) (append-nil done)
exact_lets vars done (t ∷ ts) h =
    let ih = exact_lets vars (done ++ t ∷ []) ts h.1 in
    ap (λ (us : List Typed). map pair us) (sym (append_assoc done (t ∷ []) ts)) ∙ ih
    ∙ ap (λ (ps : List Range). let_ranges (ranges vars) ps (map untyped ts)) (pairs_more vars done t h.0)

-- their ranges are in order where those of the variables are
abbrev AllOrdered : List Typed → Type 0
AllOrdered ts = (j : ℕ) (u : Typed) → slice_get ts j ≡ Some u → IsOrdered (pair u)

more_ordered : (ts : List Typed) (t : Typed) → AllOrdered ts → IsOrdered (pair t) → AllOrdered (ts ++ t ∷ [])
more_ordered [] t h o zero u e = let q : t ≡ u = cc in rw (← q) o
more_ordered [] t h o (suc j) u e = cc
more_ordered (s ∷ ts) t h o zero u e = h 0 u e
more_ordered (s ∷ ts) t h o (suc j) u e = more_ordered ts t (λ i. h (suc i)) o j u e

-- the ranges of exact lets are in order where those of the variables and of the lets before them are
pub lets_ordered : (vars : List VarInfo) → ((v : ℕ) → IsOrdered (ranges vars v)) → (done ts : List Typed)
    → ((j : ℕ) (u : Typed) → slice_get done j ≡ Some u → IsOrdered (pair u)) → AreExact vars done ts → (j : ℕ) (u : Typed)
    → slice_get (done ++ ts) j ≡ Some u → IsOrdered (pair u)
lets_ordered vars o done [] h x = let e : done ++ [] ≡ done = append-nil done in rw e h
lets_ordered vars o done (t ∷ ts) h x =
    let e : done ++ t ∷ ts ≡ (done ++ t ∷ []) ++ ts = sym (append_assoc done (t ∷ []) ts) in
    rw e (lets_ordered vars o (done ++ t ∷ []) ts (more_ordered done t h (exact_ordered vars done o h t x.0)) x.1)

-- lets on the way: these are done, and the rest follows
pub record LetsSoFar (vars : List VarInfo) (whole rest : List Tree) (done : List Typed) : Type 0 where
  pub goes_on : (us : List Typed) → map untyped us ≡ rest → AreExact vars done us → (map untyped (done ++ us) ≡ whole) × AreExact vars [] (done ++ us)
  pub fit : lets_fit (length vars) (length done) rest ≡ true
  pub small : LetsHaveRange vars (map pair done) rest

-- the beginning of a loop over the lets: none is done
pub lets_start : (vars : List VarInfo) (whole : List Tree) → lets_fit (length vars) 0 whole ≡ true → LetsHaveRange vars [] whole → LetsSoFar vars whole whole []
lets_start vars whole f r = record { goes_on = λ us e h. (e, h); fit = f; small = r }

-- the step of a loop over the lets: one more exact let is done
pub lets_next : (vars : List VarInfo) (whole rest : List Tree) (e : Tree) (done : List Typed) (t : Typed)
    → LetsSoFar vars whole (e ∷ rest) done → untyped t ≡ e → IsExact vars done t → LetsSoFar vars whole rest (done ++ t ∷ [])
lets_next vars whole rest e done t s q h = record {
  goes_on = λ us p g. rw (append_assoc done (t ∷ []) us) (s.goes_on (t ∷ us) (both (untyped t) e (map untyped us) rest q p) (h, g));
  fit = rw (length_more done t) ((and_parts (is_fit (length vars) (length done) e) _ s.fit).1);
  small = rw (pairs_more vars done t h, q) s.small.1;
}
  where
    both : (x y : Tree) (xs ys : List Tree) → x ≡ y → xs ≡ ys → x ∷ xs ≡ y ∷ ys
    both x y xs ys p r = rw (p, r) refl

-- the end of a loop over the lets: the trees that are done are exact and are those of all lets
pub lets_end : (vars : List VarInfo) (whole : List Tree) (done : List Typed) → LetsSoFar vars whole [] done → (map untyped done ≡ whole) × AreExact vars [] done
lets_end vars whole done s =
    let r = s.goes_on [] refl tt in
    let e : done ++ [] ≡ done = append-nil done in
    rw e at r

-- the next let may come next, and its ranges are within the limit
pub next_fit : (vars : List VarInfo) (whole rest : List Tree) (e : Tree) (done : List Typed) → LetsSoFar vars whole (e ∷ rest) done
    → is_fit (length vars) (length done) e ≡ true
next_fit vars whole rest e done s = (and_parts (is_fit (length vars) (length done) e) _ s.fit).0

-- the ranges of the next let's nodes are within the limit
pub next_range : (vars : List VarInfo) (whole rest : List Tree) (e : Tree) (done : List Typed) → LetsSoFar vars whole (e ∷ rest) done
    → HaveRange vars (map pair done) e
next_range vars whole rest e done s = s.small.0

-- the range of a number, an opposite, a sum, difference, product or power of exact trees is within the limit where its node's is
pub two_range : (vars : List VarInfo) (lets : List Typed) (k : Two) (e f : Tree) (s t : Typed) → HaveRange vars (map pair lets) (two_of k e f)
    → untyped s ≡ e → untyped t ≡ f → IsExact vars lets s → IsExact vars lets t → magnitude (range_of k (pair s) (pair t)) ≤ most
two_range vars lets Plus e f s t r p q h g = let a = exact_range vars lets s h in let b = exact_range vars lets t g in rw (a, b, p, q) r.2
two_range vars lets Minus e f s t r p q h g = let a = exact_range vars lets s h in let b = exact_range vars lets t g in rw (a, b, p, q) r.2
two_range vars lets Times e f s t r p q h g = let a = exact_range vars lets s h in let b = exact_range vars lets t g in rw (a, b, p, q) r.2

-- ---- an operation on two trees with these expressions
module _ (k j : Two) (s t : Typed) (e f : Tree) where
  -- its expression
  untyped_two : (p : Range) (w : Width) → j ≡ k → untyped s ≡ e → untyped t ≡ f → untyped (TTwo j s t p w) ≡ two_of k e f
  untyped_two p w i a b = rw (i, a, b) refl

  -- an operation on two trees has the expression of the operation on theirs
  pub two_untyped : (r : Typed) (p : Range) (w : Width) (g : Tree) → j ≡ k → r ≡ TTwo j s t p w → untyped s ≡ e → untyped t ≡ f → g ≡ two_of k e f
      → untyped r ≡ g
  two_untyped r p w g i h a b q = ap untyped h ∙ (untyped_two p w i a b ∙ sym q)

-- the range of a power of an exact tree is within the limit where its node's is
pub power_range : (vars : List VarInfo) (lets : List Typed) (e : Tree) (n : ℕ) (t : Typed) → HaveRange vars (map pair lets) (Pow e n)
    → untyped t ≡ e → IsExact vars lets t → magnitude (power (pair t) n) ≤ most
power_range vars lets e n t r p h = let a = exact_range vars lets t h in rw (a, p) r.1
