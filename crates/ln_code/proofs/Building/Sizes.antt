-- How many operations code has, and what its stores have.
use Rattle.std.proofs.Common.{◌≡◌, ℕ, ◌+◌, ◌≤◌, Bool, true, false, List, [], ◌∷◌, ◌++◌, length, zero, suc, arith, length-append}
use Rattle.ln_interval.specs.Range.{Range}
use Rattle.ln_bound.specs.declared.fitted.Width.{Width}
use Rattle.ln_bound.specs.declared.fitted.Two.{Two}
use Rattle.ln_bound.specs.declared.fitted.Two.TheVariants.{Plus, Minus, Times}
use Rattle.ln_bound.specs.Typed.{Typed, TNum, TInput, TLet, TNeg, TTwo, TPow, cost}
use Rattle.ln_code.specs.declared.op.Op.TheVariants.{Mul, Neg, Set}
use Rattle.ln_code.specs.Engine.{Line, op_of}
use Rattle.ln_code.specs.Kept.{StoresHave}
use Rattle.ln_code.specs.StackCode.{AreCode, IsCode, IsCodeIn, Style, after_left, division, factors, keeping, after_right, line, power_of, raised_to}
use Rattle.ln_code.specs.StackCode.{with_division, again, keep, name, number, opposite, raised, two, variable, zeroth, more, none}

-- ---- how many

-- a tree costs an operation
pub cost_positive : (t : Typed) → 1 ≤ cost t
cost_positive (TNum c p w) = omega arith
cost_positive (TInput v p w) = omega arith
cost_positive (TLet j p w) = omega arith
cost_positive (TNeg t p w) = omega arith
cost_positive (TTwo k s t p w) = omega arith
cost_positive (TPow t n p w) = omega arith

-- n times c + 2
abbrev pub per : ℕ → ℕ → ℕ
per c zero = 0
per c (suc n) = per c n + (c + 2)

-- each division takes at most c operations, and each node adds at most this much to what its operands have; two remain for what keeps it
pub record Weighs {B : Type 0} (y : Style B) (c : ℕ) (weight : Typed → ℕ) : Type 0 where
  pub excess : (b : B) → length (division y.divided (y.excess b) b) ≤ c
  pub align : (o : Two) (a b : B) → length (division y.divided (y.align o a b) a) ≤ c
  pub least : (t : Typed) → c + 3 ≤ weight t
  pub opposite : (t : Typed) (p : Range) (w : Width) → weight t + 3 ≤ weight (TNeg t p w)
  pub two : (o : Two) (t u : Typed) (p : Range) (w : Width) → weight t + weight u + (c + c + c + 3) ≤ weight (TTwo o t u p w)
  pub raised : (t : Typed) (n : ℕ) (p : Range) (w : Width) → weight t + per c n + 4 ≤ weight (TPow t (suc n) p w)

factors_weight : {B : Type 0} (y : Style B) (c : ℕ) (weight : Typed → ℕ) (h : Weighs y c weight) (t : Typed) (w : Width) (m n : ℕ)
    → length (factors y t w m n) ≤ per c n
factors_weight y c weight h t w m zero = omega arith
factors_weight y c weight h t w m (suc n) =
    let b = y.raw (raised_to t (suc m) w) in
    let i = factors_weight y c weight h t w (suc m) n in
    let x = h.excess b in
    let e = length-append (with_division y (Mul (y.at_width w)) b) (factors y t w (suc m) n) in
    omega (arith, i, x, e)

power_weight : {B : Type 0} (y : Style B) (c : ℕ) (weight : Typed → ℕ) (h : Weighs y c weight) (t : Typed) (w : Width) (n : ℕ)
    → length (power_of y t w n) ≤ per c n + 2
power_weight y c weight h t w zero = omega arith
power_weight y c weight h t w (suc n) = let i = factors_weight y c weight h t w 1 (suc n) in omega (arith, i)

-- what is left for the operations that keep a tree
abbrev spare : Bool → ℕ
spare true = 2
spare false = 0

-- code of a tree has at most its weight of operations
pub tree_weight : {B : Type 0} (y : Style B) (c : ℕ) (weight : Typed → ℕ) (h : Weighs y c weight) {kept : List Typed} {t : Typed} {lines : List (Line B)}
    {new : List Typed} {b : Bool} → IsCode y kept t lines new b → length lines + spare b ≤ weight t
tree_weight y c weight h (number z p w) = let l = h.least (TNum z p w) in omega (arith, l)
tree_weight y c weight h (variable v p w) =
    let l = h.least (TInput v p w) in
    let x = h.excess (y.raw (TInput v p w)) in
    omega (arith, l, x)
tree_weight y c weight h (name j p w) = let l = h.least (TLet j p w) in omega (arith, l)
tree_weight y c weight h (again {t = t} i e) = let l = h.least t in omega (arith, l)
tree_weight y c weight h (opposite {t = t} {lines = lines} {b = b} p w x) =
    let i = tree_weight y c weight h x in
    let o = h.opposite t p w in
    let e = length-append lines (line (Neg (y.at_width w)) (y.mark (TNeg t p w)) ∷ []) in
    omega (arith, i, o, e)
tree_weight y c weight h (two {t = t} {u = u} {left = left} {right = right} o p w x z) =
    let i = tree_weight y c weight h x in
    let j = tree_weight y c weight h z in
    let k = h.two o t u p w in
    let b = y.raw (TTwo o t u p w) in
    let second = division y.divided (y.align o (y.mark u) (y.mark t)) (y.mark u) in
    let l = h.align o (y.mark t) (y.mark u) in
    let m = h.align o (y.mark u) (y.mark t) in
    let n = h.excess b in
    let e = length-append left (after_left y o t u ++ (right ++ after_right y o t u p w)) in
    let f = length-append (after_left y o t u) (right ++ after_right y o t u p w) in
    let g = length-append right (after_right y o t u p w) in
    let q = length-append second (with_division y (op_of o (y.at_width w)) b) in
    omega (arith, i, j, k, l, m, n, e, f, g, q)
tree_weight y c weight h (zeroth t p w) = let l = h.least (TPow t zero p w) in omega (arith, l)
tree_weight y c weight h (raised {t = t} {lines = lines} n p w x) =
    let i = tree_weight y c weight h x in
    let o = h.raised t n p w in
    let k = power_weight y c weight h t w n in
    let e = length-append lines (power_of y t w n) in
    omega (arith, i, o, k, e)
tree_weight y c weight h (keep {kept = kept} {more = before} {t = t} {lines = lines} x) =
    let i = tree_weight y c weight h x in
    let e = length-append lines (keeping y.none (65 + length (kept ++ before)) (y.mark t)) in
    omega (arith, i, e)

-- the weights of several together
abbrev pub weights : (Typed → ℕ) → List Typed → ℕ
weights weight [] = 0
weights weight (t ∷ ts) = weight t + weights weight ts

weights_snoc : (weight : Typed → ℕ) (ts : List Typed) (t : Typed) → weights weight (ts ++ (t ∷ [])) ≡ weights weight ts + weight t
weights_snoc weight [] t = omega arith
weights_snoc weight (u ∷ us) t = let h = weights_snoc weight us t in omega (arith, h)

-- code of lets takes one operation more each
lets_weight : {B : Type 0} (y : List Typed → Style B) (c : ℕ) (weight : Typed → ℕ) (h : (lets : List Typed) → Weighs (y lets) c weight) {ts : List Typed}
    {lines : List (Line B)} {kept : List Typed} → AreCode y ts lines kept → length lines ≤ weights weight ts + length ts
lets_weight y c weight h none = omega arith
lets_weight y c weight h (more {ts = ts} {t = t} {lines = lines} {last = last} x w) =
    let i = lets_weight y c weight h x in
    let j = tree_weight (y ts) c weight (h ts) w in
    let set = line (Set (length ts)) (y ts).none ∷ [] in
    let e = length-append lines (last ++ set) in
    let f = length-append last set in
    let g = weights_snoc weight ts t in
    let l = length-append ts (t ∷ []) in
    omega (arith, i, j, e, f, g, l)

-- code of lets and of a tree has at most their weights, and one operation more for each let
pub code_weight : {B : Type 0} (y : List Typed → Style B) (c : ℕ) (weight : Typed → ℕ) (h : (lets : List Typed) → Weighs (y lets) c weight)
    (lets : List Typed) (t : Typed) (lines : List (Line B)) → IsCodeIn y lets t lines → length lines ≤ weights weight lets + length lets + weight t
code_weight y c weight h lets t lines code =
    let i = lets_weight y c weight h code.lets_code in
    let j = tree_weight (y lets) c weight (h lets) code.root_code in
    let e = length-append code.first code.last in
    rw code.all (omega (arith, i, j, e))

-- ---- what stores has

-- what stores has this bound, in two parts where it has in each
pub stores_append : {B : Type 0} (z : B) (a b : List (Line B)) → StoresHave z a → StoresHave z b → StoresHave z (a ++ b)
stores_append z [] b h k = k
stores_append z (x ∷ xs) b h k = (h.0, stores_append z xs b h.1 k)

cut_stores : {B : Type 0} (y : Style B) (z : B) (n : ℕ) (b : B) → StoresHave z (division y.divided n b)
cut_stores y z zero b = tt
cut_stores y z (suc n) b = (λ e. cc, tt)

two_stores : {B : Type 0} (y : Style B) (z : B) (o : Two) (w : Width) (b : B) → StoresHave z (with_division y (op_of o w) b)
two_stores y z Plus w b = (λ e. cc, cut_stores y z (y.excess b) b)
two_stores y z Minus w b = (λ e. cc, cut_stores y z (y.excess b) b)
two_stores y z Times w b = (λ e. cc, cut_stores y z (y.excess b) b)

factors_store : {B : Type 0} (y : Style B) (z : B) (t : Typed) (w : Width) (m n : ℕ) → StoresHave z (factors y t w m n)
factors_store y z t w m zero = tt
factors_store y z t w m (suc n) = (
  λ e. cc,
  stores_append z (with_division y (Mul (y.at_width w)) (y.raw (raised_to t (suc m) w))) _ (two_stores y z Times (y.at_width w) _)
      (factors_store y z t w (suc m) n),
)

power_stores : {B : Type 0} (y : Style B) (z : B) (t : Typed) (w : Width) (n : ℕ) → y.none ≡ z → StoresHave z (power_of y t w n)
power_stores y z t w zero h = tt
power_stores y z t w (suc n) h = (λ e. h, (λ e. cc, factors_store y z t w 1 (suc n)))

tree_stores : {B : Type 0} (y : Style B) (z : B) → y.none ≡ z → {kept : List Typed} {t : Typed} {lines : List (Line B)} {new : List Typed} {b : Bool}
    → IsCode y kept t lines new b → StoresHave z lines
tree_stores y z h (number c p w) = (λ e. cc, tt)
tree_stores y z h (variable v p w) = (λ e. cc, cut_stores y z _ _)
tree_stores y z h (name j p w) = (λ e. cc, tt)
tree_stores y z h (again i e) = (λ e. cc, tt)
tree_stores y z h (opposite {t = t} {lines = lines} p w x) = stores_append z lines _ (tree_stores y z h x) (λ e. cc, tt)
tree_stores y z h (two {t = t} {u = u} {left = left} {right = right} o p w x v) =
    let last = stores_append z (division y.divided (y.align o (y.mark u) (y.mark t)) (y.mark u))
    (with_division y (op_of o (y.at_width w)) (y.raw (TTwo o t u p w)))
    (cut_stores y z (y.align o (y.mark u) (y.mark t)) (y.mark u)) (two_stores y z o (y.at_width w) (y.raw (TTwo o t u p w))) in
    stores_append z left _ (tree_stores y z h x) (stores_append z (after_left y o t u) _ (cut_stores y z (y.align o (y.mark t) (y.mark u)) (y.mark t))
    (stores_append z right _ (tree_stores y z h v) last))
tree_stores y z h (zeroth t p w) = (λ e. cc, tt)
tree_stores y z h (raised {t = t} {lines = lines} n p w x) = stores_append z lines _ (tree_stores y z h x) (power_stores y z t w n h)
tree_stores y z h (keep {lines = lines} x) = stores_append z lines _ (tree_stores y z h x) (λ e. h, (λ e. cc, tt))

lets_store : {B : Type 0} (y : List Typed → Style B) (z : B) → ((lets : List Typed) → (y lets).none ≡ z) → {ts : List Typed} {lines : List (Line B)}
    {kept : List Typed} → AreCode y ts lines kept → StoresHave z lines
lets_store y z h none = tt
lets_store y z h (more {ts = ts} {lines = lines} {last = last} x w) =
    stores_append z lines _ (lets_store y z h x) (stores_append z last _ (tree_stores (y ts) z (h ts) w) (λ e. h ts, tt))

-- in code of lets and of a tree, what stores has the style's bound
pub code_stores : {B : Type 0} (y : List Typed → Style B) (z : B) → ((lets : List Typed) → (y lets).none ≡ z) → (lets : List Typed) (t : Typed)
    (lines : List (Line B)) → IsCodeIn y lets t lines → StoresHave z lines
code_stores y z h lets t lines c =
    rw c.all (stores_append z c.first c.last (lets_store y z h c.lets_code) (tree_stores (y lets) z (h lets) c.root_code))
