-- The cost of a nested tree, and how deep a stack it needs.
use Rattle.std.proofs.Common.{◌≡◌, ℕ, ◌+◌, ◌*◌, ◌≤◌, max, List, [], ◌∷◌, length, refl, zero, suc, arith}
use Rattle.ln_algebra.specs.Terms.{Term}
use Rattle.ln_algebra.specs.Tree.{Tree, Num, Input, Name, Neg, Add, Sub, Mul, Pow}
use Rattle.ln_algebra.specs.Vector.{degree}
use Rattle.ln_bound.specs.declared.fitted.Two.TheVariants.{Plus, Minus, Times}
use Rattle.ln_bound.specs.Typed.{Typed, TNum, TInput, TLet, TNeg, TTwo, TPow, cost, need, untyped}
use Rattle.ln_poly.proofs.TermLists.Fewest.{EachHas}
use Rattle.ln_nest.specs.Nested.{exponent_of, lessened, divided, free_of, power_at_once, joined, horner, nested, power, scaled}
use Rattle.ln_nest.proofs.Terms.Parts.{HavePower, at_once_is, by_parts, each_divided, each_free, nested_has}
use Rattle.ln_nest.proofs.Terms.Powers.{power_has}
use Rattle.ln_nest.proofs.Terms.Scaled.{scaled_cases}

-- the cost of a tree without bounds
abbrev pub cost_of : Tree → ℕ
cost_of (Num c) = 1
cost_of (Input v) = 1
cost_of (Name j) = 1
cost_of (Neg e) = cost_of e + 1
cost_of (Add e f) = cost_of e + cost_of f + 1
cost_of (Sub e f) = cost_of e + cost_of f + 1
cost_of (Mul e f) = cost_of e + cost_of f + 1
cost_of (Pow e n) = cost_of e + (2 * n + 1)

-- the cost of a tree with bounds is that of the tree without them
pub cost_same : (t : Typed) → cost t ≡ cost_of (untyped t)
cost_same (TNum c b w) = refl
cost_same (TInput v b w) = refl
cost_same (TLet j b w) = refl
cost_same (TNeg t b w) = let p = cost_same t in omega (arith, p)
cost_same (TTwo Plus s t b w) = let p = cost_same s in let q = cost_same t in omega (arith, p, q)
cost_same (TTwo Minus s t b w) = let p = cost_same s in let q = cost_same t in omega (arith, p, q)
cost_same (TTwo Times s t b w) = let p = cost_same s in let q = cost_same t in omega (arith, p, q)
cost_same (TPow t n b w) = let p = cost_same t in omega (arith, p)

-- how many values a stack holds at most while a tree without bounds is evaluated
abbrev pub need_of : Tree → ℕ
need_of (Num c) = 1
need_of (Input v) = 1
need_of (Name j) = 1
need_of (Neg e) = need_of e
need_of (Add e f) = max (need_of e) (need_of f + 1)
need_of (Sub e f) = max (need_of e) (need_of f + 1)
need_of (Mul e f) = max (need_of e) (need_of f + 1)
need_of (Pow e n) = max (need_of e) 2

-- so is its need
pub need_same : (t : Typed) → need t ≡ need_of (untyped t)
need_same (TNum c b w) = refl
need_same (TInput v b w) = refl
need_same (TLet j b w) = refl
need_same (TNeg t b w) = need_same t
need_same (TTwo Plus s t b w) = let p = need_same s in let q = need_same t in rw (p, q) refl
need_same (TTwo Minus s t b w) = let p = need_same s in let q = need_same t in rw (p, q) refl
need_same (TTwo Times s t b w) = let p = need_same s in let q = need_same t in rw (p, q) refl
need_same (TPow t n b w) = let p = need_same t in rw p refl

-- ---- the cost
-- thrice the degree and 2, over all terms
abbrev pub allowance : List Term → ℕ
allowance [] = 0
allowance (t ∷ f) = 3 * degree t.exponents + 2 + allowance f

-- with e less of v the degree is e less
less_degree : (e v : ℕ) (m : List ℕ) → e ≤ exponent_of v m → degree m ≡ e + degree (lessened e v m)
less_degree e v [] l = omega (arith, l)
less_degree e zero (k ∷ m) l = omega (arith, l)
less_degree e (suc v) (k ∷ m) l = let ih = less_degree e v m l in omega (arith, ih)

-- the allowance of the terms, by those with v and the others
parts_allowance : (e v : ℕ) (f : List Term) → HavePower e v f
    → allowance (divided e v f) + 3 * (e * length (divided e v f)) + allowance (free_of v f) ≡ allowance f
parts_allowance e v f =
    by_parts e v (λ f g h. HavePower e v f → allowance g + 3 * (e * length g) + allowance h ≡ allowance f) (λ c. omega arith)
    (λ t f g h q ih c. omega (arith, ih c.1, less_degree e v t.exponents (c.0 q))) (λ t f g h q ih c. omega (arith, ih c.1)) f

-- the cost of a list's tree is below the allowance, and 1 where the list has no term
abbrev pub Cheap : Tree → List Term → Type 0
Cheap e f = cost_of e + 1 ≤ max 2 (allowance f)

-- a power takes less than thrice its exponent
cost_power : (v k e : ℕ) → 1 ≤ e → e ≤ k + 1 → cost_of (power k v e) + 1 ≤ 3 * e
cost_power v = power_has v (λ e t. cost_of t + 1 ≤ 3 * e) (omega arith) (λ e t l h. omega (arith, h)) (λ e t l h. omega (arith, h, l))

-- x times a tree takes one operation more than both at most
pub cost_scaled : (x h : Tree) → cost_of (scaled x h) ≤ cost_of x + cost_of h + 1
cost_scaled x h = scaled_cases x h (λ t. cost_of t ≤ cost_of x + cost_of h + 1) (λ e. omega arith) (λ e. omega arith) (omega arith)

-- so a step is cheap where its parts are
joined_cheap : (e : ℕ) (x h i : Tree) (p q : List Term) (n : ℕ) → cost_of x + 1 ≤ 3 * e → Cheap h p → Cheap i q
    → allowance p + 3 * (e * length p) + allowance q ≡ n → cost_of (joined x h i p q) + 1 ≤ max 2 n
joined_cheap e x h i [] q n c a b r = omega (arith, b, r)
joined_cheap e x h i (t ∷ p) [] n c a b r = let s = cost_scaled x h in omega (arith, a, c, r, s)
joined_cheap e x h i (t ∷ p) (y ∷ q) n c a b r = let s = cost_scaled x h in omega (arith, a, b, c, r, s)

-- each term is among those with v or the others
pub parts_length : (e v : ℕ) (f : List Term) → length (divided e v f) + length (free_of v f) ≡ length f
parts_length e v f =
    by_parts e v (λ f g h. length g + length h ≡ length f) refl (λ t f g h e ih. omega (arith, ih)) (λ t f g h e ih. omega (arith, ih)) f

-- the whole nested tree
pub nested_cheap : (d k v : ℕ) (f : List Term) → Cheap (nested d k v f) f
nested_cheap d k v f =
    nested_has (k + v) (λ g e. Cheap e g) (λ g. omega arith)
    (λ v e f h i l o a b. joined_cheap e (power e v e) h i (divided e v f) (free_of v f) (allowance f) (cost_power v e e o.0 (omega (arith, o.1))) a b
    (parts_allowance e v f o.2)) d k v refl f

-- ---- the stack
-- no term has a degree above d
abbrev pub AllDegrees : ℕ → List Term → Type 0
AllDegrees d f = EachHas (λ m. degree m ≤ d) f

-- the terms without v keep their degrees
free_degrees : (v d : ℕ) (f : List Term) → AllDegrees d f → AllDegrees d (free_of v f)
free_degrees v d = each_free v (λ m. degree m ≤ d) (λ m. degree m ≤ d) (λ m e a. a)

-- dividing takes a degree away
divided_degrees : (e v d : ℕ) (f : List Term) → 1 ≤ e → HavePower e v f → AllDegrees (suc d) f → AllDegrees d (divided e v f)
divided_degrees e v d f o = each_divided e v (λ m. degree m ≤ suc d) (λ m. degree m ≤ d) (λ m q l a. omega (arith, less_degree e v m l, a, o)) f

-- where all degrees are 0 no term has v
none_divided : (e v : ℕ) (f : List Term) → 1 ≤ e → HavePower e v f → AllDegrees 0 f → divided e v f ≡ []
none_divided e v f o =
    by_parts e v (λ f g h. HavePower e v f → AllDegrees 0 f → g ≡ []) (λ c a. refl)
    (λ t f g h q ih c a. absurd (omega (arith, o, less_degree e v t.exponents (c.0 q), a.0))) (λ t f g h q ih c a. ih c.1 a.1) f

-- a tree needs a place
some_need : (t : Tree) → 1 ≤ need_of t
some_need (Num c) = omega arith
some_need (Input v) = omega arith
some_need (Name j) = omega arith
some_need (Neg e) = some_need e
some_need (Add e f) = omega arith
some_need (Sub e f) = omega arith
some_need (Mul e f) = omega arith
some_need (Pow e n) = omega arith

-- a power needs two at most
need_power : (v k e : ℕ) → 1 ≤ e → e ≤ k + 1 → need_of (power k v e) ≤ 2
need_power v = power_has v (λ e t. need_of t ≤ 2) (omega arith) (λ e t l h. omega (arith, h)) (λ e t l h. omega (arith, h))

-- a power times a tree needs one place more at most
need_scaled : (x h : Tree) → need_of x ≤ 2 → need_of (scaled x h) ≤ need_of h + 1
need_scaled x h l =
    let s = some_need h in
    scaled_cases x h (λ t. need_of t ≤ need_of h + 1) (λ e. omega (arith, l, s)) (λ e. omega (arith, l, s)) (omega (arith, l, s))

-- so does a step over its parts
joined_need : (x h i : Tree) (p q : List Term) (n : ℕ) → need_of x ≤ 2 → need_of h + 1 ≤ n → need_of i + 1 ≤ n → need_of (joined x h i p q) ≤ n
joined_need x h i [] q n l a b = omega (arith, b)
joined_need x h i (t ∷ p) [] n l a b = let s = need_scaled x h l in omega (arith, a, s)
joined_need x h i (t ∷ p) (y ∷ q) n l a b = let s = need_scaled x h l in omega (arith, a, b, s)

-- the stack of a nested tree is as deep as a term's degree, and k more
abbrev pub IsShallow : ℕ → (List Term → Tree) → Type 0
IsShallow k inner = (d : ℕ) (g : List Term) → AllDegrees d g → need_of (inner g) ≤ d + k

-- by powers of v
horner_need : (v k : ℕ) (inner : List Term → Tree) → IsShallow k inner → (b d : ℕ) (f : List Term) → AllDegrees d f → need_of (horner inner v b f) ≤ d + (k + 1)
horner_need v k inner is zero d f a = let r = is d f a in omega (arith, r)
horner_need v k inner is (suc b) zero f a =
    let o = at_once_is v f in
    let q = none_divided (power_at_once v f) v f o.0 o.2 a in
    let r = is 0 (free_of v f) (free_degrees v 0 f a) in
    rw q (omega (arith, r))
horner_need v k inner is (suc b) (suc d) f a =
    let e = power_at_once v f in
    let o = at_once_is v f in
    let r = is (suc d) (free_of v f) (free_degrees v (suc d) f a) in
    let s = horner_need v k inner is b d (divided e v f) (divided_degrees e v d f o.0 o.2 a) in
    joined_need (power e v e) (horner inner v b (divided e v f)) (inner (free_of v f)) (divided e v f) (free_of v f) (suc d + (k + 1))
    (need_power v e e o.0 (omega (arith, o.1))) (omega (arith, s)) (omega (arith, r))

-- the whole nested tree
pub nested_need : (d k v : ℕ) → IsShallow (k + 1) (nested d k v)
nested_need d zero v e f a = omega arith
nested_need d (suc k) v e f a =
    let is : IsShallow (k + 1) (nested d k (suc v)) = nested_need d k (suc v) in
    let r = horner_need v (k + 1) (nested d k (suc v)) is d e f a in
    omega (arith, r)
