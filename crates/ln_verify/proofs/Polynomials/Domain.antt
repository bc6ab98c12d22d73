-- A product of two polynomials reaches, in each variable, the sum of the highest exponents of the two: no cancelling takes that monomial away.
use Rattle.std.proofs.Common.{◌≡◌, ◌⊎◌, inl, inr, ℕ, ◌+◌, ◌*◌, ◌<◌, ◌≤◌, zero, suc, List, [], ◌∷◌, length, get_or, refl, sym, ◌∙◌, ap}
use Rattle.std.proofs.Common.{arith, subst, unsigned_abs}
use Rattle.std.proofs.Math.IntN.{ℤ, pos, negsuc, ◌*ℤ◌}
use Rattle.std.proofs.Math.Nat.{mul-le-mul}
use Rattle.std.proofs.lemmas.Bool.{cases_eq, cases_order}
use Rattle.std.proofs.lemmas.Int.{ints, unsigned_abs-mul}
use Rattle.ln_base.proofs.Texts.Lists.{head, rest}
use Rattle.ln_algebra.specs.Coefficient.{normal_coefficient}
use Rattle.ln_algebra.specs.Stage.{IsMonomial}
use Rattle.ln_algebra.specs.Tree.{Mul, Tree}
use Rattle.ln_algebra.specs.Vector.{In, plus}
use Rattle.ln_algebra.proofs.Expanded.Normal.{zero_cases}
use Rattle.ln_algebra.proofs.Expanded.Shift.{product_is}
use Rattle.ln_algebra.proofs.Expanded.Sums.{sum_parts, sum_splits}
use Rattle.ln_algebra.proofs.Ordering.Admissible.{get_or-plus}
use Rattle.ln_algebra.proofs.Ordering.Products.{left-zero, right-zero}

-- ---- sums with one part that isn't 0
parts-zero : (n : ℕ) (g : ℕ → ℕ → ℤ) → ((i j : ℕ) → i + j ≡ n → g i j ≡ pos 0) → sum_parts n g ≡ pos 0
parts-zero zero g h = h 0 0 refl
parts-zero (suc n) g h =
    let a = h 0 (suc n) (omega arith) in
    let b = parts-zero n (λ i j. g (suc i) j) (λ i j e. h (suc i) j (omega (arith, e))) in
    omega (arith, ints, a, b)

parts-one : (n : ℕ) (g : ℕ → ℕ → ℤ) (t u : ℕ) → t + u ≡ n → ((i j : ℕ) → i + j ≡ n → (i ≡ t → ⊥) → g i j ≡ pos 0) → sum_parts n g ≡ g t u
parts-one zero g zero zero e h = refl
parts-one zero g zero (suc u) e h = absurd (omega arith)
parts-one zero g (suc t) u e h = absurd (omega arith)
parts-one (suc n) g zero u e h =
    let w : u ≡ suc n = omega (arith, e) in
    let b = parts-zero n (λ i j. g (suc i) j) (λ i j d. h (suc i) j (omega (arith, d)) (λ q. omega (arith, q))) in
    let r : g 0 (suc n) ≡ g 0 u = ap (g 0) (sym w) in
    omega (arith, ints, b, r)
parts-one (suc n) g (suc t) u e h =
    let a = h 0 (suc n) (omega arith) (λ q. omega (arith, q)) in
    let b = parts-one n (λ i j. g (suc i) j) t u (omega (arith, e)) (λ i j d ne. h (suc i) j (omega (arith, d)) (λ q. ne (omega (arith, q)))) in
    omega (arith, ints, a, b)

heads : (i j : ℕ) (b c a : List ℕ) (n : ℕ) → plus (i ∷ b) (j ∷ c) ≡ n ∷ a → (i + j ≡ n) × (plus b c ≡ a)
heads i j b c a n e = (cc, cc)

cons : (i j n : ℕ) (b c a : List ℕ) → i + j ≡ n → plus b c ≡ a → plus (i ∷ b) (j ∷ c) ≡ n ∷ a
cons i j n b c a e f = λ k. e k ∷ f k

splits-zero : (a : List ℕ) (h : List ℕ → List ℕ → ℤ)
    → ((b c : List ℕ) → length b ≡ length a → length c ≡ length a → plus b c ≡ a → h b c ≡ pos 0) → sum_splits a h ≡ pos 0
splits-zero [] h z = z [] [] refl refl refl
splits-zero (n ∷ a) h z = parts-zero n (λ i j. sum_splits a (λ b c. h (i ∷ b) (j ∷ c)))
    (λ i j e. splits-zero a (λ b c. h (i ∷ b) (j ∷ c)) (λ b c l r p. z (i ∷ b) (j ∷ c) (ap suc l) (ap suc r) (cons i j n b c a e p)))

splits-one : (a t u : List ℕ) (h : List ℕ → List ℕ → ℤ) → length t ≡ length a → length u ≡ length a → plus t u ≡ a →
    ((b c : List ℕ) → length b ≡ length a → length c ≡ length a → plus b c ≡ a → (b ≡ t → ⊥) → h b c ≡ pos 0) → sum_splits a h ≡ h t u
splits-one [] [] [] h l r p z = refl
splits-one [] [] (y ∷ u) h l r p z = absurd (omega arith)
splits-one [] (x ∷ t) u h l r p z = absurd (omega arith)
splits-one (n ∷ a) [] u h l r p z = absurd (omega arith)
splits-one (n ∷ a) (x ∷ t) [] h l r p z = absurd (omega arith)
splits-one (n ∷ a) (x ∷ t) (y ∷ u) h l r p z =
    let q = heads x y t u a n p in
    parts-one n (λ i j. sum_splits a (λ b c. h (i ∷ b) (j ∷ c))) x y q.0
    (λ i j e ne. splits-zero a (λ b c. h (i ∷ b) (j ∷ c))
    (λ b c f g s. z (i ∷ b) (j ∷ c) (ap suc f) (ap suc g) (cons i j n b c a e s) (λ w. ne (head w))))
    ∙ splits-one a t u (λ b c. h (x ∷ b) (y ∷ c)) (omega (arith, l)) (omega (arith, r)) q.1
    (λ b c f g s ne. z (x ∷ b) (y ∷ c) (ap suc f) (ap suc g) (cons x y n b c a q.0 s) (λ w. ne (rest w)))

-- ---- the order of vectors by their first exponents
abbrev NotAbove : List ℕ → List ℕ → Type 0
NotAbove [] b = Unit {0}
NotAbove (x ∷ a) [] = ⊥
NotAbove (x ∷ a) (y ∷ b) = (x < y) ⊎ ((x ≡ y) × NotAbove a b)

either : (a b : List ℕ) → length a ≡ length b → NotAbove a b ⊎ NotAbove b a
either [] b l = inl tt
either (x ∷ a) [] l = absurd (omega arith)
either (x ∷ a) (y ∷ b) l = by_case (cases_order x y) (either a b (omega (arith, l)))
  where
    by_case : (x ≡ y) ⊎ ((x < y) ⊎ (y < x)) → NotAbove a b ⊎ NotAbove b a → NotAbove (x ∷ a) (y ∷ b) ⊎ NotAbove (y ∷ b) (x ∷ a)
    by_case (inl e) (inl h) = inl (inr (e, h))
    by_case (inl e) (inr h) = inr (inr (sym e, h))
    by_case (inr (inl s)) h = inl (inl s)
    by_case (inr (inr s)) h = inr (inl s)

itself : (a : List ℕ) → NotAbove a a
itself [] = tt
itself (x ∷ a) = inr (refl, itself a)

through : (a b c : List ℕ) → NotAbove a b → NotAbove b c → NotAbove a c
through [] b c h k = tt
through (x ∷ a) [] c h k = absurd h
through (x ∷ a) (y ∷ b) [] h k = absurd k
through (x ∷ a) (y ∷ b) (z ∷ c) (inl s) (inl t) = inl (omega (arith, s, t))
through (x ∷ a) (y ∷ b) (z ∷ c) (inl s) (inr t) = inl (omega (arith, s, t.0))
through (x ∷ a) (y ∷ b) (z ∷ c) (inr s) (inl t) = inl (omega (arith, s.0, t))
through (x ∷ a) (y ∷ b) (z ∷ c) (inr s) (inr t) = inr (s.0 ∙ t.0, through a b c s.1 t.1)

-- two that aren't above two others have their sum only where they are these
tight : (b c t u : List ℕ) → length b ≡ length t → length c ≡ length t → length u ≡ length t → NotAbove b t → NotAbove c u → plus b c ≡ plus t u → b ≡ t
tight [] c [] u l m r h k e = refl
tight [] c (y ∷ t) u l m r h k e = absurd (omega arith)
tight (x ∷ b) c [] u l m r h k e = absurd h
tight (x ∷ b) [] (y ∷ t) u l m r h k e = absurd (omega arith)
tight (x ∷ b) (z ∷ c) (y ∷ t) [] l m r h k e = absurd k
tight (x ∷ b) (z ∷ c) (y ∷ t) (w ∷ u) l m r h k e = by_case h k (λ s s' p. tight b c t u (omega (arith, l)) (omega (arith, m)) (omega (arith, r)) s s' p)
  where
    q : (x + z ≡ y + w) × (plus b c ≡ plus t u)
    q = heads x z b c (plus t u) (y + w) e

    by_case : (x < y) ⊎ ((x ≡ y) × NotAbove b t) → (z < w) ⊎ ((z ≡ w) × NotAbove c u)
        → (NotAbove b t → NotAbove c u → plus b c ≡ plus t u → b ≡ t) → x ∷ b ≡ y ∷ t
    by_case (inl s) (inl s') g = absurd (omega (arith, s, s', q.0))
    by_case (inl s) (inr s') g = absurd (omega (arith, s, s'.0, q.0))
    by_case (inr s) (inl s') g = absurd (omega (arith, s.0, s', q.0))
    by_case (inr s) (inr s') g = let r = g s.1 s'.1 q.1 in let f = s.0 in λ i. f i ∷ r i

-- ---- the highest monomial, by the exponent of v first
abbrev key : ℕ → List ℕ → List ℕ
key v a = get_or a v 0 ∷ a

length-plus : (b c : List ℕ) → length b ≡ length c → length (plus b c) ≡ length b
length-plus [] c l = refl
length-plus (x ∷ b) [] l = absurd (omega arith)
length-plus (x ∷ b) (y ∷ c) l = ap suc (length-plus b c (omega (arith, l)))

record Highest (n v : ℕ) (e : Tree) (ms : List (List ℕ)) : Type 0 where
  pub here : List ℕ
  pub monomial : IsMonomial n e here
  pub highest : (m : List ℕ) → IsMonomial n e m → In ms m → NotAbove (key v m) (key v here)

highest : (n v : ℕ) (e : Tree) (ms : List (List ℕ)) (b : List ℕ) → IsMonomial n e b → Highest n v e ms
highest n v e [] b h = record { here = b; monomial = h; highest = λ m k i. absurd i }
highest n v e (x ∷ ms) b h = by_case (highest n v e ms b h) (cases_eq (length x) n) (zero_cases (normal_coefficient e x))
  where
    no : (t : Highest n v e ms) → (IsMonomial n e x → ⊥) → Highest n v e (x ∷ ms)
    no t none = record {
      here = t.here;
      monomial = t.monomial;
      highest = λ m k i. elim i [ inl q ↦ absurd (none (subst (IsMonomial n e) q k)) | inr j ↦ t.highest m k j ];
    }

    yes' : (t : Highest n v e ms) → IsMonomial n e x → NotAbove (key v x) (key v t.here) ⊎ NotAbove (key v t.here) (key v x) → Highest n v e (x ∷ ms)
    yes' t k (inl l) = record {
      here = t.here;
      monomial = t.monomial;
      highest = λ m k i. elim i [ inl q ↦ subst (λ (z : List ℕ). NotAbove (key v z) (key v t.here)) (sym q) l | inr j ↦ t.highest m k j ];
    }
    yes' t k (inr l) = record {
      here = x;
      monomial = k;
      highest = λ m k i. elim i [
        | inl q ↦ subst (λ (z : List ℕ). NotAbove (key v z) (key v x)) (sym q) (itself (key v x))
        | inr j ↦ through (key v m) (key v t.here) (key v x) (t.highest m k j) l
      ];
    }

    by_case : Highest n v e ms → (length x ≡ n) ⊎ (length x ≡ n → ⊥) → (normal_coefficient e x ≡ pos 0) ⊎ (normal_coefficient e x ≡ pos 0 → ⊥)
        → Highest n v e (x ∷ ms)
    by_case t (inr u) z = no t (λ k. u k.size)
    by_case t (inl l) (inl z) = no t (λ k. k.nonzero z)
    by_case t (inl l) (inr z) = yes' t (record { size = l; nonzero = z }) (either (key v x) (key v t.here) (omega (arith, l, t.monomial.size)))

-- ---- a product of numbers that aren't 0
size-pos : (z : ℤ) → (z ≡ pos 0 → ⊥) → 1 ≤ unsigned_abs z
size-pos (pos zero) h = absurd (h refl)
size-pos (pos (suc n)) h = omega arith
size-pos (negsuc n) h = omega arith

times-nonzero : (y z : ℤ) → (y ≡ pos 0 → ⊥) → (z ≡ pos 0 → ⊥) → y *ℤ z ≡ pos 0 → ⊥
times-nonzero y z h k e =
    let a : unsigned_abs y * unsigned_abs z ≡ 0 = sym (unsigned_abs-mul y z) ∙ ap unsigned_abs e in
    let b : 1 * 1 ≤ unsigned_abs y * unsigned_abs z = mul-le-mul (size-pos y h) (size-pos z k) in
    omega (arith, a, b)

under : (v : ℕ) (b t : List ℕ) → NotAbove (key v b) (key v t) → get_or b v 0 ≤ get_or t v 0
under v b t (inl l) = omega (arith, l)
under v b t (inr r) = omega (arith, r.0)

-- the monomials of a product reach, in each variable, the sum of the exponents of any two monomials of the factors; ms and ks have all of these
pub products-reach : (n v : ℕ) (e f : Tree) (ms ks : List (List ℕ)) (b c : List ℕ) → ((m : List ℕ) → IsMonomial n e m → In ms m) →
    ((m : List ℕ) → IsMonomial n f m → In ks m) →
    IsMonomial n e b → IsMonomial n f c → (m : List ℕ) × IsMonomial n (Mul e f) m × (get_or b v 0 + get_or c v 0 ≤ get_or m v 0)
products-reach n v e f ms ks b c all all' hb hc = (
  plus t.here u.here,
  record {
    size = size;
    nonzero = λ z. times-nonzero (normal_coefficient e t.here) (normal_coefficient f u.here) t.monomial.nonzero u.monomial.nonzero (sym value ∙ z);
  },
  reach,
)
  where
    t : Highest n v e ms
    t = highest n v e ms b hb

    u : Highest n v f ks
    u = highest n v f ks c hc

    same : length t.here ≡ length u.here
    same = t.monomial.size ∙ sym u.monomial.size

    size : length (plus t.here u.here) ≡ n
    size = length-plus t.here u.here same ∙ t.monomial.size

    reach : get_or b v 0 + get_or c v 0 ≤ get_or (plus t.here u.here) v 0
    reach = omega (arith, under v b t.here (t.highest b hb (all b hb)), under v c u.here (u.highest c hc (all' c hc)), get_or-plus t.here u.here v same)

    apart : (x y : List ℕ) → length x ≡ length (plus t.here u.here) → length y ≡ length (plus t.here u.here) →
        plus x y ≡ plus t.here u.here → (x ≡ t.here → ⊥) →
        (normal_coefficient e x ≡ pos 0) ⊎ (normal_coefficient e x ≡ pos 0 → ⊥) →
        (normal_coefficient f y ≡ pos 0) ⊎ (normal_coefficient f y ≡ pos 0 → ⊥) → normal_coefficient e x *ℤ normal_coefficient f y ≡ pos 0
    apart x y l r p ne (inl z) w = left-zero (normal_coefficient e x) (normal_coefficient f y) z
    apart x y l r p ne (inr z) (inl w) = right-zero (normal_coefficient e x) (normal_coefficient f y) w
    apart x y l r p ne (inr z) (inr w) =
        let i : IsMonomial n e x = record { size = l ∙ size; nonzero = z } in
        let j : IsMonomial n f y = record { size = r ∙ size; nonzero = w } in
        let g : get_or x v 0 + get_or y v 0 ≡ get_or t.here v 0 + get_or u.here v 0 =
        sym (get_or-plus x y v (l ∙ sym r)) ∙ ap (λ a. get_or a v 0) p ∙ get_or-plus t.here u.here v same in
        let k : plus (key v x) (key v y) ≡ plus (key v t.here) (key v u.here) =
        cons (get_or x v 0) (get_or y v 0) (get_or t.here v 0 + get_or u.here v 0) x y (plus t.here u.here) g p in
        absurd (ne (rest
        (tight (key v x) (key v y) (key v t.here) (key v u.here) (ap suc (l ∙ size ∙ sym t.monomial.size))
        (ap suc (r ∙ size ∙ sym t.monomial.size)) (ap suc (sym same)) (t.highest x i (all x i)) (u.highest y j (all' y j)) k)))

    value : normal_coefficient (Mul e f) (plus t.here u.here) ≡ normal_coefficient e t.here *ℤ normal_coefficient f u.here
    value =
        product_is (normal_coefficient e) (normal_coefficient f) (plus t.here u.here)
        ∙ splits-one (plus t.here u.here) t.here u.here (λ x y. normal_coefficient e x *ℤ normal_coefficient f y)
        (sym (length-plus t.here u.here same)) (sym same ∙ sym (length-plus t.here u.here same)) refl
        (λ x y l r p ne. apart x y l r p ne (zero_cases (normal_coefficient e x)) (zero_cases (normal_coefficient f y)))
